use Rattle.std.proofs.Common.{◌*ℤ◌, rules, FitsSigned, arith}
use Rattle.std.proofs.lemmas.Int.{to_z-of_z}
use Rattle.std.specs.Int.{w128}
use Rattle.gd_int.proofs.Orders.{at_most_from_cmp, at_least_from_cmp}
use Rattle.gd_int.proofs.roots.cmp_root.Goals as goal

pub returns-clause-value : goal.returns-clause-value
returns-clause-value c =
    let l : FitsSigned w128 c.signed_square-left.result = search rules in
    let h : FitsSigned w128 c.signed_square.result = search rules in
    let n : FitsSigned w128 c.args.n2 = search rules in
    let r : FitsSigned w128 (c.signed_square.result *ℤ c.args.n2) = search rules in
    grind (arith, to_z-of_z, c.cmp.ensures)

pub returns-clause-at_most : goal.returns-clause-at_most
returns-clause-at_most c = rw (returns-clause-value c) (at_most_from_cmp c.args.s c.args.h c.args.n2)

pub returns-clause-at_least : goal.returns-clause-at_least
returns-clause-at_least c = rw (returns-clause-value c) (at_least_from_cmp c.args.s c.args.h c.args.n2)
