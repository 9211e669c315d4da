use Rattle.std.proofs.Common.{rules, FitsSigned}
use Rattle.std.proofs.lemmas.Int.{to_z-of_z}
use Rattle.std.specs.Int.{w128}
use Rattle.gd_zone.proofs.Sizes.{bound-size}
use Rattle.gd_zone.proofs.compare.is_at_least.Goals as goal

pub cmp_root-requires-clause-product : goal.cmp_root-requires-clause-product
cmp_root-requires-clause-product c =
    let h : FitsSigned w128 c.fine_bound.result = search rules in
    let n : FitsSigned w128 c.args.n2 = search rules in
    rw (to_z-of_z w128 c.fine_bound.result h, to_z-of_z w128 c.args.n2 n) (bound-size c.fine_bound.result c.args.n2 c.fine_bound.ensures.size c.requires.n2)
