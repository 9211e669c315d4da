use Rattle.std.proofs.Common.{FitsSigned, rules, arith, unsigned_abs, ◌*◌, ◌^◌, ◌≤◌}
use Rattle.std.proofs.lemmas.Int.{to_z-of_z}
use Rattle.std.specs.Int.{w128}
use Rattle.gd_flat.proofs.Sizes.{tolerance-size}
use Rattle.gd_axis.proofs.ring.compared.Goals as goal

pub cmp_root-requires-clause-product : goal.cmp_root-requires-clause-product
cmp_root-requires-clause-product c =
    let t : FitsSigned w128 c.from.result = search rules in
    let m : FitsSigned w128 c.args.length2 = search rules in
    let s : unsigned_abs c.args.length2 ≤ 3 * 2 ^ 60 = omega (arith, c.requires.length2) in
    rw (to_z-of_z w128 c.from.result t, to_z-of_z w128 c.args.length2 m, c.from.ensures) (tolerance-size c.args.tolerance (unsigned_abs c.args.length2) c.requires.tolerance s)
