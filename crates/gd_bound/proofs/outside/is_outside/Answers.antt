use Rattle.std.proofs.Common.{rules, FitsSigned, ◌≡◌, ◌∙◌}
use Rattle.std.proofs.lemmas.Int.{to_z-of_z}
use Rattle.std.specs.Int.{w128}
use Rattle.gd_bound.proofs.Written.{outside-axis}
use Rattle.gd_quat.specs.Formulas.{ends}
use Rattle.gd_zone.specs.Refutations.{distance_outside}
use Rattle.gd_bound.proofs.outside.is_outside.Goals as goal

pub returns-in-Axis : goal.returns-in-Axis
returns-in-Axis c =
    let n : FitsSigned w128 c.length2-n2.result = search rules in
    let e : c.is_distance_outside.result ≡ distance_outside c.args.lo c.args.hi c.length2-n2.result (ends c.args.value) = rw (to_z-of_z w128 c.length2-n2.result n) at c.is_distance_outside.ensures in
    e ∙ outside-axis c.args.surface.now c.in-Axis.direction c.in-Axis.point c.args.lo c.args.hi (ends c.args.value) c.length2-n2.result c.in-Axis.is c.length2-n2.ensures.value
