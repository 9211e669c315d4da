use Rattle.std.proofs.Common.{◌≡◌, rules}
use Rattle.gd_zone.specs.Shorts.{short_ends, short_vector}
use Rattle.gd_quat.specs.Formulas.{difference, multiple}
use Rattle.gd_zone.proofs.Sizes.{across-is}
use Rattle.gd_zone.proofs.values.crossed.Goals as goal

pub returns-clause-ends : goal.returns-clause-ends
returns-clause-ends c =
    let y = short_vector c.args.y.now in
    let d = c.args.direction.now in
    let e : short_ends c.minor.result ≡ difference (multiple y.z d.y) (multiple y.y d.z) = search rules in
    let f : short_ends c.minor-2.result ≡ difference (multiple y.x d.z) (multiple y.z d.x) = search rules in
    let g : short_ends c.minor-3.result ≡ difference (multiple y.y d.x) (multiple y.x d.y) = search rules in
    across-is d y (short_ends c.minor.result) (short_ends c.minor-2.result) (short_ends c.minor-3.result) e f g
