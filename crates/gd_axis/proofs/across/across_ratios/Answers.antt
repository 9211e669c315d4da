use Rattle.std.proofs.Common.{◌≡◌, rules}
use Rattle.gd_axis.proofs.AxisSizes.{across-is}
use Rattle.gd_axis.specs.Shorts.{short_ends, short_vector}
use Rattle.gd_axis.specs.AxisTests.{minor}
use Rattle.gd_axis.proofs.across.across_ratios.Goals as goal

pub returns-clause-ends : goal.returns-clause-ends
returns-clause-ends c =
    let n = c.args.n.now in
    let y = c.args.y.now in
    let e : short_ends c.ratio_minor.result ≡ minor 30 (short_ends n.y) (short_ends y.z) (short_ends n.z) (short_ends y.y) = search rules in
    let f : short_ends c.ratio_minor-2.result ≡ minor 30 (short_ends n.z) (short_ends y.x) (short_ends n.x) (short_ends y.z) = search rules in
    let g : short_ends c.ratio_minor-3.result ≡ minor 30 (short_ends n.x) (short_ends y.y) (short_ends n.y) (short_ends y.x) = search rules in
    across-is 30 (short_vector n) (short_vector y) (short_ends c.ratio_minor.result) (short_ends c.ratio_minor-2.result) (short_ends c.ratio_minor-3.result) e f g
