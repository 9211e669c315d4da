use Rattle.std.proofs.Common.{◌^◌}
use Rattle.gd_axis.proofs.AxisSizes.{hi-is-distance2, lo-is-distance2}
use Rattle.gd_axis.proofs.view.single_value.Goals as goal

pub returns-clause-lo : goal.returns-clause-lo
returns-clause-lo c = lo-is-distance2 c.squared.result c.squared.ensures.not_negative (c.squared.ensures.small (2 ^ 56) c.across_offset.ensures.size)

pub returns-clause-hi : goal.returns-clause-hi
returns-clause-hi c = hi-is-distance2 c.squared.result c.squared.ensures.not_negative (c.squared.ensures.small (2 ^ 56) c.across_offset.ensures.size)
