use Rattle.std.proofs.Common.{arith, rules, ◌*◌, ◌^◌}
use Rattle.gd_axis.proofs.AxisSizes.{fits-in, narrow-fits}
use Rattle.gd_quat.specs.Boxes.{Fits}
use Rattle.gd_axis.proofs.axis.ratio_length2.Goals as goal

pub narrow-requires-clause-hi : goal.narrow-requires-clause-hi
narrow-requires-clause-hi c = let f : Fits (3 * 2 ^ 60) c.squared.result = c.squared.ensures.small (2 ^ 30) c.requires in omega (arith, f.hi)

pub returns-clause-size : goal.returns-clause-size
returns-clause-size c =
    let f : Fits (3 * 2 ^ 60) c.squared.result = c.squared.ensures.small (2 ^ 30) c.requires in
    fits-in (3 * 2 ^ 32) (2 ^ 54) c.narrow.result (omega arith) (narrow-fits c.squared.result c.narrow.result 28 (3 * 2 ^ 32) f (search rules) (search rules))
