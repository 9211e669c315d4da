use Rattle.std.proofs.Common.{arith, rules, pos, ◌*◌, ◌^◌}
use Rattle.gd_axis.proofs.AxisSizes.{fits-in}
use Rattle.gd_quat.proofs.Sizes.{multiple-fits}
use Rattle.gd_quat.specs.Boxes.{Fits}
use Rattle.gd_axis.proofs.axis.whole_length2.Goals as goal

pub scale-requires-clause-lo : goal.scale-requires-clause-lo
scale-requires-clause-lo c = let f : Fits (3 * 2 ^ 20) c.squared.result = c.squared.ensures.small (2 ^ 10) c.requires in omega (arith, f.lo)

pub scale-requires-clause-hi : goal.scale-requires-clause-hi
scale-requires-clause-hi c = let f : Fits (3 * 2 ^ 20) c.squared.result = c.squared.ensures.small (2 ^ 10) c.requires in omega (arith, f.hi)

pub returns-clause-size : goal.returns-clause-size
returns-clause-size c =
    let f : Fits (3 * 2 ^ 20) c.squared.result = c.squared.ensures.small (2 ^ 10) c.requires in
    fits-in (3 * 2 ^ 20 * 2 ^ 32) (2 ^ 54) c.scale.result (omega arith) (multiple-fits c.squared.result c.scale.result (pos (2 ^ 32)) (3 * 2 ^ 20) (2 ^ 32) f (omega arith) (search rules) (search rules))
