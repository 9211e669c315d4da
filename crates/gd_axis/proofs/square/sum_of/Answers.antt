use Rattle.std.proofs.Common.{arith, rules, ◌*◌, ◌^◌}
use Rattle.gd_axis.proofs.AxisSizes.{sum-fits}
use Rattle.gd_zone.proofs.Sizes.{add-below}
use Rattle.gd_axis.proofs.square.sum_of.Goals as goal

pub add-requires-clause-hi : goal.add-requires-clause-hi
add-requires-clause-hi c = add-below c.pair_of.result.hi c.args.c.hi (2 ^ 113) (2 ^ 112) (2 ^ 126) (c.pair_of.ensures.small (2 ^ 112) c.requires.a c.requires.b).hi c.requires.c.hi (omega arith)

pub returns-clause-small : goal.returns-clause-small
returns-clause-small c = λ m h i k. sum-fits c.pair_of.result c.args.c c.add.result (2 * m) m (3 * m) (search rules) (search rules) (c.pair_of.ensures.small m h i) k (omega arith)
