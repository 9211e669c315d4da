use Rattle.std.proofs.Common.{arith, rules, ◌^◌}
use Rattle.gd_zone.proofs.Sizes.{add-below, add-fits}
use Rattle.gd_zone.proofs.values.squares_sum.Goals as goal

pub add-requires-clause-hi : goal.add-requires-clause-hi
add-requires-clause-hi c = add-below c.squares_pair.result.hi c.args.c.hi (2 ^ 119) (2 ^ 118) (2 ^ 126) c.squares_pair.ensures.size.hi c.requires.c.hi (omega arith)

pub returns-clause-size : goal.returns-clause-size
returns-clause-size c = add-fits c.squares_pair.result c.args.c c.add.result (2 ^ 119) (2 ^ 118) (2 ^ 120) (search rules) (search rules) c.squares_pair.ensures.size c.requires.c (omega arith)
