use Rattle.std.proofs.Common.{arith, rules, ◌^◌}
use Rattle.gd_zone.proofs.Sizes.{add-below}
use Rattle.gd_zone.proofs.Shorts.{add-short}
use Rattle.gd_zone.proofs.short.total.Goals as goal

pub add-requires-clause-lo : goal.add-requires-clause-lo
add-requires-clause-lo c = add-below c.pair.result.lo c.args.c.lo (2 ^ 60) (2 ^ 59) (2 ^ 62) c.pair.ensures.size.lo c.requires.c.lo (omega arith)

pub add-requires-clause-hi : goal.add-requires-clause-hi
add-requires-clause-hi c = add-below c.pair.result.hi c.args.c.hi (2 ^ 60) (2 ^ 59) (2 ^ 62) c.pair.ensures.size.hi c.requires.c.hi (omega arith)

pub returns-clause-size : goal.returns-clause-size
returns-clause-size c = add-short c.pair.result c.args.c c.add.result (2 ^ 60) (2 ^ 59) (2 ^ 61) (search rules) (search rules) c.pair.ensures.size c.requires.c (omega arith)

pub returns-clause-small : goal.returns-clause-small
returns-clause-small c = λ a b d. add-short c.pair.result c.args.c c.add.result (2 ^ 59) (2 ^ 58) (2 ^ 60) (search rules) (search rules) (c.pair.ensures.small a b) d (omega arith)
