use Rattle.std.proofs.Common.{arith, rules, ◌^◌}
use Rattle.gd_zone.proofs.Shorts.{add-short}
use Rattle.gd_zone.proofs.short.pair.Goals as goal

pub returns-clause-size : goal.returns-clause-size
returns-clause-size c = add-short c.args.a c.args.b c.add.result (2 ^ 59) (2 ^ 59) (2 ^ 60) (search rules) (search rules) c.requires.a c.requires.b (omega arith)

pub returns-clause-small : goal.returns-clause-small
returns-clause-small c = λ a b. add-short c.args.a c.args.b c.add.result (2 ^ 58) (2 ^ 58) (2 ^ 59) (search rules) (search rules) a b (omega arith)
