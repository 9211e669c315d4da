use Rattle.std.proofs.Common.{arith, rules, ◌^◌}
use Rattle.gd_zone.proofs.Shorts.{add-short}
use Rattle.gd_zone.proofs.short.entry_sum.Goals as goal

pub returns-clause-size : goal.returns-clause-size
returns-clause-size c = add-short c.args.a c.args.b c.add.result (2 ^ 47) (2 ^ 47) (2 ^ 48) (search rules) (search rules) c.requires.a c.requires.b (omega arith)
