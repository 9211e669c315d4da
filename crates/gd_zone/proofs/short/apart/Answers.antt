use Rattle.std.proofs.Common.{arith, rules, ◌^◌}
use Rattle.gd_zone.proofs.Shorts.{sub-short}
use Rattle.gd_zone.proofs.short.apart.Goals as goal

pub returns-clause-size : goal.returns-clause-size
returns-clause-size c = sub-short c.args.a c.args.b c.sub.result (2 ^ 58) (2 ^ 58) (2 ^ 59) (search rules) (search rules) c.requires.a c.requires.b (omega arith)
