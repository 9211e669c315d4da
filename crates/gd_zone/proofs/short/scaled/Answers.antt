use Rattle.std.proofs.Common.{rules, ◌^◌}
use Rattle.gd_zone.proofs.Shorts.{multiple-short}
use Rattle.gd_zone.proofs.short.scaled.Goals as goal

pub returns-clause-size : goal.returns-clause-size
returns-clause-size c = multiple-short c.args.a c.scale.result c.args.factor (2 ^ 48) (2 ^ 10) c.requires.a c.requires.factor (search rules) (search rules)
