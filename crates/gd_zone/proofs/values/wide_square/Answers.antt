use Rattle.std.proofs.Common.{rules, ◌^◌}
use Rattle.gd_quat.proofs.Sizes.{square-fits}
use Rattle.gd_zone.proofs.values.wide_square.Goals as goal

pub returns-clause-size : goal.returns-clause-size
returns-clause-size c = square-fits c.args.a c.square.result (2 ^ 59) c.requires (search rules) (search rules)
