use Rattle.std.proofs.Common.{arith, rules, pos, ◌^◌}
use Rattle.gd_quat.proofs.Sizes.{multiple-fits}
use Rattle.gd_quat.proofs.entries.twice.Goals as goal

pub returns-clause-size : goal.returns-clause-size
returns-clause-size c = multiple-fits c.args.a c.scale.result (pos 2) (2 ^ 61) 2 c.requires (omega arith) (search rules) (search rules)
