use Rattle.std.proofs.Common.{rules, ◌^◌}
use Rattle.gd_quat.proofs.Sizes.{product-fits}
use Rattle.gd_quat.proofs.entries.multiplied.Goals as goal

pub returns-clause-size : goal.returns-clause-size
returns-clause-size c = product-fits c.args.a c.args.b c.mul.result (2 ^ 30) (2 ^ 30) c.requires.a c.requires.b (search rules) (search rules)
