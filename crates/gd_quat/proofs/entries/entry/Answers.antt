use Rattle.std.proofs.Common.{rules}
use Rattle.gd_quat.proofs.Sizes.{quotient-fits}
use Rattle.gd_quat.proofs.entries.entry.Goals as goal

pub returns-clause-size : goal.returns-clause-size
returns-clause-size c = quotient-fits c.args.numerator c.args.norm c.quot.result c.requires.numerator c.requires.norm (search rules) (search rules)
