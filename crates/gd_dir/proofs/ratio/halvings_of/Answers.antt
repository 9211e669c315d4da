use Rattle.std.proofs.Common.{sym}
use Rattle.gd_dir.proofs.Ratios.{halvings_are}
use Rattle.gd_dir.proofs.ratio.halvings_of.Goals as goal

pub returns-clause-value : goal.returns-clause-value
returns-clause-value c = sym (halvings_are c.args.ratio c.args.level c.requires.ratio)
