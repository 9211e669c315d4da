use Rattle.gd_check.proofs.Written.{verdict_is_right}
use Rattle.gd_check.proofs.laws.show_verdict_is_right.Goals as goal

pub returns : goal.returns
returns g c = verdict_is_right (c.show_laws.ensures c.args.task.now) c.requires
