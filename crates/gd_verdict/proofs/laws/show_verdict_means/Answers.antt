use Rattle.gd_verdict.proofs.Meant.{verdict_means}
use Rattle.gd_verdict.proofs.laws.show_verdict_means.Goals as goal

pub returns : goal.returns
returns g c = λ t. verdict_means (c.show_laws.ensures t)
