use Rattle.gd_cert.proofs.Sizes.{groups_lie_within}
use Rattle.gd_cert.proofs.lengths.show_groups_lie_within.Goals as goal

pub returns : goal.returns
returns c = groups_lie_within
