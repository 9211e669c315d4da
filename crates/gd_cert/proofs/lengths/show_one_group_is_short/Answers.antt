use Rattle.gd_cert.proofs.Sizes.{one_group_is_short}
use Rattle.gd_cert.proofs.lengths.show_one_group_is_short.Goals as goal

pub returns : goal.returns
returns c = one_group_is_short
