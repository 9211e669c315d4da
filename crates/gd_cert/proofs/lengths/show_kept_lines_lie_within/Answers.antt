use Rattle.gd_cert.proofs.Sizes.{kept_lines_lie_within}
use Rattle.gd_cert.proofs.lengths.show_kept_lines_lie_within.Goals as goal

pub returns : goal.returns
returns c = kept_lines_lie_within
