use Rattle.gd_cert.proofs.Sizes.{lines_are_few}
use Rattle.gd_cert.proofs.lengths.show_lines_are_few.Goals as goal

pub returns : goal.returns
returns c = lines_are_few
