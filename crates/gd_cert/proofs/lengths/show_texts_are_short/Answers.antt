use Rattle.gd_cert.proofs.Sizes.{texts_are_short}
use Rattle.gd_cert.proofs.lengths.show_texts_are_short.Goals as goal

pub returns : goal.returns
returns c = texts_are_short
