use Rattle.gd_cert.proofs.Again.{one_text}
use Rattle.gd_cert.proofs.laws.texts_differ.Goals as goal

pub returns : goal.returns
returns c = one_text
