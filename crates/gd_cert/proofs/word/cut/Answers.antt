use Rattle.std.proofs.Common.{sym, ◌∙◌}
use Rattle.gd_cert.proofs.Cuts.{cut_none, cut_some}
use Rattle.gd_cert.proofs.word.cut.Goals as goal

pub returns-in-None : goal.returns-in-None
returns-in-None c = cut_none c.args.separator c.args.bytes.now (sym c.place_of.ensures ∙ c.in-None.is)

pub returns-in-Some : goal.returns-in-Some
returns-in-Some c = cut_some c.args.separator c.args.bytes.now c.in-Some.at (sym c.place_of.ensures ∙ c.in-Some.is)
