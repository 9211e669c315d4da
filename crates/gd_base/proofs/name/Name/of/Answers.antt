use Rattle.std.proofs.Common.{sym}
use Rattle.gd_base.proofs.NameLemmas.{is_name-utf8}
use Rattle.gd_base.proofs.name.Name.of.Goals as goal

pub returns-in-Err : goal.returns-in-Err
returns-in-Err c = absurd (c.in-Err.ensures.cases.0 (is_name-utf8 _ (sym c.if-not-is_spelled.ensures)))
