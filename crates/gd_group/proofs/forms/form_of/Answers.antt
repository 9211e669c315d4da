use Rattle.std.proofs.Common.{subst, sym}
use Rattle.std.specs.Option.{IfSome}
use Rattle.gd_group.proofs.FormFacts.{form-judged}
use Rattle.gd_group.specs.Members.{IsForm}
use Rattle.gd_tables.specs.Kinds.{file_of}
use Rattle.gd_group.proofs.forms.form_of.Goals as goal

pub returns-clause-form : goal.returns-clause-form
returns-clause-form c =
    subst (λ o. IfSome o (IsForm c.args.index.now.table.now.rows)) (sym c.form_of_first.ensures)
    (form-judged c.args.index.now.table.now (file_of c.args.file.now) c.args.group.now c.requires.file c.requires.group.judged)
