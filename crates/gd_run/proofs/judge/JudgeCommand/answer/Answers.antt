use Rattle.std.proofs.Common.{◌∙◌, ap}
use Rattle.gd_group.specs.Tasks.{Meets, all_asked, asked_by, assignment_of, labels, questions_of}
use Rattle.gd_points.specs.Table.{Table}
use Rattle.gd_run.proofs.Asking.{reported_of}
use Rattle.gd_run.specs.Views.{answer_in}
use Rattle.gd_tables.specs.Kinds.{file_of}
use Rattle.gd_run.proofs.judge.JudgeCommand.answer.Goals as goal

pub returns : goal.returns
returns g c =
    let table = ap (λ (t : Table). t.rows) c.in_ok-index.ensures in
    reported_of asked_by questions_of Meets assignment_of c.in_ok-groups.groups.tasks.items _ (all_asked (file_of c.args.file.now) c.args.table.now.rows)
    c.in_ok-groups.groups.labels.items _ (labels (file_of c.args.file.now) c.args.table.now.rows)
    c.args.self.now.budget c.args.self.now.layout c.args.self.now.certificate.now (answer_in c.in_ok-report.report)
    c.as_slice.ensures.value c.as_slice-2.ensures.value
    (c.in_ok-groups.ensures.tasks ∙ ap (all_asked (file_of c.args.file.now)) table)
    (c.in_ok-groups.ensures.labels ∙ ap (labels (file_of c.args.file.now)) table)
    c.in_ok-report.ensures
