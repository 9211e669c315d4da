use Rattle.std.proofs.Common.{◌∙◌, ap}
use Rattle.gd_cert.specs.Certificates.{certificate_of}
use Rattle.gd_group.specs.Tasks.{Meets, all_asked, asked_by, assignment_of, questions_of}
use Rattle.gd_points.specs.Table.{Table}
use Rattle.gd_run.proofs.Asking.{decided_of}
use Rattle.gd_run.specs.Views.{answer_in}
use Rattle.gd_tables.specs.Kinds.{file_of}
use Rattle.gd_run.proofs.check.CheckCommand.answer.Goals as goal

pub returns : goal.returns
returns c =
    let table = ap (λ (t : Table). t.rows) c.in_ok-index.ensures in
    decided_of asked_by questions_of Meets assignment_of c.in_ok-groups.groups.tasks.items _ (all_asked (file_of c.args.file.now) c.args.table.now.rows)
    (certificate_of c.args.cert.now) (answer_in c.in_ok-report.report)
    c.as_slice.ensures.value
    (c.in_ok-groups.ensures.tasks ∙ ap (all_asked (file_of c.args.file.now)) table)
    c.in_ok-report.ensures
