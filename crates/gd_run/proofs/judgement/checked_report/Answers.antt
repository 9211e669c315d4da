use Rattle.std.proofs.Common.{◌∙◌, ap, map}
use Rattle.gd_cert.specs.Certificates.{certificate_of}
use Rattle.gd_check.proofs.Meant.{bodies_true}
use Rattle.gd_check.proofs.Wholes.{certificate_right, right_certificate}
use Rattle.gd_run.proofs.Judgements.{all_keep}
use Rattle.gd_run.specs.Answers.{only_said}
use Rattle.gd_run.proofs.judgement.checked_report.Goals as goal

pub returns : goal.returns
returns g c =
    let q = g.T.Task.questions in
    let tasks = c.args.tasks.now in
    let cert = certificate_of c.args.cert.now in
    let keeps = all_keep q g.T.Task.feasible g.T.Task.inside g.T.Task.assignment c.show_laws.ensures tasks in
    record {
      sound = certificate_right (map q tasks) keeps cert;
      complete = right_certificate (map q tasks) keeps cert;
      means = λ right. bodies_true q g.T.Task.feasible g.T.Task.inside g.T.Task.assignment c.show_laws.ensures tasks cert.share cert.groups right.groups;
      answer = c.only_line.ensures ∙ ap only_said c.in_ok-line.ensures;
    }
