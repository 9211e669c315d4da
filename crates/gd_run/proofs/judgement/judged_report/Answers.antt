use Rattle.std.proofs.Common.{arith, ap, length}
use Rattle.gd_cert.specs.Certificates.{certificate_of}
use Rattle.gd_run.proofs.Judgements.{verdict_each}
use Rattle.gd_run.proofs.judgement.judged_report.Goals as goal

pub labelled-requires : goal.labelled-requires
labelled-requires g c =
    let counted = verdict_each g.T.Task.questions c.args.tasks.now c.args.budget c.in_ok-judged.judged.verdicts.items (certificate_of c.in_ok-judged.judged.certificate) c.in_ok-judged.ensures.verdicts in
    omega (arith, c.requires.labels, counted, ap length c.deref.ensures.value)
