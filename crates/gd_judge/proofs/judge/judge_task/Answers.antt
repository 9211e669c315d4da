use Rattle.gd_cert.specs.Certificates.{body_of}
use Rattle.gd_judge.proofs.KeptLines.{judged_few}
use Rattle.gd_judge.proofs.Leaves.{few_leaves}
use Rattle.gd_judge.proofs.judge.judge_task.Goals as goal

pub verdict_of_outcome-verdict-requires : goal.verdict_of_outcome-verdict-requires
verdict_of_outcome-verdict-requires g c =
    few_leaves (g.T.Task.questions c.args.task.now) (c.show_laws.ensures c.args.task.now).is_grid c.args.share c.requires c.in_ok-outcome.outcome c.in_ok-outcome.ensures.verdict

pub returns-clause-few : goal.returns-clause-few
returns-clause-few g c =
    judged_few (g.T.Task.questions c.args.task.now) (c.show_laws.ensures c.args.task.now).is_grid c.args.share c.verdict_of_outcome-verdict.result (body_of c.in_ok-body.body)
    (record { last = _; is = c.in_ok-outcome.ensures.verdict; told = c.verdict_of_outcome-verdict.ensures; shown = c.in_ok-body.ensures })
