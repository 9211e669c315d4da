use Rattle.gd_search.proofs.Outcomes.{accepts_rightly, rejects_rightly}
use Rattle.gd_search.proofs.judge.search.Goals as goal

pub returns-clause-reject : goal.returns-clause-reject
returns-clause-reject g c =
    let t = c.args.task.now in
    rejects_rightly (g.T.Task.questions t) (g.T.Task.feasible t) (g.T.Task.assignment t) (c.show_verdict_means.ensures t) c.args.budget c.in_ok-outcome.outcome c.in_ok-outcome.ensures

pub returns-clause-accept : goal.returns-clause-accept
returns-clause-accept g c =
    let t = c.args.task.now in
    accepts_rightly (g.T.Task.questions t) (g.T.Task.feasible t) (g.T.Task.assignment t) (c.show_verdict_means.ensures t) c.args.budget c.in_ok-outcome.outcome c.in_ok-outcome.ensures
