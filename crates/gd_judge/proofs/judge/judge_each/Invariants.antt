use Rattle.std.proofs.Common.{map, take}
use Rattle.gd_judge.proofs.KeptLines.{KeepsSoFar}
use Rattle.gd_judge.specs.Judged.{AreJudged}
use Rattle.gd_judge.specs.Outcomes.{bodies_in}
use Rattle.gd_judge.proofs.judge.judge_each.Given as goal

abbrev pub invariant-loop-task : goal.invariant-loop-task
invariant-loop-task g l = record {
  judged : AreJudged (map g.T.Task.questions (take l.task-index l.tasks)) l.share l.verdicts.items (bodies_in l.groups.items);
  kept : KeepsSoFar l.share l.task-index l.line l.groups.items;
}
