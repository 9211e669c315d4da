use Rattle.gd_task_cases.proofs.Certified.{one_has_numbers}
use Rattle.gd_task_cases.proofs.forms.judged.Goals as goal

pub judge_tasks-requires-clause-numbers : goal.judge_tasks-requires-clause-numbers
judge_tasks-requires-clause-numbers g c = λ κs lives. one_has_numbers c.args.task
