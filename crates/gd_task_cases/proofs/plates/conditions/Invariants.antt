use Rattle.std.proofs.Common.{◌≤◌, ◌+◌, length}
use Rattle.std.specs.List.{All}
use Rattle.gd_zone.specs.Conditions.{IsCondition}
use Rattle.gd_task_cases.proofs.plates.conditions.Given as goal

abbrev pub invariant-loop-axis : goal.invariant-loop-axis
invariant-loop-axis l = record {
  conditions : All IsCondition l.conditions.items;
  few : length l.conditions.items ≤ l.axis-index;
}

abbrev pub invariant-loop-x : goal.invariant-loop-x
invariant-loop-x l = record {
  conditions : All IsCondition l.conditions.items;
  few : length l.conditions.items ≤ 9 + l.x-index;
}
