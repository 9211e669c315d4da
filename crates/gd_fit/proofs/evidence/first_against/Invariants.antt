use Rattle.std.proofs.Common.{◌≡◌, ◌+◌, drop}
use Rattle.gd_fit.specs.Subjects.{conditions_of}
use Rattle.gd_fit.specs.Tests.{first_against}
use Rattle.gd_zone.specs.Boxes.{placed_ends}
use Rattle.gd_fit.proofs.evidence.first_against.Given as goal

abbrev pub invariant-loop-at : goal.invariant-loop-at
invariant-loop-at l = record {
  rest : first_against (placed_ends l.placed) l.task.base l.task.table.now.rows (l.at + 1)
      (conditions_of (drop l.at l.task.subjects.items))
      ≡ first_against (placed_ends l.placed) l.task.base l.task.table.now.rows 1 (conditions_of l.task.subjects.items);
}
