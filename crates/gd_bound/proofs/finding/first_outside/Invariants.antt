use Rattle.std.proofs.Common.{◌≡◌, ◌<◌, ℕ, get_or, false}
use Rattle.gd_bound.specs.Evidence.{value_outside}
use Rattle.gd_zone.specs.Boxes.{placed_ends}
use Rattle.gd_zone.specs.Extremes.{ends_by}
use Rattle.gd_bound.proofs.finding.first_outside.Given as goal

abbrev pub invariant-loop-at : goal.invariant-loop-at
invariant-loop-at l = record {
  none : (j : ℕ) → j < l.at → value_outside l.view.subject.now.condition.surface l.lo l.hi (ends_by (placed_ends l.view.placed.now) l.view.base.now l.view.subject.now.condition l.view.subject.now.index.now.table.now.rows (get_or l.numbers j 0)) ≡ false;
}
