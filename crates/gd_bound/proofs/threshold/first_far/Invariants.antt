use Rattle.std.proofs.Common.{◌≡◌, ◌<◌, ℕ, get_or, false}
use Rattle.std.specs.Prelude.{int_le}
use Rattle.gd_zone.specs.Boxes.{placed_ends}
use Rattle.gd_zone.specs.Extremes.{ends_by}
use Rattle.gd_bound.proofs.threshold.first_far.Given as goal

abbrev pub invariant-loop-at : goal.invariant-loop-at
invariant-loop-at l = record {
  none : (j : ℕ) → j < l.at → int_le l.fn.threshold (ends_by (placed_ends l.view.placed.now) l.view.base.now l.view.subject.now.condition l.view.subject.now.index.now.table.now.rows (get_or l.numbers j 0)).lo ≡ false;
}
