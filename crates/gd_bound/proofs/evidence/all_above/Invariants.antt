use Rattle.std.proofs.Common.{◌≡◌, ◌<◌, ℕ, get_or, true}
use Rattle.gd_zone.specs.Boxes.{placed_ends}
use Rattle.gd_zone.specs.Conditions.{length2_of}
use Rattle.gd_zone.specs.Extremes.{ends_by}
use Rattle.gd_zone.specs.Refutations.{is_more}
use Rattle.gd_bound.proofs.evidence.all_above.Given as goal

abbrev pub invariant-loop-at : goal.invariant-loop-at
invariant-loop-at l = record {
  above : (j : ℕ) → j < l.at → is_more (ends_by (placed_ends l.view.placed.now) l.view.base.now l.view.subject.now.condition l.view.subject.now.index.now.table.now.rows (get_or l.group j 0)).lo l.hi (length2_of l.view.subject.now.condition.surface) ≡ true;
}
