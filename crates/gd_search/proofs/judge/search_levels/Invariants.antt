use Rattle.std.proofs.Common.{◌≡◌, ◌≤◌, ◌<◌, ◌-◌, ℕ, None, length, map, ◌+◌, ◌*◌}
use Rattle.gd_search.proofs.Forest.{kept}
use Rattle.gd_verdict.proofs.Levels.{candidates}
use Rattle.gd_search.specs.Lines.{left_of}
use Rattle.gd_search.specs.Rows.{fresh}
use Rattle.gd_verdict.specs.Verdict.{end_at, spent}
use Rattle.gd_search.proofs.judge.search_levels.Given as goal

abbrev pub invariant-levels : goal.invariant-levels
invariant-levels g l = record {
  rows : l.rows.items ≡ map fresh (candidates (g.T.Task.questions l.task) l.place.level);
  kept : left_of l.levels.items ≡ kept (g.T.Task.questions l.task) l.place.level;
  count : length l.levels.items ≡ l.place.level;
  spent : l.place.spent ≡ spent (g.T.Task.questions l.task) l.place.level;
  within : l.place.spent ≤ l.budget;
  few : length l.rows.items ≤ 2 * l.budget + 4;
  level : l.place.level ≤ l.finest;
  before : (m : ℕ) → m < l.place.level → end_at (g.T.Task.questions l.task) l.budget m ≡ None;
}

abbrev pub decreases-levels : goal.decreases-levels
decreases-levels g l = l.finest - l.place.level
