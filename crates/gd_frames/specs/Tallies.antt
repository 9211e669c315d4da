-- For the proof of the counts of groups, and cited by private functions alone: a tally of some points.
use Rattle.std.specs.Prelude.{ℕ, ◌≡◌, ◌≤◌, ◌+◌, ◌*◌, List, length, nat_eq, set, get_or}
use Rattle.std.specs.List.{list_any}
use Rattle.gd_frames.specs.Groups.{AreCounts, has_group}
use Rattle.gd_frames.specs.declared.groups.Tally.{Tally}
use Rattle.gd_points.specs.declared.table.Row.{Row}

-- one more for a feature
abbrev pub bumped : List ℕ → ℕ → List ℕ
bumped counts feature = set counts feature (get_or counts feature 0 + 1)

-- the groups that were met are those of the points, and so many they are, for so many features
pub record IsTally (features : ℕ) (rows : List Row) (t : Tally) : Type 0 where
  pub met : (feature group : ℕ) → group ≤ 999 → list_any (nat_eq (feature * 1000 + group)) t.met.keys ≡ has_group rows feature group
  pub sections : AreCounts 0 rows t.sections.items
  pub contacts : AreCounts 1 rows t.contacts.items
  pub has_sections : length t.sections.items ≡ features
  pub has_contacts : length t.contacts.items ≡ features
