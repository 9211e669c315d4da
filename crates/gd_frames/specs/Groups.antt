-- The groups that the points of a feature have. The contact groups of a datum are those but 0; a circular runout is
-- judged in each, 0 too.
use Rattle.std.specs.Prelude.{ℕ, zero, suc, ◌-◌, ◌≡◌, Bool, List, [], ◌∷◌, length, get_or, nat_eq, ◌&&◌}
use Rattle.std.specs.List.{filter, list_any}
use Rattle.gd_points.specs.declared.table.Row.{Row}

-- n numbers from one on
abbrev pub numbers_from : ℕ → ℕ → List ℕ
numbers_from first zero = []
numbers_from first (suc n) = first ∷ numbers_from (suc first) n

-- a point is of a feature and of a group
abbrev pub is_of : ℕ → ℕ → Row → Bool
is_of feature group row = nat_eq row.feature feature && nat_eq row.group group

-- some point of a feature has a group
abbrev pub has_group : List Row → ℕ → ℕ → Bool
has_group rows feature group = list_any (is_of feature group) rows

-- the groups from one on that the points of a feature have, in ascending order: a group number is at most 999
unfoldable pub groups_from : ℕ → List Row → ℕ → List ℕ
groups_from first rows feature = filter (has_group rows feature) (numbers_from first (1000 - first))

abbrev pub groups : List Row → ℕ → List ℕ
groups rows feature = groups_from 0 rows feature

abbrev pub contact_groups : List Row → ℕ → List ℕ
contact_groups rows feature = groups_from 1 rows feature

-- how many groups from one on each feature has, and none a feature that isn't counted
abbrev pub AreCounts : ℕ → List Row → List ℕ → Type 0
AreCounts first rows counts = (feature : ℕ) → get_or counts feature 0 ≡ length (groups_from first rows feature)
