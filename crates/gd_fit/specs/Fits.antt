-- What a group of conditions asks: a placement in range at which all of them are met at once.
use Rattle.std.specs.Prelude.{ℕ, ℤ, pos, ◌≤◌, ◌<◌, List, [], ◌∷◌, get_or, length, unsigned_abs}
use Rattle.std.specs.List.{All}
use Rattle.gd_base.specs.Limits.{CONDITIONS, POINTS}
use Rattle.gd_points.specs.declared.table.Row.{Row}
use Rattle.gd_quat.specs.Placements.{IsPlacement, Placement}
use Rattle.gd_turn.specs.Ranges.{AreRanges, IsInRange}
use Rattle.gd_turn.specs.declared.ranges.Ranges.{Ranges}
use Rattle.gd_vec.specs.declared.vector.V3.{V3}
use Rattle.gd_zone.specs.Conditions.{IsCondition, Meets}
use Rattle.gd_zone.specs.declared.condition.Condition.{Condition}

-- what is asked: which placements are in range, the part's first point, the rows of the points, and the conditions of
-- the group, which are numbered from 1
pub record Asked : Type 0 where
  pub ranges : Ranges
  pub base : V3
  pub rows : List Row
  pub conditions : List Condition

abbrev pub asked_of : Ranges → V3 → List Row → List Condition → Asked
asked_of ranges base rows conditions =
    record { ranges = ranges; base = base; rows = rows; conditions = conditions }

-- a placement fits: it is in range and meets every condition
pub record IsFit (q : Asked) (p : Placement) : Type 0 where
  pub placement : IsPlacement p
  pub range : IsInRange q.ranges p
  pub meets : All (Meets p q.base q.rows) q.conditions

-- what a task may rest on. The points are few where a condition speaks of them
pub record IsAsked (q : Asked) : Type 0 where
  pub ranges : AreRanges q.ranges
  pub conditions : All IsCondition q.conditions
  pub few : length q.conditions ≤ CONDITIONS
  pub points : 0 < length q.conditions → length q.rows ≤ POINTS

-- ---- a placement as a list of whole numbers: four of its rotation, its scale, and three of its translation and of
-- each offset
abbrev pub with_entries : V3 → List ℤ → List ℤ
with_entries v rest = v.x ∷ v.y ∷ v.z ∷ rest

abbrev pub numbers_of : Placement → List ℤ
numbers_of p =
    p.turn.q0 ∷ p.turn.q1 ∷ p.turn.q2 ∷ p.turn.q3 ∷ pos p.scale
    ∷ with_entries p.shift (with_entries p.first (with_entries p.second []))

-- the placement that a list stands for
abbrev pub number_in : List ℤ → ℕ → ℤ
number_in a n = get_or a n (pos 0)

abbrev pub placement_in : List ℤ → Placement
placement_in a = record {
  turn = record { q0 = number_in a 0; q1 = number_in a 1; q2 = number_in a 2; q3 = number_in a 3 };
  scale = unsigned_abs (number_in a 4);
  shift = record { x = number_in a 5; y = number_in a 6; z = number_in a 7 };
  first = record { x = number_in a 8; y = number_in a 9; z = number_in a 10 };
  second = record { x = number_in a 11; y = number_in a 12; z = number_in a 13 };
}
