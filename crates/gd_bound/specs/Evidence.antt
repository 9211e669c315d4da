-- When evidence refutes a condition over a box of placements, and which evidence is the first.
use Rattle.std.specs.Prelude.{ℕ, zero, suc, ℤ, pos, ◌-◌, ◌==◌, ◌&&◌, Bool, Option, Some, None, List, filter}
use Rattle.std.specs.Prelude.{map, find, int_le, option_map, slice_get, if◌then◌else◌}
use Rattle.std.specs.List.{list_all}
use Rattle.gd_bound.specs.declared.pair.Pair.{Pair}
use Rattle.gd_cells.specs.declared.cell.Evidence.{Evidence}
use Rattle.gd_points.specs.Index.{numbers_where, passes}
use Rattle.gd_points.specs.declared.table.Row.{Row}
use Rattle.gd_quat.specs.Formulas.{Ends}
use Rattle.gd_vec.specs.Vector.{norm2_of}
use Rattle.gd_vec.specs.declared.vector.V3.{V3}
use Rattle.gd_zone.specs.Boxes.{PlacedEnds}
use Rattle.gd_zone.specs.Conditions.{belongs, is_of_feature, length2_of}
use Rattle.gd_zone.specs.Extremes.{at_narrowest, ends_by}
use Rattle.gd_zone.specs.Refutations.{condition_refuted, distance_outside, is_more, plane_outside}
use Rattle.gd_zone.specs.Tests.{ceil_root, ends_at, floor_root}
use Rattle.gd_zone.specs.declared.condition.Condition.{Condition}
use Rattle.gd_zone.specs.declared.condition.Demand.{Demand}
use Rattle.gd_zone.specs.declared.condition.Demand.TheVariants.{Within, Spread, Contact, HugInner, HugOuter}
use Rattle.gd_zone.specs.declared.condition.Surface.{Surface}
use Rattle.gd_zone.specs.declared.condition.Surface.TheVariants.{Plane, Axis, Ball}

-- ---- points by their numbers from 1; 0 is no point
abbrev pub named_row : List Row → ℕ → Option Row
named_row rows zero = None
named_row rows (suc i) = slice_get rows i

-- a number names a point that passes a test
abbrev pub names : (Row → Bool) → List Row → ℕ → Bool
names test rows number = passes test (named_row rows number)

-- ---- what evidence says
-- a value lies outside at every placement of the box
abbrev pub value_outside : Surface → Option ℤ → Option ℤ → Ends → Bool
value_outside (Plane direction point) lo hi e = plane_outside lo hi (norm2_of direction) e
value_outside (Axis direction point) lo hi e = distance_outside lo hi (norm2_of direction) e
value_outside (Ball point) lo hi e = distance_outside lo hi (pos 1) e

-- the value a passes the value b by more than t
abbrev pub passes_by_more : Surface → ℤ → Ends → Ends → Bool
passes_by_more s t a b = is_more (at_narrowest s a.lo b.hi) t (length2_of s)

-- a and b are numbers of points, e of the ends of their values, and vs the values of the condition's points
unfoldable pub refutes_by : Condition → List Row → Demand → (ℕ → Ends) → List Ends → ℕ → ℕ → Bool
refutes_by c rows (Within lo hi) e vs a b =
    (names (belongs c) rows a && (b == 0)) && value_outside c.surface lo hi (e (a - 1))
refutes_by c rows (Spread t) e vs a b =
    (names (belongs c) rows a && names (belongs c) rows b)
    && passes_by_more c.surface t (e (a - 1)) (e (b - 1))
refutes_by c rows (Contact hi) e vs a b =
    ((a == 0) && (b == 0)) && list_all (λ v. is_more v.lo hi (length2_of c.surface)) vs
refutes_by c rows (HugInner slack) e vs a b =
    (names (is_of_feature c) rows b && (a == 0))
    && list_all (λ v. passes_by_more c.surface slack v (e (b - 1))) vs
refutes_by c rows (HugOuter slack) e vs a b =
    (names (is_of_feature c) rows a && (b == 0))
    && list_all (λ v. passes_by_more c.surface slack (e (a - 1)) v) vs

-- evidence refutes a condition, whatever the number of the condition that it names
unfoldable pub refuted_at : PlacedEnds → V3 → List Row → Condition → Evidence → Bool
refuted_at b base rows c e =
    refutes_by c rows c.demand (ends_by b base c rows) (map (ends_at b base c) (filter (belongs c) rows)) e.a e.b

-- ---- the first evidence
-- the lower end of a value, and the upper end, as they are compared: of squared distances the roots
abbrev pub low_end : Surface → ℤ → ℤ
low_end (Plane direction point) lo = lo
low_end (Axis direction point) lo = floor_root lo
low_end (Ball point) lo = floor_root lo

abbrev pub high_end : Surface → ℤ → ℤ
high_end (Plane direction point) hi = hi
high_end (Axis direction point) hi = ceil_root hi
high_end (Ball point) hi = ceil_root hi

-- the first number at which f is the greatest, and the first at which it is the least
abbrev pub first_highest : (ℕ → ℤ) → List ℕ → Option ℕ
first_highest f ns = find (λ i. list_all (λ j. int_le (f j) (f i)) ns) ns

abbrev pub first_lowest : (ℕ → ℤ) → List ℕ → Option ℕ
first_lowest f ns = find (λ i. list_all (λ j. int_le (f i) (f j)) ns) ns

-- the number from 1 of the point at a number from 0
abbrev pub point_number : Option ℕ → ℕ
point_number None = 0
point_number (Some i) = suc i

-- the first point outside; that with the greatest lower end and that with the least upper end; none; one of the feature
unfoldable pub first_pair : Surface → Demand → (ℕ → Ends) → List ℕ → List ℕ → Pair
first_pair s (Within lo hi) e ns all = record { a = point_number (find (λ i. value_outside s lo hi (e i)) ns); b = 0 }
first_pair s (Spread t) e ns all = record {
  a = point_number (first_highest (λ i. low_end s (e i).lo) ns);
  b = point_number (first_lowest (λ i. high_end s (e i).hi) ns);
}
first_pair s (Contact hi) e ns all = record { a = 0; b = 0 }
first_pair s (HugInner slack) e ns all =
    record { a = 0; b = point_number (first_lowest (λ i. high_end s (e i).hi) all) }
first_pair s (HugOuter slack) e ns all =
    record { a = point_number (first_highest (λ i. low_end s (e i).lo) all); b = 0 }

-- where a condition is refuted, the pair that says so
unfoldable pub refuting_pair : PlacedEnds → V3 → List Row → Condition → Option Pair
refuting_pair b base rows c =
    if condition_refuted b base rows c
    then Some (first_pair c.surface c.demand (ends_by b base c rows) (numbers_where (belongs c) rows)
    (numbers_where (is_of_feature c) rows))
    else None

-- the first evidence against the condition of a number
abbrev pub evidence_of : ℕ → Pair → Evidence
evidence_of number pair = record { condition = number; a = pair.a; b = pair.b }

abbrev pub first : PlacedEnds → V3 → List Row → Condition → ℕ → Option Evidence
first b base rows c number = option_map (evidence_of number) (refuting_pair b base rows c)
