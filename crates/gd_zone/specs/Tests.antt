-- The written tests of a condition, on the ends of the values of its points.
use Rattle.std.specs.Prelude.{ℕ, ℤ, zero, suc, pos, negsuc, ◌+◌, ◌*◌, ◌^◌, ◌==◌, ◌&&◌, ◌||◌, ◌-ℤ◌, ◌*ℤ◌, ◌≡◌}
use Rattle.std.specs.Prelude.{Bool, true, false, Option, Some, None, List, filter, map, int_le, nat_le, if◌then◌else◌}
use Rattle.std.specs.List.{list_all, list_any}
use Rattle.std.specs.Ordering.{is_ge, is_le}
use Rattle.gd_int.specs.Roots.{cmp_root_of}
use Rattle.gd_points.specs.declared.table.Row.{Row}
use Rattle.gd_quat.specs.Formulas.{Ends, turned_formula}
use Rattle.gd_quat.specs.Placements.{IsPlacement, Placement}
use Rattle.gd_vec.specs.Vector.{difference, norm2_of}
use Rattle.gd_vec.specs.declared.vector.V3.{V3}
use Rattle.gd_zone.specs.Boxes.{HoldsPlacement, PlacedEnds, placed_ends}
use Rattle.gd_zone.specs.Conditions.{IsCondition, Meets, belongs, is_of_feature}
use Rattle.gd_zone.specs.Values.{along, value_ends}
use Rattle.gd_zone.specs.declared.condition.Condition.{Condition}
use Rattle.gd_zone.specs.declared.condition.Surface.{Surface}
use Rattle.gd_zone.specs.declared.condition.Surface.TheVariants.{Plane, Axis, Ball}
use Rattle.gd_zone.specs.declared.placed.Placed.{Placed}
use Rattle.gd_zone.specs.declared.condition.Demand.{Demand}
use Rattle.gd_zone.specs.declared.condition.Demand.TheVariants.{Within, Spread, Contact, HugInner, HugOuter}

-- ---- roots of whole numbers
-- the greatest number whose square is at most a, and the least whose square is at least a
unfoldable pub root_below : ℕ → ℕ
root_below zero = 0
root_below (suc a) = if nat_le ((root_below a + 1) * (root_below a + 1)) (suc a) then root_below a + 1 else root_below a

unfoldable pub root_above : ℕ → ℕ
root_above a = if root_below a * root_below a == a then root_below a else root_below a + 1

-- the same of a number with a sign, with 0 for those below 0
abbrev pub floor_root : ℤ → ℤ
floor_root (pos a) = pos (root_below a)
floor_root (negsuc a) = pos 0

abbrev pub ceil_root : ℤ → ℤ
ceil_root (pos a) = pos (root_above a)
ceil_root (negsuc a) = pos 0

-- the least and the greatest distance, from the ends of its square
abbrev pub nearest : Ends → ℤ
nearest e = floor_root e.lo

abbrev pub farthest : Ends → ℤ
farthest e = ceil_root e.hi

-- ---- comparisons with half units, of which one is 2^15 fine units
-- s isn't more than h half units times the root of n, and isn't less
abbrev pub is_at_most : ℤ → ℤ → ℤ → Bool
is_at_most s h n = is_le (cmp_root_of s (h *ℤ pos (2 ^ 15)) n)

abbrev pub is_at_least : ℤ → ℤ → ℤ → Bool
is_at_least s l n = is_ge (cmp_root_of s (l *ℤ pos (2 ^ 15)) n)

-- the square of h half units, times n
abbrev pub square_bound : ℤ → ℤ → ℤ
square_bound h n = (h *ℤ h) *ℤ n *ℤ pos (2 ^ 30)

-- a test with an absent bound passes
abbrev pub passes : (ℤ → Bool) → Option ℤ → Bool
passes test None = true
passes test (Some h) = test h

-- ---- what holds, for a plane, and for an axis or a ball: vs are the values of the condition's points, and all those
-- of the feature
abbrev pub plane_within : Option ℤ → Option ℤ → ℤ → Ends → Bool
plane_within lo hi n e = passes (λ h. is_at_most e.hi h n) hi && passes (λ l. is_at_least e.lo l n) lo

abbrev pub distance_within : Option ℤ → Option ℤ → ℤ → Ends → Bool
distance_within lo hi n e =
    passes (λ h. int_le (pos 0) h && int_le e.hi (square_bound h n)) hi
    && passes (λ l. int_le l (pos 0) || int_le (square_bound l n) e.lo) lo

unfoldable pub plane_holds : Demand → ℤ → List Ends → Bool
plane_holds (Within lo hi) n vs = list_all (plane_within lo hi n) vs
plane_holds (Spread t) n vs = list_all (λ a. list_all (λ b. is_at_most (a.hi -ℤ b.lo) t n) vs) vs
plane_holds (Contact hi) n vs = list_any (λ e. is_at_most e.hi hi n) vs
plane_holds (HugInner slack) n vs = false
plane_holds (HugOuter slack) n vs = false

unfoldable pub distance_holds : Demand → ℤ → List Ends → List Ends → Bool
distance_holds (Within lo hi) n vs all = list_all (distance_within lo hi n) vs
distance_holds (Spread t) n vs all = list_all (λ a. list_all (λ b. is_at_most (farthest a -ℤ nearest b) t n) vs) vs
distance_holds (Contact hi) n vs all = false
distance_holds (HugInner slack) n vs all =
    list_any (λ a. list_all (λ b. is_at_most (farthest a -ℤ nearest b) slack n) all) vs
distance_holds (HugOuter slack) n vs all =
    list_any (λ a. list_all (λ b. is_at_most (farthest b -ℤ nearest a) slack n) all) vs

-- ---- a condition at a box of placements
abbrev pub surface_holds : Surface → Demand → List Ends → List Ends → Bool
surface_holds (Plane direction point) demand vs all = plane_holds demand (norm2_of direction) vs
surface_holds (Axis direction point) demand vs all = distance_holds demand (norm2_of direction) vs all
surface_holds (Ball point) demand vs all = distance_holds demand (pos 1) vs all

-- the ends of what a demand looks at: for a spread along a direction translations, offsets and the surface's point are
-- left out, as they cancel
abbrev pub demanded_ends : Surface → Demand → PlacedEnds → ℕ → V3 → Ends
demanded_ends (Plane direction point) (Spread t) b offset v = along direction (turned_formula b.matrix v)
demanded_ends (Plane direction point) demand b offset v = value_ends (Plane direction point) b offset v
demanded_ends (Axis direction point) demand b offset v = value_ends (Axis direction point) b offset v
demanded_ends (Ball point) demand b offset v = value_ends (Ball point) b offset v

-- the ends of the value of a point, where the part's first point is at base
abbrev pub ends_at : PlacedEnds → V3 → Condition → Row → Ends
ends_at b base c row = demanded_ends c.surface c.demand b c.offset (difference row.at base)

unfoldable pub condition_holds : PlacedEnds → V3 → List Row → Condition → Bool
condition_holds b base rows c =
    surface_holds c.surface c.demand
    (map (ends_at b base c) (filter (belongs c) rows))
    (map (ends_at b base c) (filter (is_of_feature c) rows))

-- a condition that holds so is met at every placement of the box
abbrev pub TestsAreSound : Type 0
TestsAreSound =
    (b : Placed) (p : Placement) (base : V3) (rows : List Row) (c : Condition)
    → IsPlacement p → HoldsPlacement b p → IsCondition c
    → condition_holds (placed_ends b) base rows c ≡ true → Meets p base rows c
