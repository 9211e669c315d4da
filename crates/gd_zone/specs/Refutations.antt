-- When a condition is refuted over a box of placements, on the ends of the values of its points.
use Rattle.std.specs.Prelude.{◌≡◌, ℤ, pos, ◌&&◌, ◌||◌, ◌-ℤ◌, Bool, true, false, not}
use Rattle.std.specs.Prelude.{Option, Some, None, List, filter, int_lt, map}
use Rattle.std.specs.List.{list_all, list_any}
use Rattle.gd_points.specs.declared.table.Row.{Row}
use Rattle.gd_quat.specs.Formulas.{Ends}
use Rattle.gd_quat.specs.Placements.{IsPlacement, Placement}
use Rattle.gd_vec.specs.Vector.{norm2_of}
use Rattle.gd_vec.specs.declared.vector.V3.{V3}
use Rattle.gd_zone.specs.Boxes.{HoldsPlacement, PlacedEnds, placed_ends}
use Rattle.gd_zone.specs.Conditions.{IsCondition, Meets, belongs, is_of_feature}
use Rattle.gd_zone.specs.Tests.{ends_at, farthest, is_at_least, is_at_most, nearest, square_bound}
use Rattle.gd_zone.specs.declared.condition.Condition.{Condition}
use Rattle.gd_zone.specs.declared.condition.Demand.{Demand}
use Rattle.gd_zone.specs.declared.condition.Demand.TheVariants.{Within, Spread, Contact, HugInner, HugOuter}
use Rattle.gd_zone.specs.declared.condition.Surface.{Surface}
use Rattle.gd_zone.specs.declared.condition.Surface.TheVariants.{Plane, Axis, Ball}
use Rattle.gd_zone.specs.declared.placed.Placed.{Placed}

-- s is more than h half units times the root of n, and is less
abbrev pub is_more : ℤ → ℤ → ℤ → Bool
is_more s h n = not (is_at_most s h n)

abbrev pub is_less : ℤ → ℤ → ℤ → Bool
is_less s l n = not (is_at_least s l n)

-- a test with an absent bound fails
abbrev pub fails : (ℤ → Bool) → Option ℤ → Bool
fails test None = false
fails test (Some h) = test h

-- a point that lies outside at every placement of the box
abbrev pub plane_outside : Option ℤ → Option ℤ → ℤ → Ends → Bool
plane_outside lo hi n e = fails (λ h. is_more e.lo h n) hi || fails (λ l. is_less e.hi l n) lo

abbrev pub distance_outside : Option ℤ → Option ℤ → ℤ → Ends → Bool
distance_outside lo hi n e =
    fails (λ h. int_lt h (pos 0) || int_lt (square_bound h n) e.lo) hi
    || fails (λ l. int_lt (pos 0) l && int_lt e.hi (square_bound l n)) lo

-- some point lies outside; some two are too far apart; no point of the group is near enough
unfoldable pub plane_refuted : Demand → ℤ → List Ends → Bool
plane_refuted (Within lo hi) n vs = list_any (plane_outside lo hi n) vs
plane_refuted (Spread t) n vs = list_any (λ a. list_any (λ b. is_more (a.lo -ℤ b.hi) t n) vs) vs
plane_refuted (Contact hi) n vs = list_all (λ e. is_more e.lo hi n) vs
plane_refuted (HugInner slack) n vs = false
plane_refuted (HugOuter slack) n vs = false

-- some point of the feature is nearer, or further, than every point of the group by more than the slack
unfoldable pub distance_refuted : Demand → ℤ → List Ends → List Ends → Bool
distance_refuted (Within lo hi) n vs all = list_any (distance_outside lo hi n) vs
distance_refuted (Spread t) n vs all = list_any (λ a. list_any (λ b. is_more (nearest a -ℤ farthest b) t n) vs) vs
distance_refuted (Contact hi) n vs all = false
distance_refuted (HugInner slack) n vs all =
    list_any (λ b. list_all (λ a. is_more (nearest a -ℤ farthest b) slack n) vs) all
distance_refuted (HugOuter slack) n vs all =
    list_any (λ b. list_all (λ a. is_more (nearest b -ℤ farthest a) slack n) vs) all

abbrev pub surface_refuted : Surface → Demand → List Ends → List Ends → Bool
surface_refuted (Plane direction point) demand vs all = plane_refuted demand (norm2_of direction) vs
surface_refuted (Axis direction point) demand vs all = distance_refuted demand (norm2_of direction) vs all
surface_refuted (Ball point) demand vs all = distance_refuted demand (pos 1) vs all

unfoldable pub condition_refuted : PlacedEnds → V3 → List Row → Condition → Bool
condition_refuted b base rows c =
    surface_refuted c.surface c.demand
    (map (ends_at b base c) (filter (belongs c) rows))
    (map (ends_at b base c) (filter (is_of_feature c) rows))

-- no placement of the box meets a condition that is refuted so
abbrev pub RefutedIsUnmet : Type 0
RefutedIsUnmet =
    (b : Placed) (p : Placement) (base : V3) (rows : List Row) (c : Condition)
    → IsPlacement p → HoldsPlacement b p → IsCondition c
    → condition_refuted (placed_ends b) base rows c ≡ true → Meets p base rows c → ⊥
