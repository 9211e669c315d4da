-- What a condition asks of the points of a placed part. Comparisons with roots are stated without a root.
use Rattle.std.specs.Prelude.{ℕ, ℤ, pos, neg_ℤ, ◌≤◌, ◌^◌, ◌==◌, ◌&&◌, ◌⊎◌, ◌-ℤ◌, ◌*ℤ◌, ◌≤ℤ◌}
use Rattle.std.specs.Prelude.{Bool, true, Option, Some, None, List, map, filter, unsigned_abs}
use Rattle.std.specs.List.{All, Any}
use Rattle.std.specs.Option.{IfSome}
use Rattle.gd_int.specs.Comparisons.{AtMost, RootAtMost}
use Rattle.gd_points.specs.declared.table.Row.{Row}
use Rattle.gd_quat.specs.Placements.{Placement, denominator_of, image_under, times}
use Rattle.gd_vec.specs.Vector.{IsWithin, difference, dot_of, norm2_of}
use Rattle.gd_vec.specs.declared.vector.V3.{V3}
use Rattle.gd_zone.specs.declared.condition.Condition.{Condition}
use Rattle.gd_zone.specs.declared.condition.Demand.{Demand}
use Rattle.gd_zone.specs.declared.condition.Demand.TheVariants.{Within, Spread, Contact, HugInner, HugOuter}
use Rattle.gd_zone.specs.declared.condition.Surface.{Surface}
use Rattle.gd_zone.specs.declared.condition.Surface.TheVariants.{Plane, Axis, Ball}

-- ---- surfaces
-- d × z, at right angles to both
abbrev pub cross : V3 → V3 → V3
cross d z = record { x = d.y *ℤ z.z -ℤ d.z *ℤ z.y; y = d.z *ℤ z.x -ℤ d.x *ℤ z.z; z = d.x *ℤ z.y -ℤ d.y *ℤ z.x }

-- the vector from a point of the surface to the image of the point at v, times the denominator of the placement
abbrev pub from_surface : Placement → ℕ → V3 → V3 → V3
from_surface p offset point v = difference (image_under p offset v) (times (pos (denominator_of p)) point)

-- for a plane the distance times the direction's length, over the denominator K; for an axis and a ball the squared
-- distance times the direction's squared length, over K^2
abbrev pub exact_value : Surface → Placement → ℕ → V3 → ℤ
exact_value (Plane direction point) p offset v = dot_of direction (from_surface p offset point v)
exact_value (Axis direction point) p offset v = norm2_of (cross direction (from_surface p offset point v))
exact_value (Ball point) p offset v = norm2_of (from_surface p offset point v)

-- the direction's squared length
abbrev pub length2_of : Surface → ℤ
length2_of (Plane direction point) = norm2_of direction
length2_of (Axis direction point) = norm2_of direction
length2_of (Ball point) = pos 1

-- ---- the points of a condition
abbrev pub is_of_feature : Condition → Row → Bool
is_of_feature c row = row.feature == c.feature

abbrev pub is_of_group : Option ℕ → Row → Bool
is_of_group None row = true
is_of_group (Some group) row = row.group == group

-- those of its feature, and of its group where it has one
abbrev pub belongs : Condition → Row → Bool
belongs c row = is_of_feature c row && is_of_group c.group row

-- ---- demands on values: k is the denominator, n the squared length, vs are the values of the points, and all those of
-- the whole feature
abbrev pub twice : ℤ → ℤ
twice z = pos 2 *ℤ z

abbrev pub four : ℤ → ℤ
four z = pos 4 *ℤ z

-- h^2 n k^2: the square of h times the length
abbrev pub squared_bound : ℤ → ℤ → ℤ → ℤ
squared_bound h k n = (h *ℤ h) *ℤ n *ℤ (k *ℤ k)

abbrev pub PlaneDemand : Demand → ℤ → ℤ → List ℤ → Type 0
PlaneDemand (Within lo hi) k n vs = All (λ s.
    IfSome hi (λ h. AtMost (twice s) (h *ℤ k) n)
    × IfSome lo (λ l. AtMost (neg_ℤ (twice s)) (neg_ℤ (l *ℤ k)) n)) vs
PlaneDemand (Spread t) k n vs = (pos 0 ≤ℤ t) × All (λ a. All (λ b. AtMost (twice (a -ℤ b)) (t *ℤ k) n) vs) vs
PlaneDemand (Contact hi) k n vs = Any (λ s. AtMost (twice s) (hi *ℤ k) n) vs
PlaneDemand (HugInner slack) k n vs = ⊥
PlaneDemand (HugOuter slack) k n vs = ⊥

abbrev pub DistanceDemand : Demand → ℤ → ℤ → List ℤ → List ℤ → Type 0
DistanceDemand (Within lo hi) k n vs all = All (λ c.
    IfSome hi (λ h. (pos 0 ≤ℤ h) × (four c ≤ℤ squared_bound h k n))
    × IfSome lo (λ l. (l ≤ℤ pos 0) ⊎ (squared_bound l k n ≤ℤ four c))) vs
DistanceDemand (Spread t) k n vs all =
    (pos 0 ≤ℤ t) × All (λ a. All (λ b. RootAtMost (four a) (four b) (squared_bound t k n)) vs) vs
DistanceDemand (Contact hi) k n vs all = ⊥
DistanceDemand (HugInner slack) k n vs all =
    (pos 0 ≤ℤ slack) × Any (λ a. All (λ b. RootAtMost (four a) (four b) (squared_bound slack k n)) all) vs
DistanceDemand (HugOuter slack) k n vs all =
    (pos 0 ≤ℤ slack) × Any (λ a. All (λ b. RootAtMost (four b) (four a) (squared_bound slack k n)) all) vs

abbrev pub MeetsDemand : Surface → Demand → ℤ → List ℤ → List ℤ → Type 0
MeetsDemand (Plane direction point) demand k vs all = PlaneDemand demand k (norm2_of direction) vs
MeetsDemand (Axis direction point) demand k vs all = DistanceDemand demand k (norm2_of direction) vs all
MeetsDemand (Ball point) demand k vs all = DistanceDemand demand k (pos 1) vs all

-- the exact values of points at a placement, where the part's first point is at base
abbrev pub exact_values : Placement → V3 → Condition → List Row → List ℤ
exact_values p base c rows = map (λ (row : Row). exact_value c.surface p c.offset (difference row.at base)) rows

-- a placement meets a condition
unfoldable pub Meets : Placement → V3 → List Row → Condition → Type 0
Meets p base rows c =
    MeetsDemand c.surface c.demand (pos (denominator_of p))
    (exact_values p base c (filter (belongs c) rows))
    (exact_values p base c (filter (is_of_feature c) rows))

-- ---- the conditions that arise
-- the eight pairs of surface and demand
abbrev pub IsPlaneDemand : Demand → Type 0
IsPlaneDemand (Within lo hi) = Unit {0}
IsPlaneDemand (Spread t) = Unit {0}
IsPlaneDemand (Contact hi) = Unit {0}
IsPlaneDemand (HugInner slack) = ⊥
IsPlaneDemand (HugOuter slack) = ⊥

abbrev pub IsAxisDemand : Demand → Type 0
IsAxisDemand (Within lo hi) = Unit {0}
IsAxisDemand (Spread t) = Unit {0}
IsAxisDemand (Contact hi) = ⊥
IsAxisDemand (HugInner slack) = Unit {0}
IsAxisDemand (HugOuter slack) = Unit {0}

abbrev pub IsBallDemand : Demand → Type 0
IsBallDemand (Within lo hi) = Unit {0}
IsBallDemand (Spread t) = ⊥
IsBallDemand (Contact hi) = ⊥
IsBallDemand (HugInner slack) = ⊥
IsBallDemand (HugOuter slack) = ⊥

abbrev pub IsPair : Surface → Demand → Type 0
IsPair (Plane direction point) demand = IsPlaneDemand demand
IsPair (Axis direction point) demand = IsAxisDemand demand
IsPair (Ball point) demand = IsBallDemand demand

-- a direction's entries are within 2^10, and a point of a surface lies within 2^26 units
abbrev pub IsSurface : Surface → Type 0
IsSurface (Plane direction point) = IsWithin (2 ^ 10) direction × IsWithin (2 ^ 26) point
IsSurface (Axis direction point) = IsWithin (2 ^ 10) direction × IsWithin (2 ^ 26) point
IsSurface (Ball point) = IsWithin (2 ^ 26) point

-- the numbers of a demand are within 2^27 half units, and a spread and a slack aren't below 0
abbrev pub IsBound : ℤ → Type 0
IsBound h = unsigned_abs h ≤ 2 ^ 27

abbrev pub HasBounds : Demand → Type 0
HasBounds (Within lo hi) = IfSome lo IsBound × IfSome hi IsBound
HasBounds (Spread t) = (pos 0 ≤ℤ t) × IsBound t
HasBounds (Contact hi) = IsBound hi
HasBounds (HugInner slack) = (pos 0 ≤ℤ slack) × IsBound slack
HasBounds (HugOuter slack) = (pos 0 ≤ℤ slack) × IsBound slack

pub record IsCondition (c : Condition) : Type 0 where
  pub pair : IsPair c.surface c.demand
  pub surface : IsSurface c.surface
  pub bounds : HasBounds c.demand
  pub offset : c.offset ≤ 2
