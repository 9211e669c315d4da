-- The extremes of the values of some points, and the comparisons of two of them.
use Rattle.std.specs.Prelude.{ℕ, ℤ, ◌≡◌, ◌-ℤ◌, ◌≤ℤ◌, Bool, List, Option, pos}
use Rattle.std.specs.Int.{int_max, int_min}
use Rattle.std.specs.List.{All, Any}
pub use Rattle.gd_points.specs.Index.{row_at}
use Rattle.gd_points.specs.declared.table.Row.{Row}
use Rattle.gd_quat.specs.Formulas.{Ends}
use Rattle.gd_vec.specs.Vector.{norm2_of}
use Rattle.gd_vec.specs.declared.vector.V3.{V3}
use Rattle.gd_zone.specs.Boxes.{PlacedEnds}
use Rattle.gd_zone.specs.Tests.{ceil_root, distance_within, ends_at, floor_root, plane_within}
use Rattle.gd_zone.specs.declared.condition.Condition.{Condition}
use Rattle.gd_zone.specs.declared.condition.Surface.{Surface}
use Rattle.gd_zone.specs.declared.condition.Surface.TheVariants.{Plane, Axis, Ball}

-- ---- points by their numbers, from 0
-- the ends of the value of the point with a number
unfoldable pub ends_by : PlacedEnds → V3 → Condition → List Row → ℕ → Ends
ends_by b base c rows i = ends_at b base c (row_at rows i)

-- ---- the least and the greatest
pub record IsLeast (end : Ends → ℤ) (vs : List Ends) (x : ℤ) : Type 0 where
  pub below : All (λ v. x ≤ℤ end v) vs
  pub reached : Any (λ v. end v ≡ x) vs

pub record IsGreatest (end : Ends → ℤ) (vs : List Ends) (x : ℤ) : Type 0 where
  pub above : All (λ v. end v ≤ℤ x) vs
  pub reached : Any (λ v. end v ≡ x) vs

-- the least lower and the least upper end, between which the least value lies, and the greatest of both
pub record AreExtremes (vs : List Ends) (least greatest : Ends) : Type 0 where
  pub least_lo : IsLeast (λ v. v.lo) vs least.lo
  pub least_hi : IsLeast (λ v. v.hi) vs least.hi
  pub greatest_lo : IsGreatest (λ v. v.lo) vs greatest.lo
  pub greatest_hi : IsGreatest (λ v. v.hi) vs greatest.hi

-- the lesser of both ends, and the greater
abbrev pub lower : Ends → Ends → Ends
lower a b = record { lo = int_min a.lo b.lo; hi = int_min a.hi b.hi }

abbrev pub upper : Ends → Ends → Ends
upper a b = record { lo = int_max a.lo b.lo; hi = int_max a.hi b.hi }

-- ---- by how much one value may pass another, and does at least; of squared distances the roots are taken
abbrev pub at_widest : Surface → ℤ → ℤ → ℤ
at_widest (Plane direction point) hi lo = hi -ℤ lo
at_widest (Axis direction point) hi lo = ceil_root hi -ℤ floor_root lo
at_widest (Ball point) hi lo = ceil_root hi -ℤ floor_root lo

abbrev pub at_narrowest : Surface → ℤ → ℤ → ℤ
at_narrowest (Plane direction point) lo hi = lo -ℤ hi
at_narrowest (Axis direction point) lo hi = floor_root lo -ℤ ceil_root hi
at_narrowest (Ball point) lo hi = floor_root lo -ℤ ceil_root hi

-- ---- a value that lies within two bounds
abbrev pub value_within : Surface → Option ℤ → Option ℤ → Ends → Bool
value_within (Plane direction point) lo hi e = plane_within lo hi (norm2_of direction) e
value_within (Axis direction point) lo hi e = distance_within lo hi (norm2_of direction) e
value_within (Ball point) lo hi e = distance_within lo hi (pos 1) e
