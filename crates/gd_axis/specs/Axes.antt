-- Axes, and what it means that points lie within a tolerance about one: straightness of a derived median line,
-- circularity and cylindricity.
use Rattle.std.specs.Prelude.{ℕ, ℤ, pos, ◌*ℤ◌, ◌≤ℤ◌, List, [], ◌∷◌}
use Rattle.std.specs.List.{All}
use Rattle.gd_dir.specs.Forms.{IsCandidate, IsNear}
use Rattle.gd_dir.specs.declared.shape.FormShape.{FormShape}
use Rattle.gd_dir.specs.declared.shape.FormShape.TheVariants.{Flat, Line, Circle, Cylinder}
use Rattle.gd_int.specs.Comparisons.{RootAtMost}
use Rattle.gd_quat.specs.Placements.{times}
use Rattle.gd_vec.specs.Vector.{difference, norm2_of}
use Rattle.gd_vec.specs.declared.vector.V3.{V3}
use Rattle.gd_zone.specs.Conditions.{cross}

-- an axis: its direction, and a point of it, which lies at offset / scale from the form's own point
pub record Axis : Type 0 where
  pub direction : V3
  pub scale : ℕ
  pub offset : V3

-- from that point of the axis to p, times the scale, where the form's own point is at a
abbrev pub from_axis : Axis → V3 → V3 → V3
from_axis x a p = difference (times (pos x.scale) (difference p a)) x.offset

-- the squared distance of p from the axis, times the squares of the scale and of the direction's length
abbrev pub distance2 : Axis → V3 → V3 → ℤ
distance2 x a p = norm2_of (cross x.direction (from_axis x a p))

-- the square of t, times the same squares
abbrev pub square_of : ℕ → Axis → ℤ
square_of t x = (pos t *ℤ pos t) *ℤ ((pos x.scale *ℤ pos x.scale) *ℤ norm2_of x.direction)

-- ---- zones
-- twice the distance of p from the axis is at most t
abbrev pub IsInCylinder : ℕ → Axis → V3 → V3 → Type 0
IsInCylinder t x a p = (pos 4 *ℤ distance2 x a p) ≤ℤ square_of t x

-- p is further from the axis than q by at most t
abbrev pub IsNoFurther : ℕ → Axis → V3 → V3 → V3 → Type 0
IsNoFurther t x a p q = RootAtMost (distance2 x a p) (distance2 x a q) (square_of t x)

-- the cylinder of diameter t about the axis holds all points
abbrev pub HasCylinder : List V3 → ℕ → Axis → V3 → Type 0
HasCylinder points t x a = All (λ (p : V3). IsInCylinder t x a p) points

-- no point is further from the axis than another by more than t: the greatest distance less the least is at most t
abbrev pub HasRing : List V3 → ℕ → Axis → V3 → Type 0
HasRing points t x a = All (λ (p : V3). All (λ (q : V3). IsNoFurther t x a p q) points) points

-- the first of some points
abbrev pub first_of : List V3 → V3
first_of [] = record { x = pos 0; y = pos 0; z = pos 0 }
first_of (p ∷ points) = p

-- ---- forms
-- the zone of a form about an axis holds all points. Flatness has no axis
abbrev pub HasZoneOf : FormShape → List V3 → ℕ → Axis → V3 → Type 0
HasZoneOf Flat points t x a = ⊥
HasZoneOf Line points t x a = HasCylinder points t x a
HasZoneOf Circle points t x a = HasRing points t x a
HasZoneOf Cylinder points t x a = HasRing points t x a

-- the axis' point lies within 2^shift units of the form's own point, along each axis of coordinates; that of a line is
-- free
abbrev pub IsInReach : FormShape → ℕ → Axis → Type 0
IsInReach Flat shift x = IsNear shift (pos x.scale) x.offset
IsInReach Line shift x = Unit {0}
IsInReach Circle shift x = IsNear shift (pos x.scale) x.offset
IsInReach Cylinder shift x = IsNear shift (pos x.scale) x.offset

-- a form is met about an axis that it may take. d is the direction of a circle's section, and the form's own point is
-- at a: for a line the first of its points
pub record IsMetAbout (shape : FormShape) (points : List V3) (t shift : ℕ) (d a : V3) (axis : ℕ)
    (x : Axis) : Type 0 where
  pub candidate : IsCandidate shape d axis x.direction (pos x.scale) x.offset
  pub reach : IsInReach shape shift x
  pub zone : HasZoneOf shape points t x a
