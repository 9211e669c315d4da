-- What the inequalities of a form say of its zone: a cylinder about the axis that holds the points, and a radius.
use Rattle.std.specs.Prelude.{ℕ, ℤ, pos, ◌*◌, ◌≤◌, ◌↔◌, ◌*ℤ◌, ◌≤ℤ◌, ◌<ℤ◌, List}
use Rattle.std.specs.List.{All}
use Rattle.gd_axis.specs.Axes.{Axis, HasRing, IsInCylinder, distance2, from_axis, square_of}
use Rattle.gd_int.specs.Comparisons.{RootAtMost}
use Rattle.gd_quat.specs.Placements.{times}
use Rattle.gd_vec.specs.Vector.{difference, norm2_of}
use Rattle.gd_vec.specs.declared.vector.V3.{V3}

-- a point of the axis lies within t / 2 of p: the one that is steps / (under scale) of the direction from the axis' own
-- point
pub record HasNearPoint (t : ℕ) (x : Axis) (a p : V3) : Type 0 where
  pub steps : ℤ
  pub under : ℕ
  pub counts : 1 ≤ under
  pub near : (pos 4 *ℤ norm2_of (difference (times (pos under) (from_axis x a p)) (times steps x.direction)))
      ≤ℤ ((pos t *ℤ pos t) *ℤ (pos (x.scale * under) *ℤ pos (x.scale * under)))

-- there is a radius: all points lie on or outside the cylinder of some radius about the axis, and on or inside the one
-- whose radius is larger by t. The square of the inner radius is a whole number, times the squares of the scale and of
-- the direction's length
pub record HasRadius (points : List V3) (t : ℕ) (x : Axis) (a : V3) : Type 0 where
  pub inner2 : ℤ
  pub positive : pos 0 ≤ℤ inner2
  pub outside : All (λ (p : V3). inner2 ≤ℤ distance2 x a p) points
  pub inside : All (λ (p : V3). RootAtMost (distance2 x a p) inner2 (square_of t x)) points

-- the cylinder of diameter t about the axis holds a point exactly where a point of the axis lies within t / 2 of it
abbrev pub CylinderIsNear : Type 0
CylinderIsNear = (t : ℕ) (x : Axis) (a p : V3) → pos 0 <ℤ norm2_of x.direction → IsInCylinder t x a p
    ↔ HasNearPoint t x a p

-- a radius exists exactly where the greatest distance less the least is at most t
abbrev pub RingHasRadius : Type 0
RingHasRadius = (points : List V3) (t : ℕ) (x : Axis) (a : V3) → HasRing points t x a ↔ HasRadius points t x a
