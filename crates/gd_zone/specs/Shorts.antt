-- Boxes in 64 bits, and the value of a point by one sum with a translation.
use Rattle.std.specs.Prelude.{ℕ, pos, ◌≡◌, ◌+◌, ◌^◌, ◌≤◌, ◌==◌, unsigned_abs, if◌then◌else◌}
use Rattle.gd_quat.specs.Formulas.{Ends, MatrixEnds, VectorEnds, alone, moved_formula, turned_formula}
use Rattle.gd_vec.specs.declared.vector.V3.{V3}
use Rattle.gd_zone.specs.Boxes.{PlacedEnds}
use Rattle.gd_zone.specs.Values.{across, along, from_point, squares_of}
use Rattle.gd_zone.specs.declared.condition.Condition.{Condition}
use Rattle.gd_zone.specs.declared.condition.Demand.{Demand}
use Rattle.gd_zone.specs.declared.condition.Demand.TheVariants.{Within, Spread, Contact, HugInner, HugOuter}
use Rattle.gd_zone.specs.declared.condition.Surface.{Surface}
use Rattle.gd_zone.specs.declared.condition.Surface.TheVariants.{Plane, Axis, Ball}
use Rattle.gd_zone.specs.declared.shape.Short.{Short}
use Rattle.gd_zone.specs.declared.shape.ShortMatrix.{ShortMatrix}
use Rattle.gd_zone.specs.declared.shape.ShortVec.{ShortVec}
use Rattle.gd_zone.specs.declared.shape.Lens.{Lens}

-- ---- ends in 64 bits
abbrev pub short_ends : Short → Ends
short_ends a = record { lo = a.lo; hi = a.hi }

abbrev pub short_vector : ShortVec → VectorEnds
short_vector v = record { x = short_ends v.x; y = short_ends v.y; z = short_ends v.z }

abbrev pub short_matrix : ShortMatrix → MatrixEnds
short_matrix m = record { x = short_vector m.x; y = short_vector m.y; z = short_vector m.z }

-- no end is larger than this size
pub record ShortFits (size : ℕ) (a : Short) : Type 0 where
  pub lo : unsigned_abs a.lo ≤ size
  pub hi : unsigned_abs a.hi ≤ size

pub record ShortVectorFits (size : ℕ) (v : ShortVec) : Type 0 where
  pub x : ShortFits size v.x
  pub y : ShortFits size v.y
  pub z : ShortFits size v.z

pub record ShortMatrixFits (size : ℕ) (m : ShortMatrix) : Type 0 where
  pub x : ShortVectorFits size m.x
  pub y : ShortVectorFits size m.y
  pub z : ShortVectorFits size m.z

-- ---- the value of a turned point, once it is moved
abbrev pub moved_value : Surface → VectorEnds → Ends
moved_value (Plane direction point) y = along direction y
moved_value (Axis direction point) y = squares_of (across direction y)
moved_value (Ball point) y = squares_of y

-- the translation with the offset of a number
abbrev pub offset_shift : PlacedEnds → ℕ → VectorEnds
offset_shift b offset =
    if offset == 1 then moved_formula b.shift b.first
    else (if offset == 2 then moved_formula b.shift b.second else b.shift)

-- the point of a surface
abbrev pub point_of : Surface → V3
point_of (Plane direction point) = point
point_of (Axis direction point) = point
point_of (Ball point) = point

-- a lens has the matrix of a box, and what its turned points are moved by
pub record IsLens (m : MatrixEnds) (t : VectorEnds) (l : Lens) : Type 0 where
  pub matrix : short_matrix l.matrix ≡ m
  pub by : short_vector l.by ≡ t
  pub matrix_fits : ShortMatrixFits (2 ^ 32) l.matrix
  pub by_fits : ShortVectorFits (2 ^ 47) l.by

-- turned points less the surface's point, with translation and offset; for a spread along a direction nothing is added
abbrev pub NOWHERE : VectorEnds
NOWHERE = record { x = alone (pos 0); y = alone (pos 0); z = alone (pos 0) }

abbrev pub moves_of : Surface → Demand → PlacedEnds → ℕ → VectorEnds
moves_of (Plane direction point) (Spread t) b offset = NOWHERE
moves_of (Plane direction point) demand b offset = from_point (offset_shift b offset) point
moves_of (Axis direction point) demand b offset = from_point (offset_shift b offset) point
moves_of (Ball point) demand b offset = from_point (offset_shift b offset) point

-- the value that a lens shows
abbrev pub lens_value : Surface → Lens → V3 → Ends
lens_value s l v = moved_value s (moved_formula (turned_formula (short_matrix l.matrix) v) (short_vector l.by))
