-- The ends of the image of a point and of its value on a surface.
use Rattle.std.specs.Prelude.{ℕ, ℤ, pos, ◌^◌, ◌*◌, ◌==◌, ◌*ℤ◌, ◌≤◌, ◌≤ℤ◌, unsigned_abs, if◌then◌else◌}
use Rattle.gd_base.specs.Scales.{FINE}
use Rattle.gd_interval.specs.Interval.{Inside}
use Rattle.gd_interval.specs.declared.iv.Iv.{Iv}
use Rattle.gd_quat.specs.Formulas.{Ends, VectorEnds, alone, difference, moved_formula, multiple, square, sum}
use Rattle.gd_quat.specs.Formulas.{turned_formula}
use Rattle.gd_quat.specs.Placements.{IsPlacement, Placement, denominator_of}
use Rattle.gd_vec.specs.declared.vector.V3.{V3}
use Rattle.gd_zone.specs.Boxes.{HoldsPlacement, PlacedEnds}
use Rattle.gd_zone.specs.Conditions.{exact_value}
use Rattle.gd_zone.specs.declared.placed.Placed.{Placed}
use Rattle.gd_zone.specs.declared.condition.Surface.{Surface}
use Rattle.gd_zone.specs.declared.condition.Surface.TheVariants.{Plane, Axis, Ball}

-- the image of the point at v, turned and moved, in fine units; with the offset of a number from 0 to 2
abbrev pub still_image : PlacedEnds → V3 → VectorEnds
still_image b v = moved_formula (turned_formula b.matrix v) b.shift

abbrev pub image_ends : PlacedEnds → ℕ → V3 → VectorEnds
image_ends b offset v =
    if offset == 1 then moved_formula (still_image b v) b.first
    else (if offset == 2 then moved_formula (still_image b v) b.second else still_image b v)

-- less a point of the surface, in fine units
abbrev pub from_point : VectorEnds → V3 → VectorEnds
from_point x a = record {
  x = difference x.x (alone (pos FINE *ℤ a.x));
  y = difference x.y (alone (pos FINE *ℤ a.y));
  z = difference x.z (alone (pos FINE *ℤ a.z));
}

-- the sum of the products with a direction's entries
unfoldable pub along : V3 → VectorEnds → Ends
along d y = sum (sum (multiple y.x d.x) (multiple y.y d.y)) (multiple y.z d.z)

-- the sum of the squares
unfoldable pub squares_of : VectorEnds → Ends
squares_of y = sum (sum (square y.x) (square y.y)) (square y.z)

-- the cross product with a direction
unfoldable pub across : V3 → VectorEnds → VectorEnds
across d y = record {
  x = difference (multiple y.z d.y) (multiple y.y d.z);
  y = difference (multiple y.x d.z) (multiple y.z d.x);
  z = difference (multiple y.y d.x) (multiple y.x d.y);
}

abbrev pub surface_value : Surface → VectorEnds → Ends
surface_value (Plane direction point) x = along direction (from_point x point)
surface_value (Axis direction point) x = squares_of (across direction (from_point x point))
surface_value (Ball point) x = squares_of (from_point x point)

-- the value of the point at v under an offset
abbrev pub value_ends : Surface → PlacedEnds → ℕ → V3 → Ends
value_ends s b offset v = surface_value s (image_ends b offset v)

-- the interval holds the exact value: over K in fine units for a plane, and over K^2 in squares of fine units for an
-- axis and a ball
abbrev pub HoldsValue : Surface → Iv → Placement → ℕ → V3 → Type 0
HoldsValue (Plane direction point) r p offset v =
    Inside r.lo r.hi (denominator_of p) (pos FINE *ℤ exact_value (Plane direction point) p offset v)
HoldsValue (Axis direction point) r p offset v =
    Inside r.lo r.hi (denominator_of p * denominator_of p)
    (pos (2 ^ 32) *ℤ exact_value (Axis direction point) p offset v)
HoldsValue (Ball point) r p offset v =
    Inside r.lo r.hi (denominator_of p * denominator_of p)
    (pos (2 ^ 32) *ℤ exact_value (Ball point) p offset v)

abbrev pub EnclosesValue : Surface → Placed → ℕ → V3 → Iv → Type 0
EnclosesValue s b offset v r = (p : Placement) → IsPlacement p → HoldsPlacement b p → HoldsValue s r p offset v

-- an end of a value along a direction is within 2^60; that of a squared distance isn't below 0, and is within 2^120
abbrev pub IsSizedEnd : Surface → ℤ → Type 0
IsSizedEnd (Plane direction point) z = unsigned_abs z ≤ 2 ^ 60
IsSizedEnd (Axis direction point) z = (unsigned_abs z ≤ 2 ^ 120) × (pos 0 ≤ℤ z)
IsSizedEnd (Ball point) z = (unsigned_abs z ≤ 2 ^ 120) × (pos 0 ≤ℤ z)

-- so are both
pub record IsSized (s : Surface) (r : Iv) : Type 0 where
  pub lo : IsSizedEnd s r.lo
  pub hi : IsSizedEnd s r.hi
