-- The ends of the entries of matrices and images, from the ends of the boxes that they are made of.
use Rattle.std.specs.Prelude.{ℕ, ℤ, pos, ◌==◌, ◌+ℤ◌, ◌-ℤ◌, if◌then◌else◌}
use Rattle.gd_base.specs.Scales.{ONE}
use Rattle.gd_interval.specs.Formulas.{scale_lo, scale_hi, mul_lo, mul_hi, square_lo, square_hi, quot_lo, quot_hi}
use Rattle.gd_interval.specs.Formulas.{narrow_lo, narrow_hi}
use Rattle.gd_interval.specs.declared.iv.Iv.{Iv}
use Rattle.gd_quat.specs.Placements.{rotation_at}
use Rattle.gd_quat.specs.declared.shape.Assignment.{Assignment}
use Rattle.gd_quat.specs.declared.shape.MatrixBox.{MatrixBox}
use Rattle.gd_quat.specs.declared.shape.Ratios.{Ratios}
use Rattle.gd_quat.specs.declared.shape.RotationBox.{RotationBox}
use Rattle.gd_quat.specs.declared.shape.VecBox.{VecBox}
use Rattle.gd_vec.specs.declared.vector.V3.{V3}

-- both ends of an interval
pub record Ends : Type 0 where
  pub lo : ℤ
  pub hi : ℤ

abbrev pub ends : Iv → Ends
ends a = record { lo = a.lo; hi = a.hi }

-- ---- the results of gd_interval
abbrev pub sum : Ends → Ends → Ends
sum a b = record { lo = a.lo +ℤ b.lo; hi = a.hi +ℤ b.hi }

abbrev pub difference : Ends → Ends → Ends
difference a b = record { lo = a.lo -ℤ b.hi; hi = a.hi -ℤ b.lo }

abbrev pub multiple : Ends → ℤ → Ends
multiple a f = record { lo = scale_lo a.lo a.hi f; hi = scale_hi a.lo a.hi f }

abbrev pub product : Ends → Ends → Ends
product a b = record { lo = mul_lo a.lo a.hi b.lo b.hi; hi = mul_hi a.lo a.hi b.lo b.hi }

abbrev pub square : Ends → Ends
square a = record { lo = square_lo a.lo a.hi; hi = square_hi a.lo a.hi }

abbrev pub quotient : Ends → Ends → Ends
quotient n d = record { lo = quot_lo n.lo d.lo d.hi; hi = quot_hi n.hi d.lo d.hi }

abbrev pub narrowed : Ends → ℕ → Ends
narrowed a bits = record { lo = narrow_lo a.lo bits; hi = narrow_hi a.hi bits }

-- ---- the matrix
-- a + b + c + d, and a + b - c - d: nothing is rounded
abbrev pub total : Ends → Ends → Ends → Ends → Ends
total a b c d = sum (sum a b) (sum c d)

abbrev pub balance : Ends → Ends → Ends → Ends → Ends
balance a b c d = difference (sum a b) (sum c d)

-- 2 (a + b), and 2 (a - b)
abbrev pub twice_sum : Ends → Ends → Ends
twice_sum a b = multiple (sum a b) (pos 2)

abbrev pub twice_difference : Ends → Ends → Ends
twice_difference a b = multiple (difference a b) (pos 2)

-- the ends of four components
pub record RotationEnds : Type 0 where
  pub q0 : Ends
  pub q1 : Ends
  pub q2 : Ends
  pub q3 : Ends

abbrev pub rotation_ends : RotationBox → RotationEnds
rotation_ends b = record { q0 = ends b.q0; q1 = ends b.q1; q2 = ends b.q2; q3 = ends b.q3 }

-- the ends of three entries, and of nine
pub record VectorEnds : Type 0 where
  pub x : Ends
  pub y : Ends
  pub z : Ends

pub record MatrixEnds : Type 0 where
  pub x : VectorEnds
  pub y : VectorEnds
  pub z : VectorEnds

abbrev pub vector_ends : VecBox → VectorEnds
vector_ends b = record { x = ends b.x; y = ends b.y; z = ends b.z }

abbrev pub matrix_ends : MatrixBox → MatrixEnds
matrix_ends b = record { x = vector_ends b.x; y = vector_ends b.y; z = vector_ends b.z }

-- the sum of the four squares
abbrev pub norm_ends : RotationEnds → Ends
norm_ends q = total (square q.q0) (square q.q1) (square q.q2) (square q.q3)

-- the numerators of the entries, as in the exact matrix; in the diagonal the squares that are added come first
abbrev pub numerator_ends : RotationEnds → MatrixEnds
numerator_ends q = record {
  x = record {
    x = balance (square q.q0) (square q.q1) (square q.q2) (square q.q3);
    y = twice_difference (product q.q1 q.q2) (product q.q0 q.q3);
    z = twice_sum (product q.q1 q.q3) (product q.q0 q.q2);
  };
  y = record {
    x = twice_sum (product q.q1 q.q2) (product q.q0 q.q3);
    y = balance (square q.q0) (square q.q2) (square q.q1) (square q.q3);
    z = twice_difference (product q.q2 q.q3) (product q.q0 q.q1);
  };
  z = record {
    x = twice_difference (product q.q1 q.q3) (product q.q0 q.q2);
    y = twice_sum (product q.q2 q.q3) (product q.q0 q.q1);
    z = balance (square q.q0) (square q.q3) (square q.q1) (square q.q2);
  };
}

abbrev pub quotients : VectorEnds → Ends → VectorEnds
quotients v d = record { x = quotient v.x d; y = quotient v.y d; z = quotient v.z d }

-- each entry is its numerator over the sum of the squares
abbrev pub matrix_formula : RotationEnds → MatrixEnds
matrix_formula q = record {
  x = quotients (numerator_ends q).x (norm_ends q);
  y = quotients (numerator_ends q).y (norm_ends q);
  z = quotients (numerator_ends q).z (norm_ends q);
}

-- ---- a turned vector, and an image
-- a row times a vector, with 14 bits fewer
abbrev pub row_sum_formula : VectorEnds → V3 → Ends
row_sum_formula m v = sum (sum (multiple m.x v.x) (multiple m.y v.y)) (multiple m.z v.z)

abbrev pub row_formula : VectorEnds → V3 → Ends
row_formula m v = narrowed (row_sum_formula m v) 14

abbrev pub turned_formula : MatrixEnds → V3 → VectorEnds
turned_formula m v = record { x = row_formula m.x v; y = row_formula m.y v; z = row_formula m.z v }

abbrev pub moved_formula : VectorEnds → VectorEnds → VectorEnds
moved_formula a t = record { x = sum a.x t.x; y = sum a.y t.y; z = sum a.z t.z }

-- a box of images: the point is turned and moved
abbrev pub image_formula : RotationEnds → VectorEnds → V3 → VectorEnds
image_formula q t v = moved_formula (turned_formula (matrix_formula q) v) t

-- one number, and one vector, alone
abbrev pub alone : ℤ → Ends
alone z = record { lo = z; hi = z }

abbrev pub point_ends : V3 → VectorEnds
point_ends v = record { x = alone v.x; y = alone v.y; z = alone v.z }

-- the component that leads is 1, and the three others are given in ascending order
abbrev pub leading_ends : ℕ → Ends → Ends → Ends → RotationEnds
leading_ends face a b d =
    if face == 0 then record { q0 = alone (pos ONE); q1 = a; q2 = b; q3 = d }
    else (if face == 1 then record { q0 = a; q1 = alone (pos ONE); q2 = b; q3 = d }
    else (if face == 2 then record { q0 = a; q1 = b; q2 = alone (pos ONE); q3 = d }
    else record { q0 = a; q1 = b; q2 = d; q3 = alone (pos ONE) }))

-- the rotation of a face and three ratios alone
abbrev pub grid_ends : ℕ → Ratios → RotationEnds
grid_ends face r =
    let q = rotation_at face r in
    record { q0 = alone q.q0; q1 = alone q.q1; q2 = alone q.q2; q3 = alone q.q3 }

-- the box of the image of a point under a placement of the grid
abbrev pub grid_image_formula : Assignment → V3 → VectorEnds
grid_image_formula a v = image_formula (grid_ends a.face a.ratios) (point_ends a.shift) v
