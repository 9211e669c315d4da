-- Boxes of rotations, matrices and vectors, and what it means that a box holds an exact one.
use Rattle.std.specs.Prelude.{ℕ, ℤ, pos, ◌≡◌, ◌*◌, ◌^◌, ◌≤◌, ◌<◌, ◌⊎◌, ◌-ℤ◌, ◌*ℤ◌, ◌≤ℤ◌, unsigned_abs}
use Rattle.gd_base.specs.Scales.{FINE, ONE}
use Rattle.gd_interval.specs.Interval.{Inside}
use Rattle.gd_interval.specs.declared.iv.Iv.{Iv}
use Rattle.gd_quat.specs.Placements.{IsPlacement, Placement, denominator_of, image_of, plus, times}
use Rattle.gd_quat.specs.Rotations.{IsRotation, Matrix, Rotation, applied, matrix_of, norm_of}
use Rattle.gd_quat.specs.declared.shape.MatrixBox.{MatrixBox}
use Rattle.gd_quat.specs.declared.shape.RotationBox.{RotationBox}
use Rattle.gd_quat.specs.declared.shape.VecBox.{VecBox}
use Rattle.gd_vec.specs.Vector.{norm_sum_of}
use Rattle.gd_vec.specs.declared.vector.V3.{V3}

-- ---- sizes
-- how large an entry of a rotation's matrix is at most, in 2^-30
abbrev pub ENTRY_SIZE : ℕ
ENTRY_SIZE = 2 ^ 32

-- how large an entry of a matrix that turns a vector may be, in 2^-30
abbrev pub MATRIX_SIZE : ℕ
MATRIX_SIZE = 2 ^ 34

-- how large an entry of the vector may be, in units
abbrev pub VECTOR_SIZE : ℕ
VECTOR_SIZE = 2 ^ 40

-- how large an entry of an image and of a translation may be that are added, in fine units
abbrev pub IMAGE_SIZE : ℕ
IMAGE_SIZE = 2 ^ 64

-- no end is larger than this size
pub record Fits (size : ℕ) (a : Iv) : Type 0 where
  pub lo : unsigned_abs a.lo ≤ size
  pub hi : unsigned_abs a.hi ≤ size

pub record VectorFits (size : ℕ) (b : VecBox) : Type 0 where
  pub x : Fits size b.x
  pub y : Fits size b.y
  pub z : Fits size b.z

pub record MatrixFits (size : ℕ) (b : MatrixBox) : Type 0 where
  pub x : VectorFits size b.x
  pub y : VectorFits size b.y
  pub z : VectorFits size b.z

-- an interval that holds 1 alone, in 2^-30
abbrev pub IsOne : Iv → Type 0
IsOne a = (a.lo ≡ pos ONE) × (a.hi ≡ pos ONE)

-- one component is 1, and none is larger, in 2^-30
pub record IsRotationBox (b : RotationBox) : Type 0 where
  pub q0 : Fits ONE b.q0
  pub q1 : Fits ONE b.q1
  pub q2 : Fits ONE b.q2
  pub q3 : Fits ONE b.q3
  pub leads : IsOne b.q0 ⊎ (IsOne b.q1 ⊎ (IsOne b.q2 ⊎ IsOne b.q3))

-- a box of vectors holds the fraction v / k
pub record HoldsVector (b : VecBox) (k : ℕ) (v : V3) : Type 0 where
  pub x : Inside b.x.lo b.x.hi k v.x
  pub y : Inside b.y.lo b.y.hi k v.y
  pub z : Inside b.z.lo b.z.hi k v.z

-- a box of matrices holds the fraction m / k
pub record HoldsMatrix (b : MatrixBox) (k : ℕ) (m : Matrix) : Type 0 where
  pub x : HoldsVector b.x k m.x
  pub y : HoldsVector b.y k m.y
  pub z : HoldsVector b.z k m.z

-- a box of rotations holds a rotation: it holds factor / under times its four numbers, for some fraction that isn't 0
pub record HoldsRotation (b : RotationBox) (q : Rotation) : Type 0 where
  pub factor : ℤ
  pub under : ℕ
  pub factor-counts : 0 < unsigned_abs factor
  pub under-counts : 0 < under
  pub q0 : Inside b.q0.lo b.q0.hi under (factor *ℤ q.q0)
  pub q1 : Inside b.q1.lo b.q1.hi under (factor *ℤ q.q1)
  pub q2 : Inside b.q2.lo b.q2.hi under (factor *ℤ q.q2)
  pub q3 : Inside b.q3.lo b.q3.hi under (factor *ℤ q.q3)

abbrev pub matrix_times : ℤ → Matrix → Matrix
matrix_times f m = record { x = times f m.x; y = times f m.y; z = times f m.z }

-- the box m holds the matrix, in 2^-30, of every rotation that the box b holds
abbrev pub EnclosesMatrix : RotationBox → MatrixBox → Type 0
EnclosesMatrix b m = (q : Rotation) → IsRotation q → HoldsRotation b q
    → HoldsMatrix m (norm_of q) (matrix_times (pos ONE) (matrix_of q))

-- the box r holds e v / 2^14 for every matrix e that the box m holds: entries in 2^-30 become fine units of 2^-16 unit
abbrev pub EnclosesTurned : MatrixBox → V3 → VecBox → Type 0
EnclosesTurned m v r = (k : ℕ) (e : Matrix) → HoldsMatrix m k e → HoldsVector r (k * 2 ^ 14) (applied e v)

-- the box r holds the sum of every two vectors of a and b over one denominator
abbrev pub EnclosesMoved : VecBox → VecBox → VecBox → Type 0
EnclosesMoved a b r = (k : ℕ) (v w : V3) → HoldsVector a k v → HoldsVector b k w → HoldsVector r k (plus v w)

-- the box r holds, in fine units, the exact image of the point at v under a placement
abbrev pub HoldsImage : VecBox → Placement → V3 → Type 0
HoldsImage r p v = HoldsVector r (denominator_of p) (times (pos FINE) (image_of p v))

-- the box of images holds the image at every placement that the boxes of the rotation and the translation hold
abbrev pub EnclosesImages : RotationBox → VecBox → V3 → VecBox → Type 0
EnclosesImages b t v r =
    (p : Placement) → IsPlacement p → HoldsRotation b p.turn → HoldsVector t p.scale (times (pos FINE) p.shift)
    → HoldsImage r p v

-- ---- widths
abbrev pub width_of : Iv → ℤ
width_of a = a.hi -ℤ a.lo

-- no component's interval is wider than w
pub record IsNarrow (w : ℕ) (b : RotationBox) : Type 0 where
  pub q0 : width_of b.q0 ≤ℤ pos w
  pub q1 : width_of b.q1 ≤ℤ pos w
  pub q2 : width_of b.q2 ≤ℤ pos w
  pub q3 : width_of b.q3 ≤ℤ pos w

pub record VectorWidth (w : ℕ) (b : VecBox) : Type 0 where
  pub x : width_of b.x ≤ℤ pos w
  pub y : width_of b.y ≤ℤ pos w
  pub z : width_of b.z ≤ℤ pos w

pub record MatrixWidth (w : ℕ) (b : MatrixBox) : Type 0 where
  pub x : VectorWidth w b.x
  pub y : VectorWidth w b.y
  pub z : VectorWidth w b.z

-- where the entries of a matrix are at most w wide, a turned vector's entry, less 2 for the rounding, is at most as
-- wide as w times the sum of v's sizes over 2^14
pub record TurnedWidth (w : ℕ) (v : V3) (r : VecBox) : Type 0 where
  pub x : ((width_of r.x -ℤ pos 2) *ℤ pos (2 ^ 14)) ≤ℤ (pos w *ℤ norm_sum_of v)
  pub y : ((width_of r.y -ℤ pos 2) *ℤ pos (2 ^ 14)) ≤ℤ (pos w *ℤ norm_sum_of v)
  pub z : ((width_of r.z -ℤ pos 2) *ℤ pos (2 ^ 14)) ≤ℤ (pos w *ℤ norm_sum_of v)
