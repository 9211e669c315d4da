-- What the matrix of a rotation keeps, and that smaller boxes give smaller results.
use Rattle.std.specs.Prelude.{ℤ, pos, ◌≡◌, ◌*ℤ◌, ◌-ℤ◌, ◌+ℤ◌}
use Rattle.gd_interval.specs.Interval.{IsInside}
use Rattle.gd_interval.specs.declared.iv.Iv.{Iv}
use Rattle.gd_quat.specs.Boxes.{EnclosesImages, EnclosesMatrix, EnclosesTurned, IsRotationBox}
use Rattle.gd_quat.specs.Formulas.{matrix_ends, matrix_formula, moved_formula, rotation_ends, turned_formula}
use Rattle.gd_quat.specs.Formulas.{vector_ends}
use Rattle.gd_quat.specs.Rotations.{Matrix, Rotation, applied, matrix_of, norm_of}
use Rattle.gd_quat.specs.declared.shape.MatrixBox.{MatrixBox}
use Rattle.gd_quat.specs.declared.shape.RotationBox.{RotationBox}
use Rattle.gd_quat.specs.declared.shape.VecBox.{VecBox}
use Rattle.gd_vec.specs.Vector.{dot_of}
use Rattle.gd_vec.specs.declared.vector.V3.{V3}

-- the rows are equally long and at right angles to each other: the matrix times its transpose is n^2 times one
pub record HasSquareRows (n : ℤ) (m : Matrix) : Type 0 where
  pub x : dot_of m.x m.x ≡ n *ℤ n
  pub y : dot_of m.y m.y ≡ n *ℤ n
  pub z : dot_of m.z m.z ≡ n *ℤ n
  pub xy : dot_of m.x m.y ≡ pos 0
  pub yz : dot_of m.y m.z ≡ pos 0
  pub zx : dot_of m.z m.x ≡ pos 0

-- the product of the first row and of the cross product of the others
abbrev pub determinant_of : Matrix → ℤ
determinant_of m =
    m.x.x *ℤ (m.y.y *ℤ m.z.z -ℤ m.y.z *ℤ m.z.y) +ℤ m.x.y *ℤ (m.y.z *ℤ m.z.x -ℤ m.y.x *ℤ m.z.z) +ℤ m.x.z *ℤ (m.y.x *ℤ
    m.z.y -ℤ m.y.y *ℤ m.z.x)

-- lengths and right angles are kept: the product of two turned vectors is N^2 times the product of the vectors
abbrev pub KeepsProducts : Type 0
KeepsProducts = (q : Rotation) (v w : V3)
    → dot_of (applied (matrix_of q) v) (applied (matrix_of q) w) ≡ (pos (norm_of q) *ℤ pos (norm_of q)) *ℤ dot_of v w

abbrev pub KeepsRows : Type 0
KeepsRows = (q : Rotation) → HasSquareRows (pos (norm_of q)) (matrix_of q)

-- no mirror image: the determinant is N^3
abbrev pub KeepsHand : Type 0
KeepsHand = (q : Rotation) → determinant_of (matrix_of q) ≡ pos (norm_of q) *ℤ pos (norm_of q) *ℤ pos (norm_of q)

-- the box r of a turned vector and a translation holds the images under every placement that the boxes b and t hold
abbrev pub ImagesAreHeld : Type 0
ImagesAreHeld = (b : RotationBox) (m : MatrixBox) (v : V3) (x t r : VecBox)
    → EnclosesMatrix b m → EnclosesTurned m v x → vector_ends r ≡ moved_formula (vector_ends x) (vector_ends t)
    → EnclosesImages b t v r

-- ---- smaller boxes
abbrev pub Lies : Iv → Iv → Type 0
Lies a b = IsInside a.lo a.hi b.lo b.hi

pub record RotationInside (a b : RotationBox) : Type 0 where
  pub q0 : Lies a.q0 b.q0
  pub q1 : Lies a.q1 b.q1
  pub q2 : Lies a.q2 b.q2
  pub q3 : Lies a.q3 b.q3

pub record VectorInside (a b : VecBox) : Type 0 where
  pub x : Lies a.x b.x
  pub y : Lies a.y b.y
  pub z : Lies a.z b.z

pub record MatrixInside (a b : MatrixBox) : Type 0 where
  pub x : VectorInside a.x b.x
  pub y : VectorInside a.y b.y
  pub z : VectorInside a.z b.z

-- the matrix of a box inside another lies in its matrix
abbrev pub MatricesNest : Type 0
MatricesNest = (a b : RotationBox) (m n : MatrixBox) → IsRotationBox a → IsRotationBox b → RotationInside a b
    → matrix_ends m ≡ matrix_formula (rotation_ends a) → matrix_ends n ≡ matrix_formula (rotation_ends b)
    → MatrixInside m n

-- so do the turned vectors
abbrev pub TurnedNest : Type 0
TurnedNest = (m n : MatrixBox) (v : V3) (x y : VecBox) → MatrixInside m n
    → vector_ends x ≡ turned_formula (matrix_ends m) v → vector_ends y ≡ turned_formula (matrix_ends n) v
    → VectorInside x y

-- and their sums with translations
abbrev pub MovedNest : Type 0
MovedNest = (a b s t x y : VecBox) → VectorInside a b → VectorInside s t
    → vector_ends x ≡ moved_formula (vector_ends a) (vector_ends s)
    → vector_ends y ≡ moved_formula (vector_ends b) (vector_ends t) → VectorInside x y
