-- What a lens has of a box of axes.
use Rattle.std.specs.Prelude.{ℤ, ◌≡◌, ◌^◌, ◌+ℤ◌, neg_ℤ}
use Rattle.gd_axis.specs.AxisTests.{across, direction_ends, span_of}
use Rattle.gd_axis.specs.Shorts.{ShortVectorFits, short_vector}
use Rattle.gd_axis.specs.declared.lens.Lens.{Lens}
use Rattle.gd_axis.specs.declared.lens.Lens.TheVariants.{Plain, Single}
use Rattle.gd_axis.specs.declared.short.ShortVec.{ShortVec}
use Rattle.gd_dir.specs.declared.shape.DirBox.{DirBox}
use Rattle.gd_dir.specs.declared.shape.FormShape.{FormShape}
use Rattle.gd_dir.specs.declared.shape.FormShape.TheVariants.{Circle}
use Rattle.gd_quat.specs.Formulas.{Ends, VectorEnds}

-- the offsets of a box with the other sign
abbrev pub offsets_off : DirBox → VectorEnds
offsets_off b = record {
  x = span_of (neg_ℤ b.offset_hi.x) (neg_ℤ b.offset_lo.x);
  y = span_of (neg_ℤ b.offset_hi.y) (neg_ℤ b.offset_lo.y);
  z = span_of (neg_ℤ b.offset_hi.z) (neg_ℤ b.offset_lo.z);
}

-- both ends moved by a number
abbrev pub moved : Ends → ℤ → Ends
moved a by = span_of (a.lo +ℤ by) (a.hi +ℤ by)

-- a box holds a single direction, and these are its cross products with the offsets
pub record IsSingle (b : DirBox) (moves : VectorEnds) : Type 0 where
  pub x : b.lo.x ≡ b.hi.x
  pub y : b.lo.y ≡ b.hi.y
  pub z : b.lo.z ≡ b.hi.z
  pub offsets : moves ≡ across 0 (direction_ends b) (offsets_off b)

-- only a circle's box has a lens of a single direction
pub record IsSingleLens (shape : FormShape) (b : DirBox) (moves : ShortVec) : Type 0 where
  pub circle : shape ≡ Circle
  pub single : IsSingle b (short_vector moves)
  pub fits : ShortVectorFits (2 ^ 55) moves

abbrev pub IsLens : FormShape → DirBox → Lens → Type 0
IsLens shape b Plain = Unit {0}
IsLens shape b (Single moves) = IsSingleLens shape b moves
