-- The boxes over which the values of points about an axis are taken.
use Rattle.std.specs.Prelude.{ℕ, ℤ, pos, ◌≡◌, ◌<◌, ◌≤◌, ◌-◌, ◌*◌, ◌^◌, ◌≤ℤ◌, nat_le}
use Rattle.std.specs.List.{position_or_len, range_with_len}
use Rattle.gd_axis.specs.Sizes.{DIRECTION_SIZE, SQUARE_SIZE}
use Rattle.gd_dir.specs.Boxes.{IsBox}
use Rattle.gd_dir.specs.declared.shape.DirBox.{DirBox}
use Rattle.gd_dir.specs.declared.shape.FormShape.{FormShape}
use Rattle.gd_dir.specs.declared.shape.FormShape.TheVariants.{Circle}
use Rattle.gd_vec.specs.Vector.{IsWithin}

-- a box of directions and offsets; the entries of a section's stated direction are within 2^10
pub record IsFormBox (shape : FormShape) (b : DirBox) : Type 0 where
  pub box : IsBox b
  pub short_lo : shape ≡ Circle → IsWithin DIRECTION_SIZE b.lo
  pub short_hi : shape ≡ Circle → IsWithin DIRECTION_SIZE b.hi

-- a squared distance in squares of fine units, times a direction's squared length, as it arises within the limits
abbrev pub IsDistance2 : ℤ → Type 0
IsDistance2 z = (pos 0 ≤ℤ z) × (z ≤ℤ pos (3 * SQUARE_SIZE))

-- its root
abbrev pub IsDistance : ℤ → Type 0
IsDistance z = (pos 0 ≤ℤ z) × (z ≤ℤ pos (2 ^ 57))

-- the least number of bits with 2^bits at least n
pub record IsLeastPower (n bits : ℕ) : Type 0 where
  pub above : n ≤ 2 ^ bits
  pub least : 0 < bits → 2 ^ (bits - 1) < n

-- that number: the first of 0, 1, 2, .. at which it is so
abbrev pub least_power : ℕ → ℕ
least_power n = position_or_len (λ (k : ℕ). nat_le n (2 ^ k)) (range_with_len 0 n)
