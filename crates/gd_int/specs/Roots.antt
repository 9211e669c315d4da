-- The order of a number and a multiple of a root, without a root.
use Rattle.std.specs.Prelude.{ℤ, pos, ◌*ℤ◌, unsigned_abs}
use Rattle.std.specs.declared.cmp.Ordering.{Ordering}
use Rattle.std.specs.Ordering.{int_cmp}

-- the square with the sign of z: it grows with z
abbrev pub signed_square : ℤ → ℤ
signed_square z = z *ℤ pos (unsigned_abs z)

-- s compared with h times the root of n: both are taken to their signed squares
abbrev pub cmp_root_of : ℤ → ℤ → ℤ → Ordering
cmp_root_of s h n = int_cmp (signed_square s) (signed_square h *ℤ n)
