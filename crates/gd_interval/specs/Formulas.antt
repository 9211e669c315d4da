-- The ends of each result, from the ends a, b of the first interval and c, d of the second.
use Rattle.std.specs.Prelude.{ℤ, ℕ, pos, ◌+ℤ◌, ◌-ℤ◌, ◌*ℤ◌, ◌≤ℤ◌, ◌<ℤ◌, ◌^◌, cond, int_le, ◌&&◌}
use Rattle.std.specs.Int.{int_min, int_max}
use Rattle.gd_base.specs.Scales.{ONE}
use Rattle.gd_int.specs.Division.{floor_of, ceil_of}

-- the lesser and the greater of both ends times k
abbrev pub scale_lo : ℤ → ℤ → ℤ → ℤ
scale_lo a b k = int_min (a *ℤ k) (b *ℤ k)

abbrev pub scale_hi : ℤ → ℤ → ℤ → ℤ
scale_hi a b k = int_max (a *ℤ k) (b *ℤ k)

-- the least and the greatest of the four products of ends
abbrev pub mul_lo : ℤ → ℤ → ℤ → ℤ → ℤ
mul_lo a b c d = int_min (int_min (a *ℤ c) (a *ℤ d)) (int_min (b *ℤ c) (b *ℤ d))

abbrev pub mul_hi : ℤ → ℤ → ℤ → ℤ → ℤ
mul_hi a b c d = int_max (int_max (a *ℤ c) (a *ℤ d)) (int_max (b *ℤ c) (b *ℤ d))

-- 0 where the interval holds 0, and else the lesser of the squared ends
abbrev pub square_lo : ℤ → ℤ → ℤ
square_lo a b = cond (int_le a (pos 0) && int_le (pos 0) b) (pos 0) (int_min (a *ℤ a) (b *ℤ b))

-- the greater of the squared ends
abbrev pub square_hi : ℤ → ℤ → ℤ
square_hi a b = int_max (a *ℤ a) (b *ℤ b)

-- 2^30 times an end n of the dividend, over the end of the divisor that moves the quotient outward, rounded outward
abbrev pub quot_lo : ℤ → ℤ → ℤ → ℤ
quot_lo n c d = floor_of (n *ℤ pos ONE) (cond (int_le (pos 0) n) d c)

abbrev pub quot_hi : ℤ → ℤ → ℤ → ℤ
quot_hi n c d = ceil_of (n *ℤ pos ONE) (cond (int_le (pos 0) n) c d)

-- an end over 2^k, rounded down and rounded up
abbrev pub narrow_lo : ℤ → ℕ → ℤ
narrow_lo a k = floor_of a (pos (2 ^ k))

abbrev pub narrow_hi : ℤ → ℕ → ℤ
narrow_hi b k = ceil_of b (pos (2 ^ k))

-- r is the greatest whole number whose square is at most a
abbrev pub IsRootBelow : ℤ → ℤ → Type 0
IsRootBelow r a = (pos 0 ≤ℤ r) × ((r *ℤ r) ≤ℤ a) × (a <ℤ ((r +ℤ pos 1) *ℤ (r +ℤ pos 1)))

-- r is the least whole number, from 0 on, whose square is at least b
abbrev pub IsRootAbove : ℤ → ℤ → Type 0
IsRootAbove r b = (pos 0 ≤ℤ r) × (b ≤ℤ (r *ℤ r)) × (pos 0 <ℤ r → ((r -ℤ pos 1) *ℤ (r -ℤ pos 1)) <ℤ b)
