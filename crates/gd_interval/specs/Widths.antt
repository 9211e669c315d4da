-- How wide a result may be, where the arguments have their widths and sizes.
use Rattle.std.specs.Prelude.{◌≡◌, ℤ, ℕ, pos, neg_ℤ, ◌+ℤ◌, ◌-ℤ◌, ◌*ℤ◌, ◌≤ℤ◌, unsigned_abs}
use Rattle.gd_base.specs.Scales.{ONE}
use Rattle.gd_interval.specs.declared.iv.Iv.{Iv}
use Rattle.gd_interval.specs.Interval.{IsWithin}

-- the upper end less the lower
abbrev pub width_of : Iv → ℤ
width_of a = a.hi -ℤ a.lo

-- where a is within m and b within n, a product is at most as wide as m times b's width and n times a's width together
abbrev pub ProductWidth : Iv → Iv → Iv → Type 0
ProductWidth a b r = (m n : ℤ) → IsWithin a.lo a.hi m → IsWithin b.lo b.hi n
    → width_of r ≤ℤ (m *ℤ width_of b +ℤ n *ℤ width_of a)

-- a multiple by f is as wide as a's width times the size of f
abbrev pub MultipleWidth : Iv → ℤ → Iv → Type 0
MultipleWidth a f r = width_of r ≡ pos (unsigned_abs f) *ℤ width_of a

-- where a is within m, a square is at most as wide as 2 m times a's width
abbrev pub SquareWidth : Iv → Iv → Type 0
SquareWidth a r = (m : ℤ) → IsWithin a.lo a.hi m → width_of r ≤ℤ ((pos 2 *ℤ m) *ℤ width_of a)

-- where g is at least every quotient n.lo / d.hi and -n.hi / d.hi, a quotient's width, less 2 for the rounding, is at
-- most 2^30 times (n's width and g times d's width together) over d.lo: said by products
abbrev pub QuotientWidth : Iv → Iv → Iv → Type 0
QuotientWidth n d r = (g : ℕ) → n.lo ≤ℤ (pos g *ℤ d.hi) → neg_ℤ n.hi ≤ℤ (pos g *ℤ d.hi)
    → ((width_of r -ℤ pos 2) *ℤ d.lo) ≤ℤ ((width_of n +ℤ pos g *ℤ width_of d) *ℤ pos ONE)
