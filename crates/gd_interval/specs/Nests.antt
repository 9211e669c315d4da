-- Smaller arguments give a result inside: the laws of the formulas. The inner intervals have the ends w, x and y, z.
use Rattle.std.specs.Prelude.{ℤ, ℕ, pos, ◌+ℤ◌, ◌-ℤ◌, ◌≤ℤ◌, ◌<ℤ◌}
use Rattle.gd_interval.specs.Formulas.{scale_lo, scale_hi, mul_lo, mul_hi, square_lo, square_hi, quot_lo, quot_hi}
use Rattle.gd_interval.specs.Formulas.{narrow_lo, narrow_hi, IsRootBelow, IsRootAbove}
use Rattle.gd_interval.specs.Interval.{IsInside}

-- sums, differences, multiples
abbrev pub SumNests : Type 0
SumNests = (a b c d w x y z : ℤ) → IsInside w x a b → IsInside y z c d → IsInside (w +ℤ y) (x +ℤ z) (a +ℤ c) (b +ℤ d)

abbrev pub DifferenceNests : Type 0
DifferenceNests = (a b c d w x y z : ℤ) → IsInside w x a b → IsInside y z c d
    → IsInside (w -ℤ z) (x -ℤ y) (a -ℤ d) (b -ℤ c)

abbrev pub MultipleNests : Type 0
MultipleNests = (a b w x k : ℤ) → w ≤ℤ x → IsInside w x a b
    → IsInside (scale_lo w x k) (scale_hi w x k) (scale_lo a b k) (scale_hi a b k)

-- products and squares
abbrev pub ProductNests : Type 0
ProductNests = (a b c d w x y z : ℤ) → w ≤ℤ x → y ≤ℤ z → IsInside w x a b → IsInside y z c d
    → IsInside (mul_lo w x y z) (mul_hi w x y z) (mul_lo a b c d) (mul_hi a b c d)

abbrev pub SquareNests : Type 0
SquareNests = (a b w x : ℤ) → w ≤ℤ x → IsInside w x a b
    → IsInside (square_lo w x) (square_hi w x) (square_lo a b) (square_hi a b)

-- quotients by divisors above 0
abbrev pub QuotientNests : Type 0
QuotientNests = (a b c d w x y z : ℤ) → pos 0 <ℤ c → y ≤ℤ z → IsInside w x a b → IsInside y z c d
    → IsInside (quot_lo w y z) (quot_hi x y z) (quot_lo a c d) (quot_hi b c d)

-- fewer bits
abbrev pub NarrowedNests : Type 0
NarrowedNests = (a b w x : ℤ) (k : ℕ) → IsInside w x a b
    → IsInside (narrow_lo w k) (narrow_hi x k) (narrow_lo a k) (narrow_hi b k)

-- roots: r and s of the outer interval, p and q of the inner one
abbrev pub RootNests : Type 0
RootNests = (a b w x r s p q : ℤ) → IsInside w x a b → IsRootBelow r a → IsRootAbove s b → IsRootBelow p w
    → IsRootAbove q x → IsInside p q r s
