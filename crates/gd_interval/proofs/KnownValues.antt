-- Ends that were worked by hand, so that a wrong formula does not check.
use Rattle.std.proofs.Common.{◌≡◌, refl, arith, pos, neg_ℤ, ◌<ℤ◌}
use Rattle.std.proofs.lemmas.Int.{ints}
use Rattle.gd_interval.specs.Interval.{Inside, IsInside, IsWithin}
use Rattle.gd_interval.specs.Formulas.{scale_lo, scale_hi, mul_lo, mul_hi, square_lo, square_hi, quot_lo, quot_hi, narrow_lo, narrow_hi, IsRootBelow, IsRootAbove}

-- seven halves lie from 3 to 4, an interval from -1 to 2 in one from -1 to 3, and one from -2 to 1 within 2
pub known_members : Inside (pos 3) (pos 4) 2 (pos 7) × IsInside (neg_ℤ (pos 1)) (pos 2) (neg_ℤ (pos 1)) (pos 3) × IsWithin (neg_ℤ (pos 2)) (pos 1) (pos 2)
known_members = ((omega (arith, ints), omega (arith, ints)), (omega (arith, ints), omega (arith, ints)), (omega (arith, ints), omega (arith, ints)))

-- from 2 to 3, times -4: from -12 to -8
pub known_multiples : (scale_lo (pos 2) (pos 3) (neg_ℤ (pos 4)) ≡ neg_ℤ (pos 12)) × (scale_hi (pos 2) (pos 3) (neg_ℤ (pos 4)) ≡ neg_ℤ (pos 8))
known_multiples = (refl, refl)

-- from -3 to 2, times from -5 to 7: from -21 to 15; and times from 2 to 7: from -21 to 14
pub known_products : (mul_lo (neg_ℤ (pos 3)) (pos 2) (neg_ℤ (pos 5)) (pos 7) ≡ neg_ℤ (pos 21)) × (mul_hi (neg_ℤ (pos 3)) (pos 2) (neg_ℤ (pos 5)) (pos 7) ≡ pos 15)
    × (mul_lo (neg_ℤ (pos 3)) (pos 2) (pos 2) (pos 7) ≡ neg_ℤ (pos 21)) × (mul_hi (neg_ℤ (pos 3)) (pos 2) (pos 2) (pos 7) ≡ pos 14)
known_products = (refl, refl, refl, refl)

-- squares over 0 begin at 0; from -3 to -2: from 4 to 9
pub known_squares : (square_lo (neg_ℤ (pos 3)) (pos 2) ≡ pos 0) × (square_hi (neg_ℤ (pos 3)) (pos 2) ≡ pos 9)
    × (square_lo (neg_ℤ (pos 3)) (neg_ℤ (pos 2)) ≡ pos 4) × (square_hi (neg_ℤ (pos 3)) (neg_ℤ (pos 2)) ≡ pos 9)
    × (square_lo (pos 2) (pos 3) ≡ pos 4) × (square_lo (pos 0) (pos 3) ≡ pos 0)
known_squares = (refl, refl, refl, refl, refl, refl)

-- 1 by 3 to 4: from 1/4 to 1/3, and -1 the other way round, in 2^-30
pub known_quotients : (quot_lo (pos 1) (pos 3) (pos 4) ≡ pos 268_435_456) × (quot_hi (pos 1) (pos 3) (pos 4) ≡ pos 357_913_942)
    × (quot_lo (neg_ℤ (pos 1)) (pos 3) (pos 4) ≡ neg_ℤ (pos 357_913_942)) × (quot_hi (neg_ℤ (pos 1)) (pos 3) (pos 4) ≡ neg_ℤ (pos 268_435_456))
known_quotients = (refl, refl, refl, refl)

-- halves are rounded outward
pub known_halves : (narrow_lo (pos 5) 1 ≡ pos 2) × (narrow_hi (pos 5) 1 ≡ pos 3) × (narrow_lo (neg_ℤ (pos 5)) 1 ≡ neg_ℤ (pos 3)) × (narrow_hi (neg_ℤ (pos 5)) 1 ≡ neg_ℤ (pos 2))
known_halves = (refl, refl, refl, refl)

-- the root of 8 lies from 2 to 3, that of 9 is 3, that of 0 is 0
pub known_roots : IsRootBelow (pos 2) (pos 8) × IsRootAbove (pos 3) (pos 8) × IsRootBelow (pos 3) (pos 9) × IsRootAbove (pos 3) (pos 9) × IsRootBelow (pos 0) (pos 0) × IsRootAbove (pos 0) (pos 0)
known_roots = (
  (omega (arith, ints), omega (arith, ints), omega (arith, ints)),
  (omega (arith, ints), omega (arith, ints), (λ _. omega (arith, ints))),
  (omega (arith, ints), omega (arith, ints), omega (arith, ints)),
  (omega (arith, ints), omega (arith, ints), (λ _. omega (arith, ints))),
  (omega (arith, ints), omega (arith, ints), omega (arith, ints)),
  (omega (arith, ints), omega (arith, ints), (λ (h : pos 0 <ℤ pos 0). absurd (omega (arith, ints)))),
)
