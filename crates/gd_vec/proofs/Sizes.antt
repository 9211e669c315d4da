-- Sizes of sums and differences of whole numbers, and that they fit 128 bits.
use Rattle.std.proofs.Common.{arith, ◌≡◌, refl, ℕ, ◌+◌, ◌*◌, ◌^◌, ◌≤◌, ℤ, ◌+ℤ◌, ◌-ℤ◌, unsigned_abs, FitsSigned, w64, to_z, of_z}
use Rattle.std.proofs.lemmas.Int.{ints, fits_signed_from_abs, to_z-of_z}
use Rattle.std.specs.Int.{w128}

fits : (z : ℤ) → unsigned_abs z ≤ 2 ^ 82 → FitsSigned w128 z
fits z h = fits_signed_from_abs w128 z (omega (arith, h))

sum-size : (a b : ℤ) (m n : ℕ) → unsigned_abs a ≤ m → unsigned_abs b ≤ n → unsigned_abs (a +ℤ b) ≤ m + n
sum-size a b m n h k = omega (arith, ints)

difference-size : (a b : ℤ) (m n : ℕ) → unsigned_abs a ≤ m → unsigned_abs b ≤ n → unsigned_abs (a -ℤ b) ≤ m + n
difference-size a b m n h k = omega (arith, ints)

-- the value that a 128-bit number keeps
abbrev pub kept : ℤ → ℤ
kept z = to_z w128 (of_z w128 z)

pub kept-is : (z : ℤ) → unsigned_abs z ≤ 2 ^ 82 → kept z ≡ z
kept-is z h = to_z-of_z w128 z (fits z h)

-- three products of entries, summed from left to right
pub record Summed (p q r : ℤ) : Type 0 where
  pub fits : FitsSigned w128 (kept (kept p +ℤ kept q) +ℤ kept r)
  pub value : kept (kept (kept p +ℤ kept q) +ℤ kept r) ≡ p +ℤ q +ℤ r
  pub size : unsigned_abs (p +ℤ q +ℤ r) ≤ 3 * 2 ^ 80

pub summed : (p q r : ℤ) → unsigned_abs p ≤ 2 ^ 80 → unsigned_abs q ≤ 2 ^ 80 → unsigned_abs r ≤ 2 ^ 80 → Summed p q r
summed p q r x y z =
    let two : unsigned_abs (p +ℤ q) ≤ 2 ^ 80 + 2 ^ 80 = sum-size p q (2 ^ 80) (2 ^ 80) x y in
    let three : unsigned_abs (p +ℤ q +ℤ r) ≤ 2 ^ 80 + 2 ^ 80 + 2 ^ 80 = sum-size (p +ℤ q) r (2 ^ 80 + 2 ^ 80) (2 ^ 80) two z in
    let kp = kept-is p (omega (arith, x)) in
    let kq = kept-is q (omega (arith, y)) in
    let kr = kept-is r (omega (arith, z)) in
    let kpq = kept-is (p +ℤ q) (omega (arith, two)) in
    let kpqr = kept-is (p +ℤ q +ℤ r) (omega (arith, three)) in
    record { fits = rw (kp, kq, kr, kpq) (fits (p +ℤ q +ℤ r) (omega (arith, three))); value = rw (kp, kq, kr, kpq, kpqr) refl; size = omega (arith, three) }

-- the difference of two products of entries
pub record Subtracted (p q : ℤ) : Type 0 where
  pub value : kept (kept p -ℤ kept q) ≡ p -ℤ q
  pub size : unsigned_abs (p -ℤ q) ≤ 2 ^ 81

pub subtracted : (p q : ℤ) → unsigned_abs p ≤ 2 ^ 80 → unsigned_abs q ≤ 2 ^ 80 → Subtracted p q
subtracted p q x y =
    let two : unsigned_abs (p -ℤ q) ≤ 2 ^ 80 + 2 ^ 80 = difference-size p q (2 ^ 80) (2 ^ 80) x y in
    let kp = kept-is p (omega (arith, x)) in
    let kq = kept-is q (omega (arith, y)) in
    let kpq = kept-is (p -ℤ q) (omega (arith, two)) in
    record { value = rw (kp, kq, kpq) refl; size = omega (arith, two) }

-- the difference of two entries, which 64 bits keep
pub entries-subtracted : (a b : ℤ) → unsigned_abs a ≤ 2 ^ 40 → unsigned_abs b ≤ 2 ^ 40 → to_z w64 (of_z w64 (to_z w64 (of_z w64 a) -ℤ to_z w64 (of_z w64 b))) ≡ a -ℤ b
entries-subtracted a b x y = omega (arith, ints)
