-- Sizes of short products and sums, and that they fit 64 bits.
use Rattle.std.proofs.Common.{arith, ◌≡◌, refl, ℕ, ◌+◌, ◌*◌, ◌^◌, ◌≤◌, ◌<◌, ℤ, ◌+ℤ◌, ◌-ℤ◌, ◌*ℤ◌, unsigned_abs, FitsSigned, w32, w64, to_z, of_z}
use Rattle.std.proofs.lemmas.Int.{ints, clamps, fits_signed_from_abs, to_z-of_z, unsigned_abs-mul}
use Rattle.std.proofs.lemmas.Nat.{mul-le}
use Rattle.std.specs.Int.{int_max, int_min, w128}
use Rattle.gd_base.specs.Limits.{TOLERANCE}
use Rattle.gd_vec.specs.Vector.{IsWithin, norm2_of}
use Rattle.gd_vec.specs.declared.vector.V3.{V3}

-- the value that a 64-bit number keeps
abbrev pub kept : ℤ → ℤ
kept z = to_z w64 (of_z w64 z)

-- the value that a 32-bit number keeps
abbrev pub kept_short : ℤ → ℤ
kept_short z = to_z w32 (of_z w32 z)

pub kept_short-is : (z : ℤ) → unsigned_abs z ≤ 2 ^ 30 → kept_short z ≡ z
kept_short-is z h = to_z-of_z w32 z (fits_signed_from_abs w32 z (omega (arith, h)))

fits : (z : ℤ) → unsigned_abs z ≤ 2 ^ 60 → FitsSigned w64 z
fits z h = fits_signed_from_abs w64 z (omega (arith, h))

pub kept-is : (z : ℤ) → unsigned_abs z ≤ 2 ^ 60 → kept z ≡ z
kept-is z h = to_z-of_z w64 z (fits z h)

-- a product of an entry of a direction and a difference of coordinates
pub record Multiplied (a b : ℤ) : Type 0 where
  pub fits : FitsSigned w64 (kept a *ℤ kept b)
  pub value : kept (kept a *ℤ kept b) ≡ a *ℤ b
  pub size : unsigned_abs (a *ℤ b) ≤ 2 ^ 54

pub multiplied : (a b : ℤ) → unsigned_abs a ≤ 2 ^ 30 → unsigned_abs b ≤ TOLERANCE → Multiplied a b
multiplied a b x y =
    let most : unsigned_abs (a *ℤ b) ≤ 2 ^ 30 * TOLERANCE = rw unsigned_abs-mul (mul-le (unsigned_abs a) (unsigned_abs b) (2 ^ 30) TOLERANCE x y) in
    let ka = kept-is a (omega (arith, x)) in
    let kb = kept-is b (omega (arith, y)) in
    let kab = kept-is (a *ℤ b) (omega (arith, most)) in
    record { fits = rw (ka, kb) (fits (a *ℤ b) (omega (arith, most))); value = rw (ka, kb, kab) refl; size = omega (arith, most) }

pub abs_max : (a b : ℤ) (m : ℕ) → unsigned_abs a ≤ m → unsigned_abs b ≤ m → unsigned_abs (int_max a b) ≤ m
abs_max a b m h k = omega (arith, ints, clamps)

pub abs_min : (a b : ℤ) (m : ℕ) → unsigned_abs a ≤ m → unsigned_abs b ≤ m → unsigned_abs (int_min a b) ≤ m
abs_min a b m h k = omega (arith, ints, clamps)

pub difference-size : (a b : ℤ) (m : ℕ) → unsigned_abs a ≤ m → unsigned_abs b ≤ m → unsigned_abs (a -ℤ b) ≤ 2 * m
difference-size a b m h k = omega (arith, ints)

square-size : (a : ℤ) → unsigned_abs a ≤ 2 ^ 30 → unsigned_abs (a *ℤ a) ≤ 2 ^ 60
square-size a h = rw unsigned_abs-mul (mul-le (unsigned_abs a) (unsigned_abs a) (2 ^ 30) (2 ^ 30) h h)

-- the squared length of a direction
pub norm2-size : (n : V3) → IsWithin (2 ^ 30) n → unsigned_abs (norm2_of n) ≤ 3 * 2 ^ 60
norm2-size n h =
    let x = square-size n.x h.x in
    let y = square-size n.y h.y in
    let z = square-size n.z h.z in
    omega (arith, ints, x, y, z)

pub tolerance-size : (t m : ℕ) → t ≤ TOLERANCE → m ≤ 3 * 2 ^ 60 → t * t * m < 2 ^ 126
tolerance-size t m h k =
    let square : t * t ≤ TOLERANCE * TOLERANCE = mul-le t t TOLERANCE TOLERANCE h h in
    let all : t * t * m ≤ TOLERANCE * TOLERANCE * (3 * 2 ^ 60) = mul-le (t * t) m (TOLERANCE * TOLERANCE) (3 * 2 ^ 60) square k in
    omega (arith, all)

-- ---- wide numbers
abbrev pub kept_wide : ℤ → ℤ
kept_wide z = to_z w128 (of_z w128 z)

pub kept_wide-is : (z : ℤ) → unsigned_abs z ≤ 2 ^ 62 → kept_wide z ≡ z
kept_wide-is z h = to_z-of_z w128 z (fits_signed_from_abs w128 z (omega (arith, h)))

pub wide_sum : (p q r : ℤ) → unsigned_abs p ≤ 2 ^ 60 → unsigned_abs q ≤ 2 ^ 60 → unsigned_abs r ≤ 2 ^ 60 → (kept_wide (kept_wide (kept_wide p +ℤ kept_wide q) +ℤ kept_wide r) ≡ p +ℤ q +ℤ r) × (unsigned_abs (p +ℤ q +ℤ r) ≤ 3 * 2 ^ 60)
wide_sum p q r x y z =
    let two : unsigned_abs (p +ℤ q) ≤ 2 ^ 60 + 2 ^ 60 = omega (arith, ints) in
    let three : unsigned_abs (p +ℤ q +ℤ r) ≤ 3 * 2 ^ 60 = omega (arith, ints) in
    let kp = kept_wide-is p (omega (arith, x)) in
    let kq = kept_wide-is q (omega (arith, y)) in
    let kr = kept_wide-is r (omega (arith, z)) in
    let kpq = kept_wide-is (p +ℤ q) (omega (arith, two)) in
    let kpqr = kept_wide-is (p +ℤ q +ℤ r) (omega (arith, three)) in
    (rw (kp, kq, kr, kpq, kpqr) refl, three)
