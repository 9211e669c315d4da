-- Sizes of products and of ends.
use Rattle.std.proofs.Common.{◌≡◌, ℕ, ℤ, ◌≤◌, ◌<◌, ◌*◌, ◌^◌, ◌*ℤ◌, unsigned_abs, arith}
use Rattle.std.proofs.lemmas.Int.{ints, clamps, unsigned_abs-mul}
use Rattle.std.proofs.lemmas.Nat.{mul-le}
use Rattle.std.specs.Int.{int_min, int_max}

-- the product of an entry of a direction and a coordinate
pub entry-product : (a b : ℤ) → unsigned_abs a ≤ 2 ^ 30 → unsigned_abs b ≤ 2 ^ 23 → unsigned_abs (a *ℤ b) ≤ 2 ^ 53
entry-product a b h k = rw unsigned_abs-mul (omega (arith, mul-le (unsigned_abs a) (unsigned_abs b) (2 ^ 30) (2 ^ 23) h k))

-- the lesser and the greater of two numbers within a bound
pub least-size : (a b : ℤ) (m : ℕ) → unsigned_abs a ≤ m → unsigned_abs b ≤ m → unsigned_abs (int_min a b) ≤ m
least-size a b m h k = omega (arith, ints, clamps)

pub greatest-size : (a b : ℤ) (m : ℕ) → unsigned_abs a ≤ m → unsigned_abs b ≤ m → unsigned_abs (int_max a b) ≤ m
greatest-size a b m h k = omega (arith, ints, clamps)
