-- The square with its sign keeps order, signs and products.
use Rattle.std.proofs.Common.{suc, zero, ◌≡◌, refl, ap, ◌∙◌, arith}
use Rattle.std.proofs.lemmas.Int.{ints, by_lt_z, unsigned_abs-mul}
use Rattle.std.specs.Prelude.{ℤ, pos, negsuc, ◌*ℤ◌, neg_ℤ, ◌≤ℤ◌, ◌<ℤ◌, unsigned_abs}
use borrow.Author.Differences.{le_out, lt_out}
use Rattle.gd_int.specs.Roots.{signed_square}
use Rattle.gd_int.proofs.Integers.{mul_swap_ℤ}
use Rattle.gd_int.proofs.Squares.{square_le, square_lt}

pub signed_square-mul : (a b : ℤ) → signed_square (a *ℤ b) ≡ signed_square a *ℤ signed_square b
signed_square-mul a b = ap (λ n. (a *ℤ b) *ℤ pos n) (unsigned_abs-mul a b) ∙ mul_swap_ℤ a b (pos (unsigned_abs a)) (pos (unsigned_abs b))

pub signed_square-neg : (a : ℤ) → signed_square (neg_ℤ a) ≡ neg_ℤ (signed_square a)
signed_square-neg (pos zero) = refl
signed_square-neg (pos (suc n)) = refl
signed_square-neg (negsuc n) = omega (arith, ints)

pub signed_square-nonneg : (a : ℤ) → pos 0 ≤ℤ a → signed_square a ≡ a *ℤ a
signed_square-nonneg (pos n) h = refl
signed_square-nonneg (negsuc n) h = absurd (omega (arith, le_out (pos 0) (negsuc n) h))

pub signed_square-nonpos : (a : ℤ) → a ≤ℤ pos 0 → signed_square a ≡ neg_ℤ (a *ℤ a)
signed_square-nonpos (pos n) h = let z : n ≡ 0 = omega (arith, le_out (pos n) (pos 0) h) in rw z refl
signed_square-nonpos (negsuc n) h = omega (arith, ints)

pub signed_square_le : (a b : ℤ) → a ≤ℤ b → signed_square a ≤ℤ signed_square b
signed_square_le (pos a) (pos b) h = omega (arith, ints, square_le a b (omega (arith, le_out (pos a) (pos b) h)))
signed_square_le (pos a) (negsuc b) h = absurd (omega (arith, le_out (pos a) (negsuc b) h))
signed_square_le (negsuc a) (pos b) h = omega (arith, ints)
signed_square_le (negsuc a) (negsuc b) h = omega (arith, ints, square_le (suc b) (suc a) (omega (arith, le_out (negsuc a) (negsuc b) h)))

pub signed_square_lt : (a b : ℤ) → a <ℤ b → signed_square a <ℤ signed_square b
signed_square_lt (pos a) (pos b) h = omega (arith, ints, square_lt a b (omega (arith, lt_out (pos a) (pos b) h)))
signed_square_lt (pos a) (negsuc b) h = absurd (omega (arith, lt_out (pos a) (negsuc b) h))
signed_square_lt (negsuc a) (pos b) h = omega (arith, ints)
signed_square_lt (negsuc a) (negsuc b) h = omega (arith, ints, square_lt (suc b) (suc a) (omega (arith, lt_out (negsuc a) (negsuc b) h)))

pub signed_square-le_out : (a b : ℤ) → signed_square a ≤ℤ signed_square b → a ≤ℤ b
signed_square-le_out a b h = by_lt_z b a (λ (l : b <ℤ a). absurd (omega (arith, ints, signed_square_lt b a l))) (λ (l : a ≤ℤ b). l)
