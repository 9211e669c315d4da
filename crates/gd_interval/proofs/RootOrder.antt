-- Roots rounded down and up: their order, and that they grow.
use Rattle.std.proofs.Common.{arith}
use Rattle.std.proofs.lemmas.Int.{ints, by_lt_z}
use Rattle.std.specs.Prelude.{ℤ, pos, ◌+ℤ◌, ◌-ℤ◌, ◌*ℤ◌, ◌≤ℤ◌, ◌<ℤ◌}
use borrow.Author.Differences.{le_out, lt_out}
use Rattle.gd_int.proofs.Integers.{≤ℤ_trans, mul_le_right, mul_le_left, mul-add_left, mul_comm_ℤ}
use Rattle.gd_interval.specs.Formulas.{IsRootBelow, IsRootAbove}
use Rattle.gd_interval.proofs.Wholes.{square_grows}

apart : (a b x y : ℤ) → x <ℤ y → y ≤ℤ a → a ≤ℤ b → b ≤ℤ x → ⊥
apart a b x y l h i k = omega (arith, lt_out x y l, le_out y a h, le_out a b i, le_out b x k)

-- a root rounded down grows with the number
pub below_grows : (a b r s : ℤ) → a ≤ℤ b → IsRootBelow r a → IsRootBelow s b → r ≤ℤ s
below_grows a b r s h i j = by_lt_z s r
    (λ (l : s <ℤ r). absurd (apart ((s +ℤ pos 1) *ℤ (s +ℤ pos 1)) (r *ℤ r) b ((s +ℤ pos 1) *ℤ (s +ℤ pos 1)) j.2 (self ((s +ℤ pos 1) *ℤ (s +ℤ pos 1)))
    (square_grows (s +ℤ pos 1) r (omega (arith, ints, j.0)) (omega (arith, ints))) (≤ℤ_trans (r *ℤ r) a b i.1 h)))
    (λ (l : r ≤ℤ s). l)
  where
    self : (x : ℤ) → x ≤ℤ x
    self x = omega (arith, ints)

-- a root rounded up grows with the number
pub above_grows : (a b r s : ℤ) → a ≤ℤ b → IsRootAbove r a → IsRootAbove s b → r ≤ℤ s
above_grows a b r s h i j = by_lt_z s r
    (λ (l : s <ℤ r).
    absurd (apart a b ((r -ℤ pos 1) *ℤ (r -ℤ pos 1)) a (i.2 (omega (arith, ints, j.0))) (self a) h
    (≤ℤ_trans b (s *ℤ s) ((r -ℤ pos 1) *ℤ (r -ℤ pos 1)) j.1 (square_grows s (r -ℤ pos 1) j.0 (omega (arith, ints))))))
    (λ (l : r ≤ℤ s). l)
  where
    self : (x : ℤ) → x ≤ℤ x
    self x = omega (arith, ints)

-- the root rounded down is at most the root rounded up
pub roots-ordered : (a b r s : ℤ) → a ≤ℤ b → IsRootBelow r a → IsRootAbove s b → r ≤ℤ s
roots-ordered a b r s h i j = by_lt_z s r
    (λ (l : s <ℤ r). absurd (apart (r *ℤ r) b (s *ℤ s) (r *ℤ r) (strictly s r j.0 l) (self (r *ℤ r)) (≤ℤ_trans (r *ℤ r) a b i.1 h) j.1))
    (λ (l : r ≤ℤ s). l)
  where
    self : (x : ℤ) → x ≤ℤ x
    self x = omega (arith, ints)

    strictly : (x y : ℤ) → pos 0 ≤ℤ x → x <ℤ y → (x *ℤ x) <ℤ (y *ℤ y)
    strictly x y p l = omega (arith, ints, mul_le_right x y x (omega (arith, ints)) p, mul_le_left (x +ℤ pos 1) y y (omega (arith, ints)) (omega (arith, ints)), mul-add_left x (pos 1) y, mul_comm_ℤ x y, mul_comm_ℤ y (x +ℤ pos 1))
