-- What the order of two signed squares says of the comparison with a root.
use Rattle.std.proofs.Common.{◌≡◌, refl, ap, ◌∙◌, ◌↔◌, arith, Ordering, Less, Equal, Greater}
use Rattle.std.proofs.lemmas.Bool.{false≢true}
use Rattle.std.proofs.lemmas.Cmp.{int_ranked}
use Rattle.std.proofs.lemmas.Int.{ints, by_lt_z}
use Rattle.std.specs.Ordering.{MatchOrdering, is_le, is_ge}
use Rattle.std.specs.Prelude.{ℤ, ◌*ℤ◌, neg_ℤ, ◌≤ℤ◌, ◌<ℤ◌, IsTrue}
use borrow.Author.Differences.{le_out, lt_out}
use Rattle.gd_int.specs.Comparisons.{AtMost}
use Rattle.gd_int.specs.Roots.{cmp_root_of, signed_square}
use Rattle.gd_int.proofs.Integers.{neg-mul_left}
use Rattle.gd_int.proofs.SignedSquares.{signed_square-neg}

le_from_order : (x y : ℤ) (o : Ordering) → MatchOrdering o (x <ℤ y) (x ≡ y) (y <ℤ x) → IsTrue (is_le o) ↔ (x ≤ℤ y)
le_from_order x y Less m = (λ _. omega (arith, ints), λ _. refl)
le_from_order x y Equal m = (λ _. omega (arith, ints), λ _. refl)
le_from_order x y Greater m = (λ f. absurd (false≢true f), λ l. absurd (omega (arith, lt_out y x m, le_out x y l)))

ge_from_order : (x y : ℤ) (o : Ordering) → MatchOrdering o (x <ℤ y) (x ≡ y) (y <ℤ x) → IsTrue (is_ge o) ↔ (y ≤ℤ x)
ge_from_order x y Greater m = (λ _. omega (arith, ints), λ _. refl)
ge_from_order x y Equal m = (λ _. omega (arith, ints), λ _. refl)
ge_from_order x y Less m = (λ f. absurd (false≢true f), λ l. absurd (omega (arith, lt_out x y m, le_out y x l)))

pub at_most_from_cmp : (s h n : ℤ) → IsTrue (is_le (cmp_root_of s h n)) ↔ AtMost s h n
unfolding AtMost
at_most_from_cmp s h n = le_from_order (signed_square s) (signed_square h *ℤ n) (cmp_root_of s h n) (int_ranked (signed_square s) (signed_square h *ℤ n) (cmp_root_of s h n) refl)

negated : (s h n : ℤ) → (signed_square h *ℤ n) ≤ℤ signed_square s ↔ AtMost (neg_ℤ s) (neg_ℤ h) n
unfolding AtMost
negated s h n =
    let e : signed_square (neg_ℤ h) *ℤ n ≡ neg_ℤ (signed_square h *ℤ n) = ap (λ z. z *ℤ n) (signed_square-neg h) ∙ neg-mul_left (signed_square h) n in
    rw (e, signed_square-neg s) (λ l. omega (arith, ints), λ l. omega (arith, ints))

pub at_least_from_cmp : (s h n : ℤ) → IsTrue (is_ge (cmp_root_of s h n)) ↔ AtMost (neg_ℤ s) (neg_ℤ h) n
at_least_from_cmp s h n =
    let o = ge_from_order (signed_square s) (signed_square h *ℤ n) (cmp_root_of s h n) (int_ranked (signed_square s) (signed_square h *ℤ n) (cmp_root_of s h n) refl) in
    let e = negated s h n in
    (λ t. e.0 (o.0 t), λ b. o.1 (e.1 b))

-- what isn't at most h roots is at least as much
pub AtMost-otherwise : (a h n : ℤ) → (AtMost a h n → ⊥) → AtMost (neg_ℤ a) (neg_ℤ h) n
unfolding AtMost
AtMost-otherwise a h n f = by_lt_z (signed_square a) (signed_square h *ℤ n) (λ l. absurd (f (omega (arith, ints)))) (λ l. (negated a h n).0 l)
