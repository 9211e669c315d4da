-- A number among ascending ones.
use Rattle.std.proofs.Common.{arith, ◌≡◌, refl, sym, ap, subst, ◌∙◌, ℕ, zero, suc, ◌+◌, ◌<◌, ◌≤◌, Bool, true, false, ◌||◌, List, [], ◌∷◌, length, get_or, filter, ltb, nat_eq, inl, inr}
use Rattle.std.proofs.lemmas.Bool.{cases_lt}
use Rattle.std.specs.List.{list_any}
use Rattle.std.specs.List.Sorted.{IsNonDecreasingBy, IsPartitionPoint}
use Rattle.gd_axis.specs.Laws.AxisEvidence.{is-one}
use Rattle.gd_flat.proofs.Among.{equal-is, less-differs, more-differs}

none-any : (n : ℕ) (xs : List ℕ) → ((k : ℕ) → k < length xs → nat_eq (get_or xs k 0) n ≡ false) → list_any (λ (m : ℕ). nat_eq m n) xs ≡ false
none-any n [] each = refl
none-any n (x ∷ xs) each = ap (λ b. b || list_any (λ (m : ℕ). nat_eq m n) xs) (each 0 (omega arith)) ∙ none-any n xs (λ k l. each (suc k) (omega (arith, l)))

-- where the numbers below n end, n stands if it is among them
pub among : (xs : List ℕ) (n at : ℕ) (r : Bool) → IsNonDecreasingBy (λ (i : ℕ). i) xs → IsPartitionPoint (λ (i : ℕ). ltb i n ≡ true) (λ (i : ℕ). ltb i n ≡ false) xs at
    → (at < length xs → r ≡ nat_eq (get_or xs at 0) n) → (length xs ≤ at → r ≡ false) → r ≡ list_any (λ (m : ℕ). nat_eq m n) xs
among xs n at r up point here past = elim (cases_lt at (length xs)) as (λ _. r ≡ list_any (λ (m : ℕ). nat_eq m n) xs) [
  | inl l ↦ here l ∙ by (nat_eq (get_or xs at 0) n) refl l
  | inr l ↦ past l ∙ sym (none-any n xs (λ k lt. less-differs (get_or xs k 0) n (point.0 k 0 (omega arith) (omega (arith, l, lt)))))
]
  where
    by : (b : Bool) → nat_eq (get_or xs at 0) n ≡ b → at < length xs → b ≡ list_any (λ (m : ℕ). nat_eq m n) xs
    by true e l = sym (subst (λ i. list_any (λ (m : ℕ). nat_eq m i) xs ≡ true) (equal-is (get_or xs at 0) n e) (is-one xs at l))
    by false e l = sym (none-any n xs (λ k lt. elim (cases_lt k at) as (λ _. nat_eq (get_or xs k 0) n ≡ false) [
      | inl less ↦ less-differs (get_or xs k 0) n (point.0 k 0 (omega arith) less)
      | inr more ↦ more-differs (get_or xs at 0) (get_or xs k 0) n (point.1 at 0 (omega arith) l) e (up at k 0 more lt)
    ]))
