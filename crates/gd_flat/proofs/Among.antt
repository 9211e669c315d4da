-- A number among ascending ones.
use Rattle.std.proofs.Common.{arith, ◌≡◌, refl, sym, ap, subst, ◌∙◌, ℕ, zero, suc, ◌+◌, ◌<◌, ◌≤◌, Bool, true, false, ◌||◌, List, [], ◌∷◌, length, get_or, filter, ltb, nat_eq, inl, inr}
use Rattle.std.proofs.lemmas.Bool.{cases_lt, false≢true}
use Rattle.std.proofs.lemmas.Bool.Decides.{nat_tests}
use Rattle.std.proofs.lemmas.List.FromFn.{get_or-range_with_len, length-range_with_len}
use Rattle.std.proofs.lemmas.List.Kept.{IsNonDecreasingBy-filter}
use Rattle.std.proofs.lemmas.List.Sorted.{IsNonDecreasingBy-from_default}
use Rattle.std.proofs.lemmas.List.Sums.{position_or_len_is}
use Rattle.std.specs.List.{position_or_len, range_with_len}
use Rattle.std.specs.List.Sorted.{IsNonDecreasingBy, IsPartitionPoint}

-- the numbers that pass a test, out of all below a count, ascend
pub ascending : (p : ℕ → Bool) (n : ℕ) → IsNonDecreasingBy (λ (i : ℕ). i) (filter p (range_with_len 0 n))
ascending p n =
    let size : length (range_with_len 0 n) ≡ n = length-range_with_len 0 n in
    IsNonDecreasingBy-filter (λ (i : ℕ). i) p (range_with_len 0 n) (IsNonDecreasingBy-from_default (λ (i : ℕ). i) (range_with_len 0 n) 0 (λ i j le lt.
    let e = get_or-range_with_len 0 n i 0 (omega (arith, le, lt, size)) in
    let f = get_or-range_with_len 0 n j 0 (omega (arith, lt, size)) in
    rw (e, f) (omega (arith, le))))

pub less-differs : (m n : ℕ) → ltb m n ≡ true → nat_eq m n ≡ false
less-differs m n h = grind (arith, nat_tests)

pub more-differs : (a m n : ℕ) → ltb a n ≡ false → nat_eq a n ≡ false → a ≤ m → nat_eq m n ≡ false
more-differs a m n h k l = grind (arith, nat_tests)

pub equal-is : (a n : ℕ) → nat_eq a n ≡ true → a ≡ n
equal-is a n h = grind (arith, nat_tests)

turned : (m n : ℕ) → nat_eq m n ≡ false → nat_eq n m ≡ false
turned m n h = grind (arith, nat_tests)

turned-true : (m n : ℕ) → nat_eq m n ≡ true → nat_eq n m ≡ true
turned-true m n h = grind (arith, nat_tests)

-- where the numbers below n end n stands for the first time, if it is among them
pub stands-first : (xs : List ℕ) (n at : ℕ) (r : Bool) → IsPartitionPoint (λ (i : ℕ). ltb i n ≡ true) (λ (i : ℕ). ltb i n ≡ false) xs at
    → (at < length xs → r ≡ nat_eq (get_or xs at 0) n) → (length xs ≤ at → r ≡ false) → r ≡ true → at ≡ position_or_len (nat_eq n) xs
stands-first xs n at r point here past stands = elim (cases_lt at (length xs)) as (λ _. at ≡ position_or_len (nat_eq n) xs) [
  | inl l ↦ sym (position_or_len_is (nat_eq n) xs at 0 (omega (arith, l)) (λ k lt. turned (get_or xs k 0) n (less-differs (get_or xs k 0) n (point.0 k 0 (omega arith) lt))) (λ _. turned-true (get_or xs at 0) n (sym (here l) ∙ stands)))
  | inr l ↦ absurd (false≢true (sym (past l) ∙ stands))
]

pub stands-nowhere : (xs : List ℕ) (n at : ℕ) (r : Bool) → IsNonDecreasingBy (λ (i : ℕ). i) xs → IsPartitionPoint (λ (i : ℕ). ltb i n ≡ true) (λ (i : ℕ). ltb i n ≡ false) xs at
    → (at < length xs → r ≡ nat_eq (get_or xs at 0) n) → (length xs ≤ at → r ≡ false) → r ≡ false → length xs ≡ position_or_len (nat_eq n) xs
stands-nowhere xs n at r up point here past misses = sym (position_or_len_is (nat_eq n) xs (length xs) 0 (omega arith) (λ k lt. turned (get_or xs k 0) n (by k lt)) (λ l. absurd (omega (arith, l))))
  where
    by : (k : ℕ) → k < length xs → nat_eq (get_or xs k 0) n ≡ false
    by k lt = elim (cases_lt k at) as (λ _. nat_eq (get_or xs k 0) n ≡ false) [
      | inl less ↦ less-differs (get_or xs k 0) n (point.0 k 0 (omega arith) less)
      | inr more ↦ let l : at < length xs = omega (arith, more, lt) in more-differs (get_or xs at 0) (get_or xs k 0) n (point.1 at 0 (omega arith) l) (sym (here l) ∙ misses) (up at k 0 more lt)
    ]
