-- The least power of two that is at least a number, found and stated.
use Rattle.std.proofs.Common.{arith, ◌≡◌, refl, sym, subst, ap, ◌∙◌, ℕ, zero, suc, ◌+◌, ◌-◌, ◌*◌, ◌^◌, ◌<◌, ◌≤◌, Bool, true, false, List, length, get_or, nat_le}
use Rattle.std.proofs.Math.Nat.{pow-succ'}
use Rattle.std.proofs.Math.Pow.{pow_mono}
use Rattle.std.proofs.lemmas.Bool.{le-leb, leb-true, leb-false, lt-leb}
use Rattle.std.proofs.lemmas.List.FromFn.{get_or-range_with_len, length-range_with_len}
use Rattle.std.proofs.lemmas.List.Sums.{fails_before_first, passes_at_first, position_or_len_is, prefix_len-le-length}
use Rattle.std.specs.List.{range_with_len}
use Rattle.gd_axis.specs.AxisBoxes.{IsLeastPower, least_power}

above_own : (n : ℕ) → n < 2 ^ n
above_own zero = omega arith
above_own (suc n) =
    let own : n < 2 ^ n = above_own n in
    let more : 2 ^ suc n ≡ 2 * 2 ^ n = pow-succ' 2 n in
    omega (arith, own, more)

-- the numbers to n
at : (n k : ℕ) → k < n → get_or (range_with_len 0 n) k 0 ≡ k
at n k below = let same : 0 + k ≡ k = omega arith in get_or-range_with_len 0 n k 0 below ∙ same

-- a number that isn't the least is past one that is too small
below-least : (n k j : ℕ) → IsLeastPower n k → j < k → 2 ^ j < n
below-least n k j least less =
    let up : 2 ^ j ≤ 2 ^ (k - 1) = pow_mono (omega arith) in
    let past : 2 ^ (k - 1) < n = least.least (omega arith) in
    omega (arith, up, past)

within : (n k : ℕ) → IsLeastPower n k → k ≤ n
within n zero least = omega arith
within n (suc k) least =
    let same : suc k - 1 ≡ k = omega arith in
    let past : 2 ^ k < n = subst (λ (j : ℕ). 2 ^ j < n) same (least.least (omega arith)) in
    let own : k < 2 ^ k = above_own k in
    omega (arith, past, own)

-- ---- a least power is the one that is found
pub power_is : (n k : ℕ) → IsLeastPower n k → k ≡ least_power n
power_is n k least =
    let size : length (range_with_len 0 n) ≡ n = length-range_with_len 0 n in
    let own : k ≤ n = within n k least in
    sym (position_or_len_is (λ (j : ℕ). nat_le n (2 ^ j)) (range_with_len 0 n) k 0 (omega (arith, size, own))
    (λ j less. subst (λ (i : ℕ). nat_le n (2 ^ i) ≡ false) (sym (at n j (omega (arith, own, less)))) (lt-leb n (2 ^ j) (below-least n k j least less)))
    (λ less. subst (λ (i : ℕ). nat_le n (2 ^ i) ≡ true) (sym (at n k (omega (arith, size, less)))) (le-leb n (2 ^ k) least.above)))
