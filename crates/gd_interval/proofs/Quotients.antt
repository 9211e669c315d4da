-- The ends of a quotient: the greatest and the least number whose products with both ends of the divisor keep to the dividend.
use Rattle.std.proofs.Common.{ℕ, ◌^◌, arith, cond}
use Rattle.std.proofs.lemmas.Int.{ints}
use Rattle.std.specs.Prelude.{ℤ, pos, ◌*ℤ◌, ◌≤ℤ◌, ◌<ℤ◌}
use Rattle.gd_int.proofs.Integers.{mul_le_right_pos, mul_le_left, mul_ge_left, ≤ℤ_trans, mul_le_out}
use Rattle.gd_int.proofs.Divisions.{floor-below, floor-greatest, ceil-above, ceil-least}
use Rattle.gd_int.specs.Division.{floor_of, ceil_of}
use Rattle.gd_interval.specs.Formulas.{quot_lo, quot_hi, narrow_lo, narrow_hi}
use Rattle.gd_interval.proofs.Wholes.{floor-sign, floor-negative, ceil-sign, ceil-negative, by_int_le, power_is_positive}

-- a number times 2^30, which is 1 as a ratio
abbrev pub scaled : ℤ → ℤ
scaled n = n *ℤ pos (2 ^ 30)

pub scaled_grows : (a b : ℤ) → a ≤ℤ b → scaled a ≤ℤ scaled b
scaled_grows a b h = mul_le_right_pos a b (2 ^ 30) h

scaled_up : (a : ℤ) → pos 0 ≤ℤ a → pos 0 ≤ℤ scaled a
scaled_up a h = omega (arith, ints, scaled_grows (pos 0) a h)

scaled_down : (a : ℤ) → a ≤ℤ pos 0 → scaled a ≤ℤ pos 0
scaled_down a h = omega (arith, ints, scaled_grows a (pos 0) h)

pub positive_above : (c d : ℤ) → pos 0 <ℤ c → c ≤ℤ d → pos 0 <ℤ d
positive_above c d h k = omega (arith, ints)

-- ---- the lower end
pub quot_lo-below : (n c d : ℤ) → pos 0 <ℤ c → c ≤ℤ d → ((quot_lo n c d *ℤ c) ≤ℤ scaled n) × ((quot_lo n c d *ℤ d) ≤ℤ scaled n)
quot_lo-below n c d cp h = by_int_le n (λ v. ((floor_of (scaled n) (cond v d c) *ℤ c) ≤ℤ scaled n) × ((floor_of (scaled n) (cond v d c) *ℤ d) ≤ℤ scaled n))
    (λ (p : pos 0 ≤ℤ n).
    let dp : pos 0 <ℤ d = positive_above c d cp h in
    let q : ℤ = floor_of (scaled n) d in
    let f : (q *ℤ d) ≤ℤ scaled n = floor-below (scaled n) d dp in
    (≤ℤ_trans (q *ℤ c) (q *ℤ d) (scaled n) (mul_le_left c d q h (floor-sign (scaled n) d dp (scaled_up n p))) f, f))
    (λ (p : n ≤ℤ pos 0).
    let q : ℤ = floor_of (scaled n) c in
    let f : (q *ℤ c) ≤ℤ scaled n = floor-below (scaled n) c cp in
    (f, ≤ℤ_trans (q *ℤ d) (q *ℤ c) (scaled n) (mul_ge_left c d q h (floor-negative (scaled n) c cp (scaled_down n p))) f))

pub quot_lo-greatest : (n c d q : ℤ) → pos 0 <ℤ c → c ≤ℤ d → (q *ℤ c) ≤ℤ scaled n → (q *ℤ d) ≤ℤ scaled n → q ≤ℤ quot_lo n c d
quot_lo-greatest n c d q cp h f g = by_int_le n (λ v. q ≤ℤ floor_of (scaled n) (cond v d c))
    (λ _. floor-greatest (scaled n) d q (positive_above c d cp h) g)
    (λ _. floor-greatest (scaled n) c q cp f)

-- ---- the upper end
pub quot_hi-above : (n c d : ℤ) → pos 0 <ℤ c → c ≤ℤ d → (scaled n ≤ℤ (quot_hi n c d *ℤ c)) × (scaled n ≤ℤ (quot_hi n c d *ℤ d))
quot_hi-above n c d cp h = by_int_le n (λ v. (scaled n ≤ℤ (ceil_of (scaled n) (cond v c d) *ℤ c)) × (scaled n ≤ℤ (ceil_of (scaled n) (cond v c d) *ℤ d)))
    (λ (p : pos 0 ≤ℤ n).
    let q : ℤ = ceil_of (scaled n) c in
    let f : scaled n ≤ℤ (q *ℤ c) = ceil-above (scaled n) c cp in
    (f, ≤ℤ_trans (scaled n) (q *ℤ c) (q *ℤ d) f (mul_le_left c d q h (ceil-sign (scaled n) c cp (scaled_up n p)))))
    (λ (p : n ≤ℤ pos 0).
    let dp : pos 0 <ℤ d = positive_above c d cp h in
    let q : ℤ = ceil_of (scaled n) d in
    let f : scaled n ≤ℤ (q *ℤ d) = ceil-above (scaled n) d dp in
    (≤ℤ_trans (scaled n) (q *ℤ d) (q *ℤ c) f (mul_ge_left c d q h (ceil-negative (scaled n) d dp (scaled_down n p))), f))

pub quot_hi-least : (n c d q : ℤ) → pos 0 <ℤ c → c ≤ℤ d → scaled n ≤ℤ (q *ℤ c) → scaled n ≤ℤ (q *ℤ d) → quot_hi n c d ≤ℤ q
quot_hi-least n c d q cp h f g = by_int_le n (λ v. ceil_of (scaled n) (cond v c d) ≤ℤ q)
    (λ _. ceil-least (scaled n) c q cp f)
    (λ _. ceil-least (scaled n) d q (positive_above c d cp h) g)

pub quot-ordered : (a b c d : ℤ) → a ≤ℤ b → pos 0 <ℤ c → c ≤ℤ d → quot_lo a c d ≤ℤ quot_hi b c d
quot-ordered a b c d h cp k = mul_le_out (quot_lo a c d) (quot_hi b c d) c cp
    (≤ℤ_trans (quot_lo a c d *ℤ c) (scaled a) (quot_hi b c d *ℤ c) (quot_lo-below a c d cp k).0
    (≤ℤ_trans (scaled a) (scaled b) (quot_hi b c d *ℤ c) (scaled_grows a b h) (quot_hi-above b c d cp k).0))

-- ---- fewer bits
pub narrow-ordered : (a b : ℤ) (k : ℕ) → a ≤ℤ b → narrow_lo a k ≤ℤ narrow_hi b k
narrow-ordered a b k h =
    let p : pos 0 <ℤ pos (2 ^ k) = power_is_positive k in
    let f : (narrow_lo a k *ℤ pos (2 ^ k)) ≤ℤ a = floor-below a (pos (2 ^ k)) p in
    let g : b ≤ℤ (narrow_hi b k *ℤ pos (2 ^ k)) = ceil-above b (pos (2 ^ k)) p in
    mul_le_out (narrow_lo a k) (narrow_hi b k) (pos (2 ^ k)) p (≤ℤ_trans (narrow_lo a k *ℤ pos (2 ^ k)) a (narrow_hi b k *ℤ pos (2 ^ k)) f (≤ℤ_trans a b (narrow_hi b k *ℤ pos (2 ^ k)) h g))
