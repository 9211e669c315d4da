use Rattle.std.proofs.Common.{suc, ◌≡◌, ◌+◌, ◌*◌, ◌/◌, ◌<◌, arith}
use Rattle.std.proofs.lemmas.Int.{ints, by_lt_z}
use Rattle.std.specs.Prelude.{ℤ, pos, negsuc, ◌+ℤ◌, ◌-ℤ◌, ◌*ℤ◌, neg_ℤ, ◌≤ℤ◌, ◌<ℤ◌}
use borrow.Author.Differences.{lt_out, le_out}
use Rattle.gd_int.proofs.Integers.{mul-add_left, mul-sub_left, neg-mul_left, mul_le_right, mul_le_out, mul_lt_out, le_antisym_ℤ, ≤ℤ_trans}
use Rattle.std.specs.Int.RustNames.{int_div}
use Rattle.gd_int.specs.Division.{floor_of, ceil_of}

pub floor-below : (a b : ℤ) → pos 0 <ℤ b → (floor_of a b *ℤ b) ≤ℤ a
floor-below (pos a) (pos b) h = let k : 0 < b = omega (arith, lt_out (pos 0) (pos b) h) in omega (arith, ints)
floor-below (negsuc a) (pos b) h = let k : 0 < b = omega (arith, lt_out (pos 0) (pos b) h) in omega (arith, ints)
floor-below a (negsuc b) h = absurd (omega (arith, lt_out (pos 0) (negsuc b) h))

pub floor-next : (a b : ℤ) → pos 0 <ℤ b → a <ℤ ((floor_of a b +ℤ pos 1) *ℤ b)
floor-next (pos a) (pos b) h = let k : 0 < b = omega (arith, lt_out (pos 0) (pos b) h) in omega (arith, ints)
floor-next (negsuc a) (pos b) h = let k : 0 < b = omega (arith, lt_out (pos 0) (pos b) h) in rw (mul-add_left (floor_of (negsuc a) (pos b)) (pos 1) (pos b)) (omega (arith, ints))
floor-next a (negsuc b) h = absurd (omega (arith, lt_out (pos 0) (negsuc b) h))

pub ceil-above : (a b : ℤ) → pos 0 <ℤ b → a ≤ℤ (ceil_of a b *ℤ b)
ceil-above a b h = omega (arith, ints, floor-below (neg_ℤ a) b h, neg-mul_left (floor_of (neg_ℤ a) b) b)

-- the floor is the greatest such q
pub floor-greatest : (a b q : ℤ) → pos 0 <ℤ b → (q *ℤ b) ≤ℤ a → q ≤ℤ floor_of a b
floor-greatest a b q h k = by_lt_z (floor_of a b) q
    (λ (l : floor_of a b <ℤ q).
    let m : ((floor_of a b +ℤ pos 1) *ℤ b) ≤ℤ (q *ℤ b) = mul_le_right (floor_of a b +ℤ pos 1) q b (omega (arith, ints)) (omega (arith, ints)) in
    let n : a <ℤ ((floor_of a b +ℤ pos 1) *ℤ b) = floor-next a b h in
    absurd (omega (arith, le_out ((floor_of a b +ℤ pos 1) *ℤ b) (q *ℤ b) m, lt_out a ((floor_of a b +ℤ pos 1) *ℤ b) n, le_out (q *ℤ b) a k)))
    (λ (l : q ≤ℤ floor_of a b). l)

-- it grows with the first number
pub floor-mono : (a a' b : ℤ) → pos 0 <ℤ b → a ≤ℤ a' → floor_of a b ≤ℤ floor_of a' b
floor-mono a a' b h k = floor-greatest a' b (floor_of a b) h (≤ℤ_trans (floor_of a b *ℤ b) a a' (floor-below a b h) k)

-- ---- the ceiling
pub ceil-before : (a b : ℤ) → pos 0 <ℤ b → ((ceil_of a b -ℤ pos 1) *ℤ b) <ℤ a
ceil-before a b h =
    let e : ceil_of a b -ℤ pos 1 ≡ neg_ℤ (floor_of (neg_ℤ a) b +ℤ pos 1) = omega (arith, ints) in
    rw (e, neg-mul_left (floor_of (neg_ℤ a) b +ℤ pos 1) b) (omega (arith, ints, floor-next (neg_ℤ a) b h))

-- the ceiling is the least such q
pub ceil-least : (a b q : ℤ) → pos 0 <ℤ b → a ≤ℤ (q *ℤ b) → ceil_of a b ≤ℤ q
ceil-least a b q h k =
    let l : neg_ℤ q ≤ℤ floor_of (neg_ℤ a) b = floor-greatest (neg_ℤ a) b (neg_ℤ q) h (rw (neg-mul_left q b) (omega (arith, ints))) in
    omega (arith, ints)

pub ceil-mono : (a a' b : ℤ) → pos 0 <ℤ b → a ≤ℤ a' → ceil_of a b ≤ℤ ceil_of a' b
ceil-mono a a' b h k = ceil-least a b (ceil_of a' b) h (≤ℤ_trans a a' (ceil_of a' b *ℤ b) k (ceil-above a' b h))

pub floor-le_ceil : (a b : ℤ) → pos 0 <ℤ b → floor_of a b ≤ℤ ceil_of a b
floor-le_ceil a b h = mul_le_out (floor_of a b) (ceil_of a b) b h (≤ℤ_trans (floor_of a b *ℤ b) a (ceil_of a b *ℤ b) (floor-below a b h) (ceil-above a b h))

pub ceil-le_floor : (a b : ℤ) → pos 0 <ℤ b → ceil_of a b ≤ℤ (floor_of a b +ℤ pos 1)
ceil-le_floor a b h = ceil-least a b (floor_of a b +ℤ pos 1) h (omega (arith, ints, floor-next a b h))

-- ---- exact multiples, and where two facts fix the value
pub floor-unique : (a b q : ℤ) → pos 0 <ℤ b → (q *ℤ b) ≤ℤ a → a <ℤ ((q +ℤ pos 1) *ℤ b) → floor_of a b ≡ q
floor-unique a b q h k l =
    let m : floor_of a b <ℤ (q +ℤ pos 1) = mul_lt_out (floor_of a b) (q +ℤ pos 1) b (omega (arith, ints)) (omega (arith, ints, floor-below a b h)) in
    le_antisym_ℤ (floor_of a b) q (omega (arith, ints)) (floor-greatest a b q h k)

pub ceil-unique : (a b q : ℤ) → pos 0 <ℤ b → a ≤ℤ (q *ℤ b) → ((q -ℤ pos 1) *ℤ b) <ℤ a → ceil_of a b ≡ q
ceil-unique a b q h k l =
    let m : (q -ℤ pos 1) <ℤ ceil_of a b = mul_lt_out (q -ℤ pos 1) (ceil_of a b) b (omega (arith, ints)) (omega (arith, ints, ceil-above a b h)) in
    le_antisym_ℤ (ceil_of a b) q (ceil-least a b q h k) (omega (arith, ints))

pub floor-multiple : (q b : ℤ) → pos 0 <ℤ b → floor_of (q *ℤ b) b ≡ q
floor-multiple q b h = floor-unique (q *ℤ b) b q h (omega (arith, ints)) (omega (arith, ints, mul-add_left q (pos 1) b))

pub ceil-multiple : (q b : ℤ) → pos 0 <ℤ b → ceil_of (q *ℤ b) b ≡ q
ceil-multiple q b h = ceil-unique (q *ℤ b) b q h (omega (arith, ints)) (omega (arith, ints, mul-sub_left q (pos 1) b))

-- `/` rounds towards 0: it is the ceiling where a isn't above 0
pub quot-before : (a b : ℤ) → pos 0 <ℤ b → a ≤ℤ pos 0 → ((int_div a b -ℤ pos 1) *ℤ b) <ℤ a
quot-before (pos a) (pos b) h k =
    let p : 0 < b = omega (arith, lt_out (pos 0) (pos b) h) in
    let z : a ≡ 0 = omega (arith, le_out (pos a) (pos 0) k) in
    let e : 0 / b ≡ 0 = omega arith in
    rw (z, e) (omega (arith, ints))
quot-before (negsuc a) (pos b) h k =
    let p : 0 < b = omega (arith, lt_out (pos 0) (pos b) h) in
    let m : suc a < (suc a / b + 1) * b = omega arith in
    omega (arith, ints, mul-sub_left (neg_ℤ (pos (suc a / b))) (pos 1) (pos b), neg-mul_left (pos (suc a / b)) (pos b))
quot-before a (negsuc b) h k = absurd (omega (arith, lt_out (pos 0) (negsuc b) h))
