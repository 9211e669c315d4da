-- Laws of whole numbers that the formulas share, beyond those of gd_int.
use Rattle.std.proofs.Common.{◌≡◌, sym, ap, subst, ◌∙◌, ℕ, ◌*◌, ◌^◌, arith, Bool, true, false, FitsSigned, to_z, of_z}
use Rattle.std.proofs.lemmas.Int.{ints, clamps, by_lt_z, to_z-of_z}
use Rattle.std.proofs.lemmas.Nat.{pow_pos}
use Rattle.std.specs.Prelude.{ℤ, pos, negsuc, ◌*ℤ◌, neg_ℤ, ◌≤ℤ◌, ◌<ℤ◌, int_le}
use Rattle.std.specs.Int.{int_min, int_max, w128}
use borrow.Author.Differences.{le_out, lt_out, true_is_le, false_is_le}
use Rattle.gd_int.proofs.Integers.{mul_comm_ℤ, mul-assoc_ℤ, neg-mul_left, mul_le_right, mul_le_left, mul_ge_left, mul_ge_right, ≤ℤ_trans, by_sign, mul_le_out}
use Rattle.gd_int.proofs.Divisions.{floor-below, floor-greatest, ceil-above, ceil-least}
use Rattle.gd_int.specs.Division.{floor_of, ceil_of}

-- ---- ring laws
-- (a b) c = (a c) b
pub mul-turn : (a b c : ℤ) → (a *ℤ b) *ℤ c ≡ (a *ℤ c) *ℤ b
mul-turn a b c = mul-assoc_ℤ a b c ∙ ap (λ z. a *ℤ z) (mul_comm_ℤ b c) ∙ sym (mul-assoc_ℤ a c b)

-- (a k) (b m) = (a b) (k m)
pub mul-swap : (a b : ℤ) (k m : ℕ) → (a *ℤ pos k) *ℤ (b *ℤ pos m) ≡ (a *ℤ b) *ℤ pos (k * m)
mul-swap a b k m =
    mul-assoc_ℤ a (pos k) (b *ℤ pos m)
    ∙ ap (λ z. a *ℤ z) (sym (mul-assoc_ℤ (pos k) b (pos m)) ∙ ap (λ z. z *ℤ pos m) (mul_comm_ℤ (pos k) b) ∙ mul-assoc_ℤ b (pos k) (pos m))
    ∙ sym (mul-assoc_ℤ a b (pos k *ℤ pos m))

-- ---- order
pub pos_is_least : (n : ℕ) → pos 0 ≤ℤ pos n
pos_is_least n = omega (arith, ints)

-- squares of numbers that are not negative grow
pub square_grows : (a b : ℤ) → pos 0 ≤ℤ a → a ≤ℤ b → (a *ℤ a) ≤ℤ (b *ℤ b)
square_grows a b p h = ≤ℤ_trans (a *ℤ a) (b *ℤ a) (b *ℤ b) (mul_le_right a b a h p) (mul_le_left a b b h (≤ℤ_trans (pos 0) a b p h))

-- squares of numbers that are not positive fall
pub square_falls : (a b : ℤ) → a ≤ℤ b → b ≤ℤ pos 0 → (b *ℤ b) ≤ℤ (a *ℤ a)
square_falls a b h p = ≤ℤ_trans (b *ℤ b) (a *ℤ b) (a *ℤ a) (mul_ge_right a b b h p) (mul_ge_left a b a h (≤ℤ_trans a b (pos 0) h p))

-- a fact at both ends of a range holds between them
pub products_below : (q c d y m : ℤ) → c ≤ℤ y → y ≤ℤ d → (q *ℤ c) ≤ℤ m → (q *ℤ d) ≤ℤ m → (q *ℤ y) ≤ℤ m
products_below q c d y m l h f g = by_sign q
    (λ (p : pos 0 ≤ℤ q). ≤ℤ_trans (q *ℤ y) (q *ℤ d) m (mul_le_left y d q h p) g)
    (λ (p : q ≤ℤ pos 0). ≤ℤ_trans (q *ℤ y) (q *ℤ c) m (mul_ge_left c y q l p) f)

pub products_above : (q c d y m : ℤ) → c ≤ℤ y → y ≤ℤ d → m ≤ℤ (q *ℤ c) → m ≤ℤ (q *ℤ d) → m ≤ℤ (q *ℤ y)
products_above q c d y m l h f g = by_sign q
    (λ (p : pos 0 ≤ℤ q). ≤ℤ_trans m (q *ℤ c) (q *ℤ y) f (mul_le_left c y q l p))
    (λ (p : q ≤ℤ pos 0). ≤ℤ_trans m (q *ℤ d) (q *ℤ y) g (mul_ge_left y d q h p))

-- a product of numbers within m and w
pub within_product : (x m t w : ℤ) → neg_ℤ m ≤ℤ x → x ≤ℤ m → neg_ℤ w ≤ℤ t → t ≤ℤ w → (x *ℤ t) ≤ℤ (m *ℤ w)
within_product x m t w xl xh tl th =
    let mp : pos 0 ≤ℤ m = omega (arith, ints) in
    by_sign x
    (λ (p : pos 0 ≤ℤ x). by_sign t
    (λ (q : pos 0 ≤ℤ t). ≤ℤ_trans (x *ℤ t) (m *ℤ t) (m *ℤ w) (mul_le_right x m t xh q) (mul_le_left t w m th mp))
    (λ (q : t ≤ℤ pos 0). omega (arith, ints, mul_ge_right (pos 0) x t p q, mul_le_left (pos 0) w m (omega (arith, ints)) mp)))
    (λ (p : x ≤ℤ pos 0). by_sign t
    (λ (q : pos 0 ≤ℤ t). omega (arith, ints, mul_le_right x (pos 0) t p q, mul_le_left (pos 0) w m (omega (arith, ints)) mp))
    (λ (q : t ≤ℤ pos 0). omega (arith, ints, mul_ge_right (neg_ℤ m) x t xl q, neg-mul_left m t, mul_le_left (neg_ℤ t) w m (omega (arith, ints)) mp, mul_comm_ℤ m t, mul_comm_ℤ m (neg_ℤ t), neg-mul_left t m)))

-- ---- signs of rounded quotients
pub power_is_positive : (k : ℕ) → pos 0 <ℤ pos (2 ^ k)
power_is_positive k = omega (arith, ints, pow_pos k)

pub floor-sign : (a b : ℤ) → pos 0 <ℤ b → pos 0 ≤ℤ a → pos 0 ≤ℤ floor_of a b
floor-sign a b h p = floor-greatest a b (pos 0) h (omega (arith, ints))

pub floor-negative : (a b : ℤ) → pos 0 <ℤ b → a ≤ℤ pos 0 → floor_of a b ≤ℤ pos 0
floor-negative a b h p = mul_le_out (floor_of a b) (pos 0) b h (omega (arith, ints, floor-below a b h))

pub ceil-sign : (a b : ℤ) → pos 0 <ℤ b → pos 0 ≤ℤ a → pos 0 ≤ℤ ceil_of a b
ceil-sign a b h p = mul_le_out (pos 0) (ceil_of a b) b h (omega (arith, ints, ceil-above a b h))

pub ceil-negative : (a b : ℤ) → pos 0 <ℤ b → a ≤ℤ pos 0 → ceil_of a b ≤ℤ pos 0
ceil-negative a b h p = ceil-least a b (pos 0) h (omega (arith, ints))

-- ---- cases
pub by_int_le : (n : ℤ) (P : Bool → Type 0) → (pos 0 ≤ℤ n → P true) → (n ≤ℤ pos 0 → P false) → P (int_le (pos 0) n)
by_int_le (pos n) P f g = subst P (true_is_le (pos 0) (pos n) (omega arith)) (f (pos_is_least n))
by_int_le (negsuc n) P f g = g (omega (arith, ints))

pub by_int_lt : (n : ℤ) (P : Bool → Type 0) → (pos 0 ≤ℤ n → P true) → (n <ℤ pos 0 → P false) → P (int_le (pos 0) n)
by_int_lt n P f g = by_lt_z n (pos 0)
    (λ (l : n <ℤ pos 0). subst P (false_is_le (pos 0) n (omega (arith, lt_out n (pos 0) l))) (g l))
    (λ (l : pos 0 ≤ℤ n). subst P (true_is_le (pos 0) n (omega (arith, le_out (pos 0) n l))) (f l))

pub by_int_below : (n : ℤ) (P : Bool → Type 0) → (n ≤ℤ pos 0 → P true) → (pos 0 ≤ℤ n → P false) → P (int_le n (pos 0))
by_int_below n P f g = by_lt_z (pos 0) n
    (λ (l : pos 0 <ℤ n). subst P (false_is_le n (pos 0) (omega (arith, lt_out (pos 0) n l))) (g (omega (arith, ints))))
    (λ (l : n ≤ℤ pos 0). subst P (true_is_le n (pos 0) (omega (arith, le_out n (pos 0) l))) (f l))

pub min_is_one : (P : ℤ → Type 0) (p q : ℤ) → P p → P q → P (int_min p q)
min_is_one P p q f g = by_lt_z p q
    (λ (l : p <ℤ q). let e : p ≡ int_min p q = omega (arith, ints, clamps) in subst P e f)
    (λ (l : q ≤ℤ p). let e : q ≡ int_min p q = omega (arith, ints, clamps) in subst P e g)

pub max_is_one : (P : ℤ → Type 0) (p q : ℤ) → P p → P q → P (int_max p q)
max_is_one P p q f g = by_lt_z p q
    (λ (l : p <ℤ q). let e : q ≡ int_max p q = omega (arith, ints, clamps) in subst P e g)
    (λ (l : q ≤ℤ p). let e : p ≡ int_max p q = omega (arith, ints, clamps) in subst P e f)

-- ---- numbers of 128 bits are read as they were written
pub same_order : (a b : ℤ) → FitsSigned w128 a → FitsSigned w128 b → a ≤ℤ b → to_z w128 (of_z w128 a) ≤ℤ to_z w128 (of_z w128 b)
same_order a b f g h = rw (to_z-of_z w128 a f, to_z-of_z w128 b g) h
