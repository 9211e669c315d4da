-- Laws of ordered whole numbers that std lacks.
use Rattle.std.proofs.Common.{suc, ◌≡◌, sym, ap, ◌∙◌, ℕ, ◌*◌, arith}
use Rattle.std.proofs.Math.Nat.{mul-le-mul_right}
use Rattle.std.proofs.lemmas.Int.{ints, by_lt_z}
use Rattle.std.specs.Prelude.{ℤ, pos, negsuc, ◌+ℤ◌, ◌-ℤ◌, ◌*ℤ◌, neg_ℤ, ◌≤ℤ◌, ◌<ℤ◌}
use borrow.Author.Differences.{up, down, sum_is_lem, product_is, le_out, neg_is}

-- ---- ring laws
pub mul_comm_ℤ : (a b : ℤ) → a *ℤ b ≡ b *ℤ a
mul_comm_ℤ a b = omega (arith, ints)

pub mul-add_left : (a b c : ℤ) → (a +ℤ b) *ℤ c ≡ a *ℤ c +ℤ b *ℤ c
mul-add_left a b c = omega (arith, ints, ap (λ n. n * up c) (sum_is_lem a b), ap (λ n. n * down c) (sum_is_lem a b))

pub mul-assoc_ℤ : (a b c : ℤ) → (a *ℤ b) *ℤ c ≡ a *ℤ (b *ℤ c)
mul-assoc_ℤ a b c = omega (arith, ints, ap (λ n. n * up c) (product_is a b).0, ap (λ n. n * up c) (product_is a b).1, ap (λ n. n * down c) (product_is a b).0, ap (λ n. n * down c) (product_is a b).1, ap (λ n. up a * n) (product_is b c).0, ap (λ n. up a * n) (product_is b c).1, ap (λ n. down a * n) (product_is b c).0, ap (λ n. down a * n) (product_is b c).1)

pub neg-mul_left : (a b : ℤ) → neg_ℤ a *ℤ b ≡ neg_ℤ (a *ℤ b)
neg-mul_left a b = omega (arith, ints, ap (λ n. n * up b) (neg_is a).0, ap (λ n. n * up b) (neg_is a).1, ap (λ n. n * down b) (neg_is a).0, ap (λ n. n * down b) (neg_is a).1)

pub mul-add_right : (a b c : ℤ) → a *ℤ (b +ℤ c) ≡ a *ℤ b +ℤ a *ℤ c
mul-add_right a b c = omega (arith, ints, mul-add_left b c a)

pub mul-neg_right : (a b : ℤ) → a *ℤ neg_ℤ b ≡ neg_ℤ (a *ℤ b)
mul-neg_right a b = omega (arith, ints, neg-mul_left b a)

pub mul-sub_left : (a b c : ℤ) → (a -ℤ b) *ℤ c ≡ a *ℤ c -ℤ b *ℤ c
mul-sub_left a b c = omega (arith, ints, mul-add_left a (neg_ℤ b) c, neg-mul_left b c)

pub mul-sub_right : (a b c : ℤ) → a *ℤ (b -ℤ c) ≡ a *ℤ b -ℤ a *ℤ c
mul-sub_right a b c = omega (arith, ints, mul-sub_left b c a)

pub mul_swap_ℤ : (a b c d : ℤ) → (a *ℤ b) *ℤ (c *ℤ d) ≡ (a *ℤ c) *ℤ (b *ℤ d)
mul_swap_ℤ a b c d =
    mul-assoc_ℤ a b (c *ℤ d) ∙ ap (λ z. a *ℤ z) (sym (mul-assoc_ℤ b c d) ∙ (ap (λ z. z *ℤ d) (mul_comm_ℤ b c) ∙ mul-assoc_ℤ c b d)) ∙ sym (mul-assoc_ℤ a c (b *ℤ d))

pub add_comm_ℤ : (a b : ℤ) → a +ℤ b ≡ b +ℤ a
add_comm_ℤ a b = omega (arith, ints)

pub add-assoc_ℤ : (a b c : ℤ) → (a +ℤ b) +ℤ c ≡ a +ℤ (b +ℤ c)
add-assoc_ℤ a b c = omega (arith, ints)

pub neg-add : (a b : ℤ) → neg_ℤ (a +ℤ b) ≡ neg_ℤ a +ℤ neg_ℤ b
neg-add a b = omega (arith, ints)

pub neg-neg : (a : ℤ) → neg_ℤ (neg_ℤ a) ≡ a
neg-neg a = omega (arith, ints)

-- ---- order
pub ≤ℤ_trans : (a b c : ℤ) → a ≤ℤ b → b ≤ℤ c → a ≤ℤ c
≤ℤ_trans a b c h k = omega (arith, ints)

pub add_le_ℤ : (a b c d : ℤ) → a ≤ℤ b → c ≤ℤ d → (a +ℤ c) ≤ℤ (b +ℤ d)
add_le_ℤ a b c d h k = omega (arith, ints)

pub by_sign : {P : Type 0} (a : ℤ) → (pos 0 ≤ℤ a → P) → (a ≤ℤ pos 0 → P) → P
by_sign (pos n) f g = f (omega (arith, ints))
by_sign (negsuc n) f g = g (omega (arith, ints))

pub mul_le_right_pos : (a b : ℤ) (n : ℕ) → a ≤ℤ b → (a *ℤ pos n) ≤ℤ (b *ℤ pos n)
mul_le_right_pos a b n h = omega (arith, ints, mul-le-mul_right n (le_out a b h))

pub mul_le_right : (a b c : ℤ) → a ≤ℤ b → pos 0 ≤ℤ c → (a *ℤ c) ≤ℤ (b *ℤ c)
mul_le_right a b (pos n) h k = mul_le_right_pos a b n h
mul_le_right a b (negsuc n) h k = absurd (omega (arith, le_out (pos 0) (negsuc n) k))

pub mul_le_left : (a b c : ℤ) → a ≤ℤ b → pos 0 ≤ℤ c → (c *ℤ a) ≤ℤ (c *ℤ b)
mul_le_left a b c h k = omega (arith, ints, mul_le_right a b c h k)

pub mul_ge_right : (a b c : ℤ) → a ≤ℤ b → c ≤ℤ pos 0 → (b *ℤ c) ≤ℤ (a *ℤ c)
mul_ge_right a b (pos n) h k = let z : n ≡ 0 = omega (arith, le_out (pos n) (pos 0) k) in rw z (omega (arith, ints))
mul_ge_right a b (negsuc n) h k = omega (arith, ints, mul-le-mul_right (suc n) (le_out a b h))

pub mul_ge_left : (a b c : ℤ) → a ≤ℤ b → c ≤ℤ pos 0 → (c *ℤ b) ≤ℤ (c *ℤ a)
mul_ge_left a b c h k = omega (arith, ints, mul_ge_right a b c h k)

-- ---- a product of two bounded numbers: m is at most the four products of ends
pub product_above : (a b c d x y m : ℤ) → a ≤ℤ x → x ≤ℤ b → c ≤ℤ y → y ≤ℤ d → m ≤ℤ (a *ℤ c) → m ≤ℤ (a *ℤ d) → m ≤ℤ (b *ℤ c) → m ≤ℤ (b *ℤ d) → m ≤ℤ (x *ℤ y)
product_above a b c d x y m ax xb cy yd h1 h2 h3 h4 =
    by_sign y
    (λ (p : pos 0 ≤ℤ y). by_sign a
    (λ (q : pos 0 ≤ℤ a). omega (arith, ints, mul_le_right a x y ax p, mul_le_left c y a cy q))
    (λ (q : a ≤ℤ pos 0). omega (arith, ints, mul_le_right a x y ax p, mul_ge_left y d a yd q)))
    (λ (p : y ≤ℤ pos 0). by_sign b
    (λ (q : pos 0 ≤ℤ b). omega (arith, ints, mul_ge_right x b y xb p, mul_le_left c y b cy q))
    (λ (q : b ≤ℤ pos 0). omega (arith, ints, mul_ge_right x b y xb p, mul_ge_left y d b yd q)))

pub product_below : (a b c d x y m : ℤ) → a ≤ℤ x → x ≤ℤ b → c ≤ℤ y → y ≤ℤ d → (a *ℤ c) ≤ℤ m → (a *ℤ d) ≤ℤ m → (b *ℤ c) ≤ℤ m → (b *ℤ d) ≤ℤ m → (x *ℤ y) ≤ℤ m
product_below a b c d x y m ax xb cy yd h1 h2 h3 h4 =
    by_sign y
    (λ (p : pos 0 ≤ℤ y). by_sign b
    (λ (q : pos 0 ≤ℤ b). omega (arith, ints, mul_le_right x b y xb p, mul_le_left y d b yd q))
    (λ (q : b ≤ℤ pos 0). omega (arith, ints, mul_le_right x b y xb p, mul_ge_left c y b cy q)))
    (λ (p : y ≤ℤ pos 0). by_sign a
    (λ (q : pos 0 ≤ℤ a). omega (arith, ints, mul_ge_right a x y ax p, mul_le_left y d a yd q))
    (λ (q : a ≤ℤ pos 0). omega (arith, ints, mul_ge_right a x y ax p, mul_ge_left c y a cy q)))

pub le_antisym_ℤ : (a b : ℤ) → a ≤ℤ b → b ≤ℤ a → a ≡ b
le_antisym_ℤ a b h k = omega (arith, ints)

pub neg-le : (a b : ℤ) → a ≤ℤ b → neg_ℤ b ≤ℤ neg_ℤ a
neg-le a b h = omega (arith, ints)

-- ---- products in order
pub mul_lt_right : (a b c : ℤ) → a <ℤ b → pos 0 <ℤ c → (a *ℤ c) <ℤ (b *ℤ c)
mul_lt_right a b c h k = omega (arith, ints, mul_le_right (a +ℤ pos 1) b c (omega (arith, ints)) (omega (arith, ints)), mul-add_left a (pos 1) c)

pub mul_le_mul : (a b c d : ℤ) → a ≤ℤ b → c ≤ℤ d → pos 0 ≤ℤ b → pos 0 ≤ℤ c → (a *ℤ c) ≤ℤ (b *ℤ d)
mul_le_mul a b c d h k m n = ≤ℤ_trans (a *ℤ c) (b *ℤ c) (b *ℤ d) (mul_le_right a b c h n) (mul_le_left c d b k m)

pub mul_nonneg : (a b : ℤ) → pos 0 ≤ℤ a → pos 0 ≤ℤ b → pos 0 ≤ℤ (a *ℤ b)
mul_nonneg a b h k = omega (arith, ints, mul_le_right (pos 0) a b h k)

pub mul_pos : (a b : ℤ) → pos 0 <ℤ a → pos 0 <ℤ b → pos 0 <ℤ (a *ℤ b)
mul_pos a b h k = omega (arith, ints, mul_lt_right (pos 0) a b h k)

pub square_nonneg : (a : ℤ) → pos 0 ≤ℤ (a *ℤ a)
square_nonneg (pos n) = omega (arith, ints)
square_nonneg (negsuc n) = omega (arith, ints)

-- a factor above 0 cancels
pub mul_le_out : (a b c : ℤ) → pos 0 <ℤ c → (a *ℤ c) ≤ℤ (b *ℤ c) → a ≤ℤ b
mul_le_out a b c k h = by_lt_z b a (λ (l : b <ℤ a). absurd (omega (arith, ints, mul_lt_right b a c l k))) (λ (l : a ≤ℤ b). l)

pub mul_lt_out : (a b c : ℤ) → pos 0 ≤ℤ c → (a *ℤ c) <ℤ (b *ℤ c) → a <ℤ b
mul_lt_out a b c k h = by_lt_z a b (λ (l : a <ℤ b). l) (λ (l : b ≤ℤ a). absurd (omega (arith, ints, mul_le_right b a c l k)))
