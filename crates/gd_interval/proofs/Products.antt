-- The ends of products, multiples and squares are products of members, and bound the products of all members.
use Rattle.std.proofs.Common.{arith, Bool, true, false, cond, ◌&&◌}
use Rattle.std.proofs.lemmas.Int.{ints, clamps}
use Rattle.std.specs.Prelude.{ℤ, pos, ◌*ℤ◌, ◌≤ℤ◌, int_le}
use Rattle.std.specs.Int.{int_min, int_max}
use Rattle.gd_int.proofs.Integers.{mul_le_right, mul_ge_right, product_above, product_below, ≤ℤ_trans, by_sign, square_nonneg}
use Rattle.gd_interval.specs.Formulas.{scale_lo, scale_hi, mul_lo, mul_hi, square_lo, square_hi}
use Rattle.gd_interval.proofs.Wholes.{square_grows, square_falls, by_int_le, by_int_below, min_is_one, max_is_one}

≤ℤ_refl : (a : ℤ) → a ≤ℤ a
≤ℤ_refl a = omega (arith, ints)

-- ---- the least and the greatest of four
pub least_is_one : (P : ℤ → Type 0) (p q r s : ℤ) → P p → P q → P r → P s → P (int_min (int_min p q) (int_min r s))
least_is_one P p q r s f g h k = min_is_one P (int_min p q) (int_min r s) (min_is_one P p q f g) (min_is_one P r s h k)

pub greatest_is_one : (P : ℤ → Type 0) (p q r s : ℤ) → P p → P q → P r → P s → P (int_max (int_max p q) (int_max r s))
greatest_is_one P p q r s f g h k = max_is_one P (int_max p q) (int_max r s) (max_is_one P p q f g) (max_is_one P r s h k)

pub record Least (m p q r s : ℤ) : Type 0 where
  pub first : m ≤ℤ p
  pub second : m ≤ℤ q
  pub third : m ≤ℤ r
  pub fourth : m ≤ℤ s

pub record Greatest (m p q r s : ℤ) : Type 0 where
  pub first : p ≤ℤ m
  pub second : q ≤ℤ m
  pub third : r ≤ℤ m
  pub fourth : s ≤ℤ m

pub is_least : (p q r s : ℤ) → Least (int_min (int_min p q) (int_min r s)) p q r s
is_least p q r s = record { first = omega (arith, ints, clamps); second = omega (arith, ints, clamps); third = omega (arith, ints, clamps); fourth = omega (arith, ints, clamps) }

pub is_greatest : (p q r s : ℤ) → Greatest (int_max (int_max p q) (int_max r s)) p q r s
is_greatest p q r s = record { first = omega (arith, ints, clamps); second = omega (arith, ints, clamps); third = omega (arith, ints, clamps); fourth = omega (arith, ints, clamps) }

-- ---- products
pub mul_lo-below : (a b c d x y : ℤ) → a ≤ℤ x → x ≤ℤ b → c ≤ℤ y → y ≤ℤ d → mul_lo a b c d ≤ℤ (x *ℤ y)
mul_lo-below a b c d x y ax xb cy yd =
    let l = is_least (a *ℤ c) (a *ℤ d) (b *ℤ c) (b *ℤ d) in
    product_above a b c d x y (mul_lo a b c d) ax xb cy yd l.first l.second l.third l.fourth

pub mul_hi-above : (a b c d x y : ℤ) → a ≤ℤ x → x ≤ℤ b → c ≤ℤ y → y ≤ℤ d → (x *ℤ y) ≤ℤ mul_hi a b c d
mul_hi-above a b c d x y ax xb cy yd =
    let g = is_greatest (a *ℤ c) (a *ℤ d) (b *ℤ c) (b *ℤ d) in
    product_below a b c d x y (mul_hi a b c d) ax xb cy yd g.first g.second g.third g.fourth

pub mul_lo-reached : (P : ℤ → Type 0) (a b c d : ℤ) → a ≤ℤ b → c ≤ℤ d → ((x y : ℤ) → a ≤ℤ x → x ≤ℤ b → c ≤ℤ y → y ≤ℤ d → P (x *ℤ y)) → P (mul_lo a b c d)
mul_lo-reached P a b c d h k f = least_is_one P (a *ℤ c) (a *ℤ d) (b *ℤ c) (b *ℤ d) (f a c (≤ℤ_refl a) h (≤ℤ_refl c) k) (f a d (≤ℤ_refl a) h k (≤ℤ_refl d)) (f b c h (≤ℤ_refl b) (≤ℤ_refl c) k) (f b d h (≤ℤ_refl b) k (≤ℤ_refl d))

pub mul_hi-reached : (P : ℤ → Type 0) (a b c d : ℤ) → a ≤ℤ b → c ≤ℤ d → ((x y : ℤ) → a ≤ℤ x → x ≤ℤ b → c ≤ℤ y → y ≤ℤ d → P (x *ℤ y)) → P (mul_hi a b c d)
mul_hi-reached P a b c d h k f = greatest_is_one P (a *ℤ c) (a *ℤ d) (b *ℤ c) (b *ℤ d) (f a c (≤ℤ_refl a) h (≤ℤ_refl c) k) (f a d (≤ℤ_refl a) h k (≤ℤ_refl d)) (f b c h (≤ℤ_refl b) (≤ℤ_refl c) k) (f b d h (≤ℤ_refl b) k (≤ℤ_refl d))

pub four-ordered : (p q r s : ℤ) → int_min (int_min p q) (int_min r s) ≤ℤ int_max (int_max p q) (int_max r s)
four-ordered p q r s = omega (arith, ints, clamps)

-- ---- multiples
pub two-ordered : (p q : ℤ) → int_min p q ≤ℤ int_max p q
two-ordered p q = omega (arith, ints, clamps)

pub scale_lo-below : (a b k x : ℤ) → a ≤ℤ x → x ≤ℤ b → scale_lo a b k ≤ℤ (x *ℤ k)
scale_lo-below a b k x h i = by_sign k
    (λ (p : pos 0 ≤ℤ k). under (a *ℤ k) (b *ℤ k) (x *ℤ k) (mul_le_right a x k h p))
    (λ (p : k ≤ℤ pos 0). under' (a *ℤ k) (b *ℤ k) (x *ℤ k) (mul_ge_right x b k i p))
  where
    under : (p q z : ℤ) → p ≤ℤ z → int_min p q ≤ℤ z
    under p q z h = omega (arith, ints, clamps)

    under' : (p q z : ℤ) → q ≤ℤ z → int_min p q ≤ℤ z
    under' p q z h = omega (arith, ints, clamps)

pub scale_hi-above : (a b k x : ℤ) → a ≤ℤ x → x ≤ℤ b → (x *ℤ k) ≤ℤ scale_hi a b k
scale_hi-above a b k x h i = by_sign k
    (λ (p : pos 0 ≤ℤ k). over (a *ℤ k) (b *ℤ k) (x *ℤ k) (mul_le_right x b k i p))
    (λ (p : k ≤ℤ pos 0). over' (a *ℤ k) (b *ℤ k) (x *ℤ k) (mul_ge_right a x k h p))
  where
    over : (p q z : ℤ) → z ≤ℤ q → z ≤ℤ int_max p q
    over p q z h = omega (arith, ints, clamps)

    over' : (p q z : ℤ) → z ≤ℤ p → z ≤ℤ int_max p q
    over' p q z h = omega (arith, ints, clamps)

-- ---- squares
-- the interval holds 0, or lies on one side of it
pub by_straddle : (a b : ℤ) (P : Bool → Type 0) → (a ≤ℤ pos 0 → pos 0 ≤ℤ b → P true) → (pos 0 ≤ℤ a → P false) → (b ≤ℤ pos 0 → P false) → P (int_le a (pos 0) && int_le (pos 0) b)
by_straddle a b P f g h = by_int_below a (λ v. P (v && int_le (pos 0) b))
    (λ (p : a ≤ℤ pos 0). by_int_le b P (f p) h)
    g

pub ≤ℤ_min : (p q z : ℤ) → (p ≤ℤ z → int_min p q ≤ℤ z) × (q ≤ℤ z → int_min p q ≤ℤ z)
≤ℤ_min p q z = ((λ (h : p ≤ℤ z). omega (arith, ints, clamps)), (λ (h : q ≤ℤ z). omega (arith, ints, clamps)))

pub ≤ℤ_max : (p q z : ℤ) → (z ≤ℤ p → z ≤ℤ int_max p q) × (z ≤ℤ q → z ≤ℤ int_max p q)
≤ℤ_max p q z = ((λ (h : z ≤ℤ p). omega (arith, ints, clamps)), (λ (h : z ≤ℤ q). omega (arith, ints, clamps)))

pub square_lo-below : (a b x : ℤ) → a ≤ℤ x → x ≤ℤ b → square_lo a b ≤ℤ (x *ℤ x)
square_lo-below a b x h i = by_straddle a b (λ v. cond v (pos 0) (int_min (a *ℤ a) (b *ℤ b)) ≤ℤ (x *ℤ x))
    (λ p q. square_nonneg x)
    (λ (p : pos 0 ≤ℤ a). (≤ℤ_min (a *ℤ a) (b *ℤ b) (x *ℤ x)).0 (square_grows a x p h))
    (λ (p : b ≤ℤ pos 0). (≤ℤ_min (a *ℤ a) (b *ℤ b) (x *ℤ x)).1 (square_falls x b i p))

pub square_hi-above : (a b x : ℤ) → a ≤ℤ x → x ≤ℤ b → (x *ℤ x) ≤ℤ square_hi a b
square_hi-above a b x h i = by_sign x
    (λ (p : pos 0 ≤ℤ x). (≤ℤ_max (a *ℤ a) (b *ℤ b) (x *ℤ x)).1 (square_grows x b p i))
    (λ (p : x ≤ℤ pos 0). (≤ℤ_max (a *ℤ a) (b *ℤ b) (x *ℤ x)).0 (square_falls a x h p))

pub square_lo-reached : (P : ℤ → Type 0) (a b : ℤ) → a ≤ℤ b → ((x : ℤ) → a ≤ℤ x → x ≤ℤ b → P (x *ℤ x)) → P (square_lo a b)
square_lo-reached P a b h f = by_straddle a b (λ v. P (cond v (pos 0) (int_min (a *ℤ a) (b *ℤ b))))
    (λ p q. f (pos 0) p q)
    (λ _. min_is_one P (a *ℤ a) (b *ℤ b) (f a (≤ℤ_refl a) h) (f b h (≤ℤ_refl b)))
    (λ _. min_is_one P (a *ℤ a) (b *ℤ b) (f a (≤ℤ_refl a) h) (f b h (≤ℤ_refl b)))

pub square_hi-reached : (P : ℤ → Type 0) (a b : ℤ) → a ≤ℤ b → ((x : ℤ) → a ≤ℤ x → x ≤ℤ b → P (x *ℤ x)) → P (square_hi a b)
square_hi-reached P a b h f = max_is_one P (a *ℤ a) (b *ℤ b) (f a (≤ℤ_refl a) h) (f b h (≤ℤ_refl b))

pub square-ordered : (a b : ℤ) → a ≤ℤ b → square_lo a b ≤ℤ square_hi a b
square-ordered a b h = ≤ℤ_trans (square_lo a b) (a *ℤ a) (square_hi a b) (square_lo-below a b a (≤ℤ_refl a) h) (square_hi-above a b a (≤ℤ_refl a) h)

pub scale_lo-reached : (P : ℤ → Type 0) (a b k : ℤ) → a ≤ℤ b → ((x : ℤ) → a ≤ℤ x → x ≤ℤ b → P (x *ℤ k)) → P (scale_lo a b k)
scale_lo-reached P a b k h f = min_is_one P (a *ℤ k) (b *ℤ k) (f a (≤ℤ_refl a) h) (f b h (≤ℤ_refl b))

pub scale_hi-reached : (P : ℤ → Type 0) (a b k : ℤ) → a ≤ℤ b → ((x : ℤ) → a ≤ℤ x → x ≤ℤ b → P (x *ℤ k)) → P (scale_hi a b k)
scale_hi-reached P a b k h f = max_is_one P (a *ℤ k) (b *ℤ k) (f a (≤ℤ_refl a) h) (f b h (≤ℤ_refl b))
