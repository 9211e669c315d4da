-- The ends of a product by the signs, and the squares of an interval by its numbers nearest to 0 and farthest from it.
use Rattle.std.proofs.Common.{◌≡◌, sym, ap, ◌∙◌, ℕ, ◌*◌, ◌≤◌, arith, unsigned_abs, cond}
use Rattle.std.proofs.Math.Nat.{mul-le-mul}
use Rattle.std.proofs.lemmas.Int.{ints, clamps, unsigned_abs-mul}
use Rattle.std.specs.Prelude.{ℤ, pos, neg_ℤ, ◌-ℤ◌, ◌*ℤ◌, ◌≤ℤ◌, int_le}
use Rattle.std.specs.Int.{int_max, int_min}
use Rattle.gd_axis.specs.Shorts.{ShortFits}
use Rattle.gd_axis.specs.declared.short.Short.{Short}
use Rattle.gd_int.proofs.Integers.{by_sign, le_antisym_ℤ, mul_comm_ℤ, mul_ge_left, mul_ge_right, mul_le_left, mul_le_right, mul-neg_right, neg-mul_left, neg-neg, square_nonneg, ≤ℤ_trans}
use Rattle.gd_interval.proofs.Products.{by_straddle, mul_hi-above, mul_hi-reached, mul_lo-below, mul_lo-reached, square_hi-reached, square_lo-reached}
use Rattle.gd_interval.proofs.Wholes.{by_int_le, square_falls, square_grows}
use Rattle.gd_interval.specs.Formulas.{mul_hi, mul_lo, scale_hi, scale_lo, square_hi, square_lo}
use Rattle.gd_interval.specs.declared.iv.Iv.{Iv}
use Rattle.gd_int.proofs.Divisions.{ceil-multiple, floor-multiple}
use Rattle.gd_int.specs.Division.{ceil_of, floor_of}
use Rattle.gd_quat.specs.Boxes.{Fits}
use Rattle.gd_quat.specs.Formulas.{Ends, difference, narrowed}

same : (a : ℤ) → a ≤ℤ a
same a = omega (arith, ints)

-- a product of members that is no greater than all products of members is the least, and one that is no less the greatest
least-is : (a b c d p q : ℤ) → a ≤ℤ b → c ≤ℤ d → a ≤ℤ p → p ≤ℤ b → c ≤ℤ q → q ≤ℤ d
    → ((x y : ℤ) → a ≤ℤ x → x ≤ℤ b → c ≤ℤ y → y ≤ℤ d → (p *ℤ q) ≤ℤ (x *ℤ y)) → (p *ℤ q) ≡ mul_lo a b c d
least-is a b c d p q h k ap pb cq qd f =
    le_antisym_ℤ (p *ℤ q) (mul_lo a b c d) (mul_lo-reached (λ v. (p *ℤ q) ≤ℤ v) a b c d h k f) (mul_lo-below a b c d p q ap pb cq qd)

greatest-is : (a b c d p q : ℤ) → a ≤ℤ b → c ≤ℤ d → a ≤ℤ p → p ≤ℤ b → c ≤ℤ q → q ≤ℤ d
    → ((x y : ℤ) → a ≤ℤ x → x ≤ℤ b → c ≤ℤ y → y ≤ℤ d → (x *ℤ y) ≤ℤ (p *ℤ q)) → (p *ℤ q) ≡ mul_hi a b c d
greatest-is a b c d p q h k ap pb cq qd f =
    le_antisym_ℤ (p *ℤ q) (mul_hi a b c d) (mul_hi-above a b c d p q ap pb cq qd) (mul_hi-reached (λ v. v ≤ℤ (p *ℤ q)) a b c d h k f)

-- ---- no number of the first is below 0
pub above-lo : (a b c d : ℤ) → pos 0 ≤ℤ a → a ≤ℤ b → c ≤ℤ d → (cond (int_le (pos 0) c) a b *ℤ c) ≡ mul_lo a b c d
above-lo a b c d s h k = by_int_le c (λ v. (cond v a b *ℤ c) ≡ mul_lo a b c d)
    (λ (p : pos 0 ≤ℤ c). least-is a b c d a c h k (same a) h (same c) k (λ x y ax xb cy yd.
    ≤ℤ_trans (a *ℤ c) (x *ℤ c) (x *ℤ y) (mul_le_right a x c ax p) (mul_le_left c y x cy (≤ℤ_trans (pos 0) a x s ax))))
    (λ (p : c ≤ℤ pos 0). least-is a b c d b c h k h (same b) (same c) k (λ x y ax xb cy yd.
    ≤ℤ_trans (b *ℤ c) (x *ℤ c) (x *ℤ y) (mul_ge_right x b c xb p) (mul_le_left c y x cy (≤ℤ_trans (pos 0) a x s ax))))

pub above-hi : (a b c d : ℤ) → pos 0 ≤ℤ a → a ≤ℤ b → c ≤ℤ d → (cond (int_le (pos 0) d) b a *ℤ d) ≡ mul_hi a b c d
above-hi a b c d s h k = by_int_le d (λ v. (cond v b a *ℤ d) ≡ mul_hi a b c d)
    (λ (p : pos 0 ≤ℤ d). greatest-is a b c d b d h k h (same b) k (same d) (λ x y ax xb cy yd.
    ≤ℤ_trans (x *ℤ y) (x *ℤ d) (b *ℤ d) (mul_le_left y d x yd (≤ℤ_trans (pos 0) a x s ax)) (mul_le_right x b d xb p)))
    (λ (p : d ≤ℤ pos 0). greatest-is a b c d a d h k (same a) h k (same d) (λ x y ax xb cy yd.
    ≤ℤ_trans (x *ℤ y) (x *ℤ d) (a *ℤ d) (mul_le_left y d x yd (≤ℤ_trans (pos 0) a x s ax)) (mul_ge_right a x d ax p)))

-- ---- no number of the first is above 0
pub below-lo : (a b c d : ℤ) → b ≤ℤ pos 0 → a ≤ℤ b → c ≤ℤ d → (cond (int_le (pos 0) d) a b *ℤ d) ≡ mul_lo a b c d
below-lo a b c d s h k = by_int_le d (λ v. (cond v a b *ℤ d) ≡ mul_lo a b c d)
    (λ (p : pos 0 ≤ℤ d). least-is a b c d a d h k (same a) h k (same d) (λ x y ax xb cy yd.
    ≤ℤ_trans (a *ℤ d) (x *ℤ d) (x *ℤ y) (mul_le_right a x d ax p) (mul_ge_left y d x yd (≤ℤ_trans x b (pos 0) xb s))))
    (λ (p : d ≤ℤ pos 0). least-is a b c d b d h k h (same b) k (same d) (λ x y ax xb cy yd.
    ≤ℤ_trans (b *ℤ d) (x *ℤ d) (x *ℤ y) (mul_ge_right x b d xb p) (mul_ge_left y d x yd (≤ℤ_trans x b (pos 0) xb s))))

pub below-hi : (a b c d : ℤ) → b ≤ℤ pos 0 → a ≤ℤ b → c ≤ℤ d → (cond (int_le (pos 0) c) b a *ℤ c) ≡ mul_hi a b c d
below-hi a b c d s h k = by_int_le c (λ v. (cond v b a *ℤ c) ≡ mul_hi a b c d)
    (λ (p : pos 0 ≤ℤ c). greatest-is a b c d b c h k h (same b) (same c) k (λ x y ax xb cy yd.
    ≤ℤ_trans (x *ℤ y) (x *ℤ c) (b *ℤ c) (mul_ge_left c y x cy (≤ℤ_trans x b (pos 0) xb s)) (mul_le_right x b c xb p)))
    (λ (p : c ≤ℤ pos 0). greatest-is a b c d a c h k (same a) h (same c) k (λ x y ax xb cy yd.
    ≤ℤ_trans (x *ℤ y) (x *ℤ c) (a *ℤ c) (mul_ge_left c y x cy (≤ℤ_trans x b (pos 0) xb s)) (mul_ge_right a x c ax p)))

-- ---- the first holds 0
pub through-lo : (a b c d : ℤ) → a ≤ℤ pos 0 → pos 0 ≤ℤ b → c ≤ℤ d → int_min (a *ℤ d) (b *ℤ c) ≡ mul_lo a b c d
through-lo a b c d s t k = pick (a *ℤ c) (a *ℤ d) (b *ℤ c) (b *ℤ d) (mul_ge_left c d a k s) (mul_le_left c d b k t)
  where
    pick : (p q r z : ℤ) → q ≤ℤ p → r ≤ℤ z → int_min q r ≡ int_min (int_min p q) (int_min r z)
    pick p q r z h i = omega (arith, ints, clamps, h, i)

pub through-hi : (a b c d : ℤ) → a ≤ℤ pos 0 → pos 0 ≤ℤ b → c ≤ℤ d → int_max (a *ℤ c) (b *ℤ d) ≡ mul_hi a b c d
through-hi a b c d s t k = pick (a *ℤ c) (a *ℤ d) (b *ℤ c) (b *ℤ d) (mul_ge_left c d a k s) (mul_le_left c d b k t)
  where
    pick : (p q r z : ℤ) → q ≤ℤ p → r ≤ℤ z → int_max p z ≡ int_max (int_max p q) (int_max r z)
    pick p q r z h i = omega (arith, ints, clamps, h, i)

-- ---- one number alone
pub alone-lo : (n c d : ℤ) → scale_lo c d n ≡ mul_lo n n c d
alone-lo n c d = twice (c *ℤ n) (d *ℤ n) (n *ℤ c) (n *ℤ d) (mul_comm_ℤ c n) (mul_comm_ℤ d n)
  where
    twice : (p q r z : ℤ) → p ≡ r → q ≡ z → int_min p q ≡ int_min (int_min r z) (int_min r z)
    twice p q r z h i = omega (arith, ints, clamps, h, i)

pub alone-hi : (n c d : ℤ) → scale_hi c d n ≡ mul_hi n n c d
alone-hi n c d = twice (c *ℤ n) (d *ℤ n) (n *ℤ c) (n *ℤ d) (mul_comm_ℤ c n) (mul_comm_ℤ d n)
  where
    twice : (p q r z : ℤ) → p ≡ r → q ≡ z → int_max p q ≡ int_max (int_max r z) (int_max r z)
    twice p q r z h i = omega (arith, ints, clamps, h, i)

-- ---- squares
neg-square : (a : ℤ) → (neg_ℤ a *ℤ neg_ℤ a) ≡ (a *ℤ a)
neg-square a = neg-mul_left a (neg_ℤ a) ∙ ap neg_ℤ (mul-neg_right a a) ∙ neg-neg (a *ℤ a)

pub nearest-square : (a b : ℤ) → a ≤ℤ b → (int_max (int_max a (neg_ℤ b)) (pos 0) *ℤ int_max (int_max a (neg_ℤ b)) (pos 0)) ≡ square_lo a b
nearest-square a b o = by_straddle a b (λ v. (r *ℤ r) ≡ cond v (pos 0) (int_min (a *ℤ a) (b *ℤ b)))
    (λ p q. ap (λ z. z *ℤ z) (zero p q))
    (λ (p : pos 0 ≤ℤ a). ap (λ z. z *ℤ z) (first p) ∙ lesser (a *ℤ a) (b *ℤ b) (square_grows a b p o))
    (λ (p : b ≤ℤ pos 0). ap (λ z. z *ℤ z) (second p) ∙ neg-square b ∙ lesser' (a *ℤ a) (b *ℤ b) (square_falls a b o p))
  where
    r : ℤ
    r = int_max (int_max a (neg_ℤ b)) (pos 0)

    zero : a ≤ℤ pos 0 → pos 0 ≤ℤ b → int_max (int_max a (neg_ℤ b)) (pos 0) ≡ pos 0
    zero p q = omega (arith, ints, clamps, p, q)

    first : pos 0 ≤ℤ a → int_max (int_max a (neg_ℤ b)) (pos 0) ≡ a
    first p = omega (arith, ints, clamps, p, o)

    second : b ≤ℤ pos 0 → int_max (int_max a (neg_ℤ b)) (pos 0) ≡ neg_ℤ b
    second p = omega (arith, ints, clamps, p, o)

    lesser : (p q : ℤ) → p ≤ℤ q → p ≡ int_min p q
    lesser p q h = omega (arith, ints, clamps, h)

    lesser' : (p q : ℤ) → q ≤ℤ p → q ≡ int_min p q
    lesser' p q h = omega (arith, ints, clamps, h)

pub farthest-square : (a b : ℤ) → a ≤ℤ b → (int_max (neg_ℤ a) b *ℤ int_max (neg_ℤ a) b) ≡ square_hi a b
farthest-square a b o = by_sign a
    (λ (p : pos 0 ≤ℤ a). ap (λ z. z *ℤ z) (upper (neg_ℤ a) b (low a b p o)) ∙ greater' (a *ℤ a) (b *ℤ b) (square_grows a b p o))
    (λ (p : a ≤ℤ pos 0). by_sign b
    (λ (q : pos 0 ≤ℤ b). crossing p q)
    (λ (q : b ≤ℤ pos 0). ap (λ z. z *ℤ z) (lower (neg_ℤ a) b (high a b p q)) ∙ neg-square a ∙ greater (a *ℤ a) (b *ℤ b) (square_falls a b o q)))
  where
    low : (a b : ℤ) → pos 0 ≤ℤ a → a ≤ℤ b → neg_ℤ a ≤ℤ b
    low a b p o = omega (arith, ints, p, o)

    high : (a b : ℤ) → a ≤ℤ pos 0 → b ≤ℤ pos 0 → b ≤ℤ neg_ℤ a
    high a b p q = omega (arith, ints, p, q)

    upper : (p q : ℤ) → p ≤ℤ q → int_max p q ≡ q
    upper p q h = omega (arith, ints, clamps, h)

    lower : (p q : ℤ) → q ≤ℤ p → int_max p q ≡ p
    lower p q h = omega (arith, ints, clamps, h)

    greater : (p q : ℤ) → q ≤ℤ p → p ≡ int_max p q
    greater p q h = omega (arith, ints, clamps, h)

    greater' : (p q : ℤ) → p ≤ℤ q → q ≡ int_max p q
    greater' p q h = omega (arith, ints, clamps, h)

    up : (a : ℤ) → a ≤ℤ pos 0 → pos 0 ≤ℤ neg_ℤ a
    up a p = omega (arith, ints, p)

    order : (p q : ℤ) → pos 0 ≤ℤ p → pos 0 ≤ℤ q → (int_max p q *ℤ int_max p q) ≡ int_max (p *ℤ p) (q *ℤ q)
    order p q h i = by_order p q
        (λ (l : p ≤ℤ q). ap (λ z. z *ℤ z) (upper p q l) ∙ greater' (p *ℤ p) (q *ℤ q) (square_grows p q h l))
        (λ (l : q ≤ℤ p). ap (λ z. z *ℤ z) (lower p q l) ∙ greater (p *ℤ p) (q *ℤ q) (square_grows q p i l))
      where
        by_order : {P : Type 0} (p q : ℤ) → (p ≤ℤ q → P) → (q ≤ℤ p → P) → P
        by_order {P} p q f g = by_sign (q -ℤ p) (λ h. f (omega (arith, ints, h))) (λ h. g (omega (arith, ints, h)))

    crossing : a ≤ℤ pos 0 → pos 0 ≤ℤ b → (int_max (neg_ℤ a) b *ℤ int_max (neg_ℤ a) b) ≡ square_hi a b
    crossing p q = order (neg_ℤ a) b (up a p) q ∙ ap (λ z. int_max z (b *ℤ b)) (neg-square a)

-- ---- sizes
within : (x a b : ℤ) (m : ℕ) → a ≤ℤ x → x ≤ℤ b → unsigned_abs a ≤ m → unsigned_abs b ≤ m → unsigned_abs x ≤ m
within x a b m h k f g = omega (arith, ints)

times-size : (x y : ℤ) (m n : ℕ) → unsigned_abs x ≤ m → unsigned_abs y ≤ n → unsigned_abs (x *ℤ y) ≤ m * n
times-size x y m n h k = rw (unsigned_abs-mul x y) (mul-le-mul h k)

pub product-size : (a b : Short) (r : Iv) (m n : ℕ) → ShortFits m a → ShortFits n b → r.lo ≡ mul_lo a.lo a.hi b.lo b.hi → r.hi ≡ mul_hi a.lo a.hi b.lo b.hi → Fits (m * n) r
product-size a b r m n h k e f = record {
  lo = rw e (mul_lo-reached (λ v. unsigned_abs v ≤ m * n) a.lo a.hi b.lo b.hi a.ordered b.ordered (λ x y l u p q. times-size x y m n (within x a.lo a.hi m l u h.lo h.hi) (within y b.lo b.hi n p q k.lo k.hi)));
  hi = rw f (mul_hi-reached (λ v. unsigned_abs v ≤ m * n) a.lo a.hi b.lo b.hi a.ordered b.ordered (λ x y l u p q. times-size x y m n (within x a.lo a.hi m l u h.lo h.hi) (within y b.lo b.hi n p q k.lo k.hi)));
}

pub square-size : (a : Short) (r : Iv) (m : ℕ) → ShortFits m a → r.lo ≡ square_lo a.lo a.hi → r.hi ≡ square_hi a.lo a.hi → Fits (m * m) r
square-size a r m h e f = record {
  lo = rw e (square_lo-reached (λ v. unsigned_abs v ≤ m * m) a.lo a.hi a.ordered (λ x l u. times-size x x m m (within x a.lo a.hi m l u h.lo h.hi) (within x a.lo a.hi m l u h.lo h.hi)));
  hi = rw f (square_hi-reached (λ v. unsigned_abs v ≤ m * m) a.lo a.hi a.ordered (λ x l u. times-size x x m m (within x a.lo a.hi m l u h.lo h.hi) (within x a.lo a.hi m l u h.lo h.hi)));
}

pub square-sign : (a : Short) (z : ℤ) → z ≡ square_lo a.lo a.hi → pos 0 ≤ℤ z
square-sign a z e = rw e (square_lo-reached (λ v. pos 0 ≤ℤ v) a.lo a.hi a.ordered (λ x l u. square_nonneg x))

pub single-size : (a b r : Short) (m n : ℕ) → ShortFits m a → ShortFits n b → r.lo ≡ mul_lo a.lo a.hi b.lo b.hi → r.hi ≡ mul_hi a.lo a.hi b.lo b.hi → ShortFits (m * n) r
single-size a b r m n h k e f = record {
  lo = rw e (mul_lo-reached (λ v. unsigned_abs v ≤ m * n) a.lo a.hi b.lo b.hi a.ordered b.ordered (λ x y l u p q. times-size x y m n (within x a.lo a.hi m l u h.lo h.hi) (within y b.lo b.hi n p q k.lo k.hi)));
  hi = rw f (mul_hi-reached (λ v. unsigned_abs v ≤ m * n) a.lo a.hi b.lo b.hi a.ordered b.ordered (λ x y l u p q. times-size x y m n (within x a.lo a.hi m l u h.lo h.hi) (within y b.lo b.hi n p q k.lo k.hi)));
}

-- ---- whole entries lose nothing by a narrowing of no bits
floor-of-one : (z : ℤ) → floor_of z (pos 1) ≡ z
floor-of-one z = ap (λ x. floor_of x (pos 1)) (once z) ∙ floor-multiple z (pos 1) (omega (arith, ints))
  where
    once : (z : ℤ) → z ≡ z *ℤ pos 1
    once z = omega (arith, ints)

ceil-of-one : (z : ℤ) → ceil_of z (pos 1) ≡ z
ceil-of-one z = ap (λ x. ceil_of x (pos 1)) (once z) ∙ ceil-multiple z (pos 1) (omega (arith, ints))
  where
    once : (z : ℤ) → z ≡ z *ℤ pos 1
    once z = omega (arith, ints)

pub minor-whole : (r a b p q : Ends) → r ≡ difference a b → a ≡ p → b ≡ q → r ≡ narrowed (difference p q) 0
minor-whole r a b p q e f g = e ∙ ap (λ z. difference z b) f ∙ ap (λ z. difference p z) g ∙ whole (difference p q)
  where
    pair : ℤ → ℤ → Ends
    pair l h = record { lo = l; hi = h }

    whole : (z : Ends) → z ≡ narrowed z 0
    whole z = ap (λ l. pair l z.hi) (sym (floor-of-one z.lo)) ∙ ap (λ h. pair (floor_of z.lo (pos 1)) h) (sym (ceil-of-one z.hi))
