-- A result with the ends of the formula holds the exact result at every pair of members.
use Rattle.std.proofs.Common.{◌≡◌, sym, ap, subst, ◌∙◌, ℕ, ◌*◌, ◌^◌, arith, cond}
use Rattle.std.specs.Int.{int_min}
use Rattle.std.proofs.lemmas.Int.{ints}
use Rattle.std.specs.Prelude.{ℤ, pos, ◌+ℤ◌, ◌-ℤ◌, ◌*ℤ◌, ◌≤ℤ◌, ◌<ℤ◌}
use Rattle.gd_int.proofs.Integers.{mul-add_left, mul-assoc_ℤ, mul_le_right, mul_le_right_pos, mul_ge_right, product_above, product_below, ≤ℤ_trans, by_sign, mul-sub_left, square_nonneg}
use Rattle.gd_int.proofs.Divisions.{floor-below, ceil-above}
use Rattle.gd_interval.specs.declared.iv.Iv.{Iv}
use Rattle.gd_interval.specs.Interval.{Inside}
use Rattle.gd_interval.specs.Enclosure.{Holds, EnclosesSum, EnclosesDifference, EnclosesProduct, EnclosesMultiple, EnclosesSquare, EnclosesQuotient, EnclosesNarrowed, EnclosesRoot}
use Rattle.gd_interval.specs.Formulas.{scale_lo, scale_hi, mul_lo, mul_hi, square_lo, square_hi, quot_lo, quot_hi, narrow_lo, narrow_hi, IsRootBelow, IsRootAbove}
use Rattle.gd_interval.proofs.Wholes.{mul-swap, mul-turn, square_grows, square_falls, products_below, products_above, power_is_positive}
use Rattle.gd_interval.proofs.Products.{is_least, is_greatest, by_straddle, ≤ℤ_min, ≤ℤ_max}
use Rattle.gd_interval.proofs.Quotients.{scaled, quot_lo-below, quot_hi-above}

-- ---- sums and differences
pub sum_inside : (a b c d : ℤ) (k : ℕ) (x y : ℤ) → Inside a b k x → Inside c d k y → Inside (a +ℤ c) (b +ℤ d) k (x +ℤ y)
sum_inside a b c d k x y h i = (rw (mul-add_left a c (pos k)) (omega (arith, ints, h.0, i.0)), rw (mul-add_left b d (pos k)) (omega (arith, ints, h.1, i.1)))

pub difference_inside : (a b c d : ℤ) (k : ℕ) (x y : ℤ) → Inside a b k x → Inside c d k y → Inside (a -ℤ d) (b -ℤ c) k (x -ℤ y)
difference_inside a b c d k x y h i = (
  omega (arith, ints, h.0, i.1, mul-sub_left a d (pos k)),
  omega (arith, ints, h.1, i.0, mul-sub_left b c (pos k)),
)

-- the same fraction with another denominator
pub rescaled : (a b : ℤ) (k m : ℕ) (x : ℤ) → Inside a b k x → Inside a b (k * m) (x *ℤ pos m)
rescaled a b k m x h = (subst (λ z. z ≤ℤ (x *ℤ pos m)) (mul-assoc_ℤ a (pos k) (pos m)) (mul_le_right_pos (a *ℤ pos k) x m h.0), subst (λ z. (x *ℤ pos m) ≤ℤ z) (mul-assoc_ℤ b (pos k) (pos m)) (mul_le_right_pos x (b *ℤ pos k) m h.1))

-- ---- products
at_lo : (m a b : ℤ) (k j : ℕ) → m ≤ℤ (a *ℤ b) → (m *ℤ pos (k * j)) ≤ℤ ((a *ℤ pos k) *ℤ (b *ℤ pos j))
at_lo m a b k j h = subst (λ z. (m *ℤ pos (k * j)) ≤ℤ z) (sym (mul-swap a b k j)) (mul_le_right_pos m (a *ℤ b) (k * j) h)

at_hi : (m a b : ℤ) (k j : ℕ) → (a *ℤ b) ≤ℤ m → ((a *ℤ pos k) *ℤ (b *ℤ pos j)) ≤ℤ (m *ℤ pos (k * j))
at_hi m a b k j h = subst (λ z. z ≤ℤ (m *ℤ pos (k * j))) (sym (mul-swap a b k j)) (mul_le_right_pos (a *ℤ b) m (k * j) h)

pub product_inside : (a b c d : ℤ) (k j : ℕ) (x y : ℤ) → Inside a b k x → Inside c d j y → Inside (mul_lo a b c d) (mul_hi a b c d) (k * j) (x *ℤ y)
product_inside a b c d k j x y h i =
    let m = mul_lo a b c d in
    let n = mul_hi a b c d in
    let l = is_least (a *ℤ c) (a *ℤ d) (b *ℤ c) (b *ℤ d) in
    let g = is_greatest (a *ℤ c) (a *ℤ d) (b *ℤ c) (b *ℤ d) in (
      product_above (a *ℤ pos k) (b *ℤ pos k) (c *ℤ pos j) (d *ℤ pos j) x y (m *ℤ pos (k * j)) h.0 h.1 i.0 i.1 (at_lo m a c k j l.first) (at_lo m a d k j l.second) (at_lo m b c k j l.third) (at_lo m b d k j l.fourth),
      product_below (a *ℤ pos k) (b *ℤ pos k) (c *ℤ pos j) (d *ℤ pos j) x y (n *ℤ pos (k * j)) h.0 h.1 i.0 i.1 (at_hi n a c k j g.first) (at_hi n a d k j g.second) (at_hi n b c k j g.third) (at_hi n b d k j g.fourth),
    )

-- ---- multiples: (a f) k = (a k) f
multiple_lo : (m a f : ℤ) (k : ℕ) (x : ℤ) → m ≤ℤ (a *ℤ f) → ((a *ℤ pos k) *ℤ f) ≤ℤ (x *ℤ f) → (m *ℤ pos k) ≤ℤ (x *ℤ f)
multiple_lo m a f k x h i = ≤ℤ_trans (m *ℤ pos k) ((a *ℤ f) *ℤ pos k) (x *ℤ f) (mul_le_right_pos m (a *ℤ f) k h) (subst (λ z. z ≤ℤ (x *ℤ f)) (mul-turn a (pos k) f) i)

multiple_hi : (m a f : ℤ) (k : ℕ) (x : ℤ) → (a *ℤ f) ≤ℤ m → (x *ℤ f) ≤ℤ ((a *ℤ pos k) *ℤ f) → (x *ℤ f) ≤ℤ (m *ℤ pos k)
multiple_hi m a f k x h i = ≤ℤ_trans (x *ℤ f) ((a *ℤ f) *ℤ pos k) (m *ℤ pos k) (subst (λ z. (x *ℤ f) ≤ℤ z) (mul-turn a (pos k) f) i) (mul_le_right_pos (a *ℤ f) m k h)

self : (x : ℤ) → x ≤ℤ x
self x = omega (arith, ints)

pub multiple_inside : (a b f : ℤ) (k : ℕ) (x : ℤ) → Inside a b k x → Inside (scale_lo a b f) (scale_hi a b f) k (x *ℤ f)
multiple_inside a b f k x h =
    let m = scale_lo a b f in
    let n = scale_hi a b f in
    let l = ≤ℤ_min (a *ℤ f) (b *ℤ f) in
    let g = ≤ℤ_max (a *ℤ f) (b *ℤ f) in
    by_sign f
    (λ (p : pos 0 ≤ℤ f). (
      multiple_lo m a f k x ((l (a *ℤ f)).0 (self (a *ℤ f))) (mul_le_right (a *ℤ pos k) x f h.0 p),
      multiple_hi n b f k x ((g (b *ℤ f)).1 (self (b *ℤ f))) (mul_le_right x (b *ℤ pos k) f h.1 p),
    ))
    (λ (p : f ≤ℤ pos 0). (
      multiple_lo m b f k x ((l (b *ℤ f)).1 (self (b *ℤ f))) (mul_ge_right x (b *ℤ pos k) f h.1 p),
      multiple_hi n a f k x ((g (a *ℤ f)).0 (self (a *ℤ f))) (mul_ge_right (a *ℤ pos k) x f h.0 p),
    ))

-- ---- squares
times_positive : (a : ℤ) (k : ℕ) → pos 0 ≤ℤ a → pos 0 ≤ℤ (a *ℤ pos k)
times_positive a k p = omega (arith, ints, mul_le_right_pos (pos 0) a k p)

times_negative : (a : ℤ) (k : ℕ) → a ≤ℤ pos 0 → (a *ℤ pos k) ≤ℤ pos 0
times_negative a k p = omega (arith, ints, mul_le_right_pos a (pos 0) k p)

pub square_inside : (a b : ℤ) (k : ℕ) (x : ℤ) → Inside a b k x → Inside (square_lo a b) (square_hi a b) (k * k) (x *ℤ x)
square_inside a b k x h =
    let l : ℤ = int_min (a *ℤ a) (b *ℤ b) in
    let n : ℤ = square_hi a b in (
      by_straddle a b (λ v. (cond v (pos 0) l *ℤ pos (k * k)) ≤ℤ (x *ℤ x))
          (λ p q. omega (arith, ints, square_nonneg x))
          (λ (p : pos 0 ≤ℤ a). ≤ℤ_trans (l *ℤ pos (k * k)) ((a *ℤ pos k) *ℤ (a *ℤ pos k)) (x *ℤ x)
          (at_lo l a a k k ((≤ℤ_min (a *ℤ a) (b *ℤ b) (a *ℤ a)).0 (self (a *ℤ a)))) (square_grows (a *ℤ pos k) x (times_positive a k p) h.0))
          (λ (p : b ≤ℤ pos 0). ≤ℤ_trans (l *ℤ pos (k * k)) ((b *ℤ pos k) *ℤ (b *ℤ pos k)) (x *ℤ x)
          (at_lo l b b k k ((≤ℤ_min (a *ℤ a) (b *ℤ b) (b *ℤ b)).1 (self (b *ℤ b)))) (square_falls x (b *ℤ pos k) h.1 (times_negative b k p))),
      by_sign x
          (λ (p : pos 0 ≤ℤ x). ≤ℤ_trans (x *ℤ x) ((b *ℤ pos k) *ℤ (b *ℤ pos k)) (n *ℤ pos (k * k)) (square_grows x (b *ℤ pos k) p h.1)
          (at_hi n b b k k ((≤ℤ_max (a *ℤ a) (b *ℤ b) (b *ℤ b)).1 (self (b *ℤ b)))))
          (λ (p : x ≤ℤ pos 0). ≤ℤ_trans (x *ℤ x) ((a *ℤ pos k) *ℤ (a *ℤ pos k)) (n *ℤ pos (k * k)) (square_falls (a *ℤ pos k) x h.0 p)
          (at_hi n a a k k ((≤ℤ_max (a *ℤ a) (b *ℤ b) (a *ℤ a)).0 (self (a *ℤ a))))),
    )

-- ---- quotients: q w and S n j times k
-- (q w) k = q (k w)
turn : (q : ℤ) (w k : ℕ) → (q *ℤ pos w) *ℤ pos k ≡ q *ℤ pos (k * w)
turn q w k = let e : w * k ≡ k * w = omega arith in mul-assoc_ℤ q (pos w) (pos k) ∙ ap (λ n. q *ℤ pos n) e

-- (n S) j k = (n k) (S j)
turn_scaled : (n : ℤ) (k j s : ℕ) → ((n *ℤ pos s) *ℤ pos j) *ℤ pos k ≡ (n *ℤ pos k) *ℤ pos (s * j)
turn_scaled n k j s = ap (λ z. z *ℤ pos k) (mul-assoc_ℤ n (pos s) (pos j)) ∙ mul-turn n (pos (s * j)) (pos k)

-- q e <= n s gives q (e j) <= (n s) j
widened_lo : (q e m : ℤ) (j : ℕ) → (q *ℤ e) ≤ℤ m → (q *ℤ (e *ℤ pos j)) ≤ℤ (m *ℤ pos j)
widened_lo q e m j h = subst (λ z. z ≤ℤ (m *ℤ pos j)) (mul-assoc_ℤ q e (pos j)) (mul_le_right_pos (q *ℤ e) m j h)

widened_hi : (q e m : ℤ) (j : ℕ) → m ≤ℤ (q *ℤ e) → (m *ℤ pos j) ≤ℤ (q *ℤ (e *ℤ pos j))
widened_hi q e m j h = subst (λ z. (m *ℤ pos j) ≤ℤ z) (mul-assoc_ℤ q e (pos j)) (mul_le_right_pos m (q *ℤ e) j h)

pub quotient_inside : (a b c d : ℤ) (k j w : ℕ) (x : ℤ) → pos 0 <ℤ c → c ≤ℤ d → Inside a b k x → Inside c d j (pos w) → Inside (quot_lo a c d) (quot_hi b c d) (k * w) (x *ℤ pos (2 ^ 30 * j))
quotient_inside a b c d k j w x cp cd h i =
    let q : ℤ = quot_lo a c d in
    let r : ℤ = quot_hi b c d in
    let lo = quot_lo-below a c d cp cd in
    let hi = quot_hi-above b c d cp cd in
    let f : (q *ℤ pos w) ≤ℤ (scaled a *ℤ pos j) = products_below q (c *ℤ pos j) (d *ℤ pos j) (pos w) (scaled a *ℤ pos j) i.0 i.1 (widened_lo q c (scaled a) j lo.0) (widened_lo q d (scaled a) j lo.1) in
    let g : (scaled b *ℤ pos j) ≤ℤ (r *ℤ pos w) = products_above r (c *ℤ pos j) (d *ℤ pos j) (pos w) (scaled b *ℤ pos j) i.0 i.1 (widened_hi r c (scaled b) j hi.0) (widened_hi r d (scaled b) j hi.1) in (
      ≤ℤ_trans (q *ℤ pos (k * w)) ((a *ℤ pos k) *ℤ pos (2 ^ 30 * j)) (x *ℤ pos (2 ^ 30 * j))
          (subst (λ z. z ≤ℤ ((a *ℤ pos k) *ℤ pos (2 ^ 30 * j))) (turn q w k) (subst (λ z. ((q *ℤ pos w) *ℤ pos k) ≤ℤ z) (turn_scaled a k j (2 ^ 30)) (mul_le_right_pos (q *ℤ pos w) (scaled a *ℤ pos j) k f)))
          (mul_le_right_pos (a *ℤ pos k) x (2 ^ 30 * j) h.0),
      ≤ℤ_trans (x *ℤ pos (2 ^ 30 * j)) ((b *ℤ pos k) *ℤ pos (2 ^ 30 * j)) (r *ℤ pos (k * w))
          (mul_le_right_pos x (b *ℤ pos k) (2 ^ 30 * j) h.1)
          (subst (λ z. ((b *ℤ pos k) *ℤ pos (2 ^ 30 * j)) ≤ℤ z) (turn r w k) (subst (λ z. z ≤ℤ ((r *ℤ pos w) *ℤ pos k)) (turn_scaled b k j (2 ^ 30)) (mul_le_right_pos (scaled b *ℤ pos j) (r *ℤ pos w) k g))),
    )

-- ---- fewer bits
pub narrowed_inside : (a b : ℤ) (bits k : ℕ) (x : ℤ) → Inside a b k x → Inside (narrow_lo a bits) (narrow_hi b bits) (k * 2 ^ bits) x
narrowed_inside a b bits k x h =
    let p : pos 0 <ℤ pos (2 ^ bits) = power_is_positive bits in (
      ≤ℤ_trans (narrow_lo a bits *ℤ pos (k * 2 ^ bits)) (a *ℤ pos k) x
          (subst (λ z. z ≤ℤ (a *ℤ pos k)) (turn (narrow_lo a bits) (2 ^ bits) k) (mul_le_right_pos (narrow_lo a bits *ℤ pos (2 ^ bits)) a k (floor-below a (pos (2 ^ bits)) p))) h.0,
      ≤ℤ_trans x (b *ℤ pos k) (narrow_hi b bits *ℤ pos (k * 2 ^ bits)) h.1
          (subst (λ z. (b *ℤ pos k) ≤ℤ z) (turn (narrow_hi b bits) (2 ^ bits) k) (mul_le_right_pos b (narrow_hi b bits *ℤ pos (2 ^ bits)) k (ceil-above b (pos (2 ^ bits)) p))),
    )

-- ---- roots: between the squares of both ends
pub root_inside : (a b r s : ℤ) (k : ℕ) (x : ℤ) → IsRootBelow r a → IsRootAbove s b → Inside a b k x → Inside (r *ℤ r) (s *ℤ s) k x
root_inside a b r s k x f g h = (
  ≤ℤ_trans ((r *ℤ r) *ℤ pos k) (a *ℤ pos k) x (mul_le_right_pos (r *ℤ r) a k f.1) h.0,
  ≤ℤ_trans x (b *ℤ pos k) ((s *ℤ s) *ℤ pos k) h.1 (mul_le_right_pos b (s *ℤ s) k g.1),
)

-- ---- the same of an interval that has these ends
with_ends : (lo hi : ℤ) (r : Iv) (k : ℕ) (x : ℤ) → r.lo ≡ lo → r.hi ≡ hi → Inside lo hi k x → Holds r k x
with_ends lo hi r k x e f h = rw (e, f) h

pub encloses-sum : (a b r : Iv) → r.lo ≡ a.lo +ℤ b.lo → r.hi ≡ a.hi +ℤ b.hi → EnclosesSum a b r
encloses-sum a b r e f k x y h i = with_ends (a.lo +ℤ b.lo) (a.hi +ℤ b.hi) r k (x +ℤ y) e f (sum_inside a.lo a.hi b.lo b.hi k x y h i)

pub encloses-difference : (a b r : Iv) → r.lo ≡ a.lo -ℤ b.hi → r.hi ≡ a.hi -ℤ b.lo → EnclosesDifference a b r
encloses-difference a b r e f k x y h i = with_ends (a.lo -ℤ b.hi) (a.hi -ℤ b.lo) r k (x -ℤ y) e f (difference_inside a.lo a.hi b.lo b.hi k x y h i)

pub encloses-product : (a b r : Iv) → r.lo ≡ mul_lo a.lo a.hi b.lo b.hi → r.hi ≡ mul_hi a.lo a.hi b.lo b.hi → EnclosesProduct a b r
encloses-product a b r e f k j x y h i = with_ends (mul_lo a.lo a.hi b.lo b.hi) (mul_hi a.lo a.hi b.lo b.hi) r (k * j) (x *ℤ y) e f (product_inside a.lo a.hi b.lo b.hi k j x y h i)

pub encloses-multiple : (a : Iv) (f : ℤ) (r : Iv) → r.lo ≡ scale_lo a.lo a.hi f → r.hi ≡ scale_hi a.lo a.hi f → EnclosesMultiple a f r
encloses-multiple a f r d e k x h = with_ends (scale_lo a.lo a.hi f) (scale_hi a.lo a.hi f) r k (x *ℤ f) d e (multiple_inside a.lo a.hi f k x h)

pub encloses-square : (a r : Iv) → r.lo ≡ square_lo a.lo a.hi → r.hi ≡ square_hi a.lo a.hi → EnclosesSquare a r
encloses-square a r e f k x h = with_ends (square_lo a.lo a.hi) (square_hi a.lo a.hi) r (k * k) (x *ℤ x) e f (square_inside a.lo a.hi k x h)

pub encloses-quotient : (n d r : Iv) → pos 0 <ℤ d.lo → r.lo ≡ quot_lo n.lo d.lo d.hi → r.hi ≡ quot_hi n.hi d.lo d.hi → EnclosesQuotient n d r
encloses-quotient n d r p e f k j w x h i = with_ends (quot_lo n.lo d.lo d.hi) (quot_hi n.hi d.lo d.hi) r (k * w) (x *ℤ pos (2 ^ 30 * j)) e f (quotient_inside n.lo n.hi d.lo d.hi k j w x p d.ordered h i)

pub encloses-narrowed : (a : Iv) (bits : ℕ) (r : Iv) → r.lo ≡ narrow_lo a.lo bits → r.hi ≡ narrow_hi a.hi bits → EnclosesNarrowed a bits r
encloses-narrowed a bits r e f k x h = with_ends (narrow_lo a.lo bits) (narrow_hi a.hi bits) r (k * 2 ^ bits) x e f (narrowed_inside a.lo a.hi bits k x h)

pub encloses-root : (a r : Iv) → IsRootBelow r.lo a.lo → IsRootAbove r.hi a.hi → EnclosesRoot a r
encloses-root a r f g = (f.0, (λ k x h. root_inside a.lo a.hi r.lo r.hi k x f g h))
