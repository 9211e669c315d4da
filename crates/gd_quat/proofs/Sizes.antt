-- How large the ends of results are.
use Rattle.std.proofs.Common.{◌≡◌, sym, ap, subst, ◌∙◌, ℕ, ◌*◌, ◌^◌, ◌≤◌, arith, unsigned_abs}
use Rattle.std.proofs.Math.Nat.{mul-le-mul}
use Rattle.std.proofs.lemmas.Int.{ints}
use Rattle.std.specs.Prelude.{ℤ, pos, neg_ℤ, ◌+ℤ◌, ◌*ℤ◌, ◌≤ℤ◌, ◌<ℤ◌}
use Rattle.gd_int.proofs.Integers.{neg-mul_left, ≤ℤ_trans}
use Rattle.gd_interval.proofs.Products.{mul_hi-reached, mul_lo-reached, scale_hi-reached, scale_lo-reached, square_hi-reached, square_lo-reached}
use Rattle.gd_interval.proofs.Quotients.{quot_hi-least, quot_lo-greatest, scaled}
use Rattle.gd_interval.specs.Formulas.{scale_lo, scale_hi, mul_lo, mul_hi, narrow_lo, narrow_hi, square_lo, square_hi, quot_lo, quot_hi}
use Rattle.gd_interval.specs.declared.iv.Iv.{Iv}
use Rattle.gd_quat.specs.Boxes.{Fits, MatrixFits, VectorFits}
use Rattle.gd_quat.specs.Formulas.{Ends, ends, matrix_ends, row_formula, row_sum_formula, sum, turned_formula, vector_ends}
use Rattle.gd_quat.specs.declared.shape.MatrixBox.{MatrixBox}
use Rattle.gd_quat.specs.declared.shape.VecBox.{VecBox}
use Rattle.gd_vec.specs.Vector.{IsWithin}
use Rattle.gd_vec.specs.declared.vector.V3.{V3}
use Rattle.gd_int.proofs.Divisions.{ceil-least, floor-greatest}
use Rattle.std.proofs.lemmas.Int.{unsigned_abs-mul}

between : (x a b : ℤ) (m : ℕ) → a ≤ℤ x → x ≤ℤ b → unsigned_abs a ≤ m → unsigned_abs b ≤ m → unsigned_abs x ≤ m
between x a b m h k f g = omega (arith, ints)

times : (x y : ℤ) (m n : ℕ) → unsigned_abs x ≤ m → unsigned_abs y ≤ n → unsigned_abs (x *ℤ y) ≤ m * n
times x y m n h k = rw (unsigned_abs-mul x y) (mul-le-mul h k)

pub square-fits : (a r : Iv) (m : ℕ) → Fits m a → r.lo ≡ square_lo a.lo a.hi → r.hi ≡ square_hi a.lo a.hi → Fits (m * m) r
square-fits a r m h e f = record {
  lo = rw e (square_lo-reached (λ v. unsigned_abs v ≤ m * m) a.lo a.hi a.ordered (λ x l u. times x x m m (between x a.lo a.hi m l u h.lo h.hi) (between x a.lo a.hi m l u h.lo h.hi)));
  hi = rw f (square_hi-reached (λ v. unsigned_abs v ≤ m * m) a.lo a.hi a.ordered (λ x l u. times x x m m (between x a.lo a.hi m l u h.lo h.hi) (between x a.lo a.hi m l u h.lo h.hi)));
}

pub product-fits : (a b r : Iv) (m n : ℕ) → Fits m a → Fits n b → r.lo ≡ mul_lo a.lo a.hi b.lo b.hi → r.hi ≡ mul_hi a.lo a.hi b.lo b.hi → Fits (m * n) r
product-fits a b r m n h k e f = record {
  lo = rw e (mul_lo-reached (λ v. unsigned_abs v ≤ m * n) a.lo a.hi b.lo b.hi a.ordered b.ordered (λ x y l u p q. times x y m n (between x a.lo a.hi m l u h.lo h.hi) (between y b.lo b.hi n p q k.lo k.hi)));
  hi = rw f (mul_hi-reached (λ v. unsigned_abs v ≤ m * n) a.lo a.hi b.lo b.hi a.ordered b.ordered (λ x y l u p q. times x y m n (between x a.lo a.hi m l u h.lo h.hi) (between y b.lo b.hi n p q k.lo k.hi)));
}

pub multiple-fits : (a r : Iv) (k : ℤ) (m n : ℕ) → Fits m a → unsigned_abs k ≤ n → r.lo ≡ scale_lo a.lo a.hi k → r.hi ≡ scale_hi a.lo a.hi k → Fits (m * n) r
multiple-fits a r k m n h i e f = record {
  lo = rw e (scale_lo-reached (λ v. unsigned_abs v ≤ m * n) a.lo a.hi k a.ordered (λ x l u. times x k m n (between x a.lo a.hi m l u h.lo h.hi) i));
  hi = rw f (scale_hi-reached (λ v. unsigned_abs v ≤ m * n) a.lo a.hi k a.ordered (λ x l u. times x k m n (between x a.lo a.hi m l u h.lo h.hi) i));
}

-- a numerator within 2^62 over a sum of at least 2^60 is within 2^32
up : (n d : ℤ) → neg_ℤ (pos (2 ^ 62)) ≤ℤ n → pos (2 ^ 60) ≤ℤ d → (neg_ℤ (pos (2 ^ 32)) *ℤ d) ≤ℤ scaled n
up n d h k = omega (arith, ints, neg-mul_left (pos (2 ^ 32)) d)

down : (n d : ℤ) → n ≤ℤ pos (2 ^ 62) → pos (2 ^ 60) ≤ℤ d → scaled n ≤ℤ (pos (2 ^ 32) *ℤ d)
down n d h k = omega (arith, ints)

pub quotient-fits : (n d r : Iv) → Fits (2 ^ 62) n → pos (2 ^ 60) ≤ℤ d.lo → r.lo ≡ quot_lo n.lo d.lo d.hi → r.hi ≡ quot_hi n.hi d.lo d.hi → Fits (2 ^ 32) r
quotient-fits n d r h k e f =
    let p : pos 0 <ℤ d.lo = omega (arith, ints) in
    let top : pos (2 ^ 60) ≤ℤ d.hi = ≤ℤ_trans (pos (2 ^ 60)) d.lo d.hi k d.ordered in
    let nl : neg_ℤ (pos (2 ^ 62)) ≤ℤ n.lo = below n.lo h.lo in
    let nh : n.hi ≤ℤ pos (2 ^ 62) = above n.hi h.hi in
    let lo : neg_ℤ (pos (2 ^ 32)) ≤ℤ r.lo = rw e (quot_lo-greatest n.lo d.lo d.hi (neg_ℤ (pos (2 ^ 32))) p d.ordered (up n.lo d.lo nl k) (up n.lo d.hi nl top)) in
    let hi : r.hi ≤ℤ pos (2 ^ 32) = rw f (quot_hi-least n.hi d.lo d.hi (pos (2 ^ 32)) p d.ordered (down n.hi d.lo nh k) (down n.hi d.hi nh top)) in
    let o : r.lo ≤ℤ r.hi = r.ordered in
    record { lo = inside r.lo r.hi lo hi o; hi = inside' r.lo r.hi lo hi o }
  where
    below : (z : ℤ) → unsigned_abs z ≤ 2 ^ 62 → neg_ℤ (pos (2 ^ 62)) ≤ℤ z
    below z h = omega (arith, ints)

    above : (z : ℤ) → unsigned_abs z ≤ 2 ^ 62 → z ≤ℤ pos (2 ^ 62)
    above z h = omega (arith, ints)

    inside : (a b : ℤ) → neg_ℤ (pos (2 ^ 32)) ≤ℤ a → b ≤ℤ pos (2 ^ 32) → a ≤ℤ b → unsigned_abs a ≤ 2 ^ 32
    inside a b h k o = omega (arith, ints)

    inside' : (a b : ℤ) → neg_ℤ (pos (2 ^ 32)) ≤ℤ a → b ≤ℤ pos (2 ^ 32) → a ≤ℤ b → unsigned_abs b ≤ 2 ^ 32
    inside' a b h k o = omega (arith, ints)

-- ---- the ends of a sum of intervals whose ends are known
pub ends-are : (r : Iv) (e : Ends) → r.lo ≡ e.lo → r.hi ≡ e.hi → ends r ≡ e
ends-are r e h k = ap (λ z. with_lo z r.hi) h ∙ ap (λ z. with_lo e.lo z) k
  where
    with_lo : ℤ → ℤ → Ends
    with_lo a b = record { lo = a; hi = b }

pub ends-sum : (a b r : Iv) (x y : Ends) → ends a ≡ x → ends b ≡ y → r.lo ≡ a.lo +ℤ b.lo → r.hi ≡ a.hi +ℤ b.hi → ends r ≡ sum x y
ends-sum a b r x y d e h k = ends-are r (sum x y) (h ∙ ap (λ z. z.lo +ℤ b.lo) d ∙ ap (λ z. x.lo +ℤ z.lo) e) (k ∙ ap (λ z. z.hi +ℤ b.hi) d ∙ ap (λ z. x.hi +ℤ z.hi) e)

-- ---- a turned vector: entries within 2^32 and coordinates within n give 3 times 2^18 n
ends-fit : (a : Iv) (k : ℤ) (m n : ℕ) → Fits m a → unsigned_abs k ≤ n → (unsigned_abs (scale_lo a.lo a.hi k) ≤ m * n) × (unsigned_abs (scale_hi a.lo a.hi k) ≤ m * n)
ends-fit a k m n h i = (
  scale_lo-reached (λ v. unsigned_abs v ≤ m * n) a.lo a.hi k a.ordered (λ x l u. times x k m n (between x a.lo a.hi m l u h.lo h.hi) i),
  scale_hi-reached (λ v. unsigned_abs v ≤ m * n) a.lo a.hi k a.ordered (λ x l u. times x k m n (between x a.lo a.hi m l u h.lo h.hi) i),
)

row-small : (m : VecBox) (v : V3) (r : Iv) (n : ℕ) → ends r ≡ row_formula (vector_ends m) v → VectorFits (2 ^ 32) m → IsWithin n v → Fits (3 * 2 ^ 18 * n) r
row-small m v r n e h i =
    let s : Ends = row_sum_formula (vector_ends m) v in
    let x = ends-fit m.x v.x (2 ^ 32) n h.x i.x in
    let y = ends-fit m.y v.y (2 ^ 32) n h.y i.y in
    let z = ends-fit m.z v.z (2 ^ 32) n h.z i.z in
    let b : ℕ = 3 * 2 ^ 18 * n in
    let lo : neg_ℤ (pos b) ≤ℤ narrow_lo s.lo 14 = floor-greatest s.lo (pos (2 ^ 14)) (neg_ℤ (pos b)) p (low (scale_lo m.x.lo m.x.hi v.x) (scale_lo m.y.lo m.y.hi v.y) (scale_lo m.z.lo m.z.hi v.z) x.0 y.0 z.0) in
    let hi : narrow_hi s.hi 14 ≤ℤ pos b = ceil-least s.hi (pos (2 ^ 14)) (pos b) p (high (scale_hi m.x.lo m.x.hi v.x) (scale_hi m.y.lo m.y.hi v.y) (scale_hi m.z.lo m.z.hi v.z) x.1 y.1 z.1) in
    let l : neg_ℤ (pos b) ≤ℤ r.lo = subst (λ t. neg_ℤ (pos b) ≤ℤ t.lo) (sym e) lo in
    let u : r.hi ≤ℤ pos b = subst (λ t. t.hi ≤ℤ pos b) (sym e) hi in
    record { lo = inside r.lo r.hi b l u r.ordered; hi = inside' r.lo r.hi b l u r.ordered }
  where
    p : pos 0 <ℤ pos (2 ^ 14)
    p = omega (arith, ints)

    low : (x y z : ℤ) → unsigned_abs x ≤ 2 ^ 32 * n → unsigned_abs y ≤ 2 ^ 32 * n → unsigned_abs z ≤ 2 ^ 32 * n → (neg_ℤ (pos (3 * 2 ^ 18 * n)) *ℤ pos (2 ^ 14)) ≤ℤ ((x +ℤ y) +ℤ z)
    low x y z h i j = omega (arith, ints)

    high : (x y z : ℤ) → unsigned_abs x ≤ 2 ^ 32 * n → unsigned_abs y ≤ 2 ^ 32 * n → unsigned_abs z ≤ 2 ^ 32 * n → ((x +ℤ y) +ℤ z) ≤ℤ (pos (3 * 2 ^ 18 * n) *ℤ pos (2 ^ 14))
    high x y z h i j = omega (arith, ints)

    inside : (a c : ℤ) (b : ℕ) → neg_ℤ (pos b) ≤ℤ a → c ≤ℤ pos b → a ≤ℤ c → unsigned_abs a ≤ b
    inside a c b h k o = omega (arith, ints)

    inside' : (a c : ℤ) (b : ℕ) → neg_ℤ (pos b) ≤ℤ a → c ≤ℤ pos b → a ≤ℤ c → unsigned_abs c ≤ b
    inside' a c b h k o = omega (arith, ints)

pub small-turned : (m : MatrixBox) (v : V3) (r : VecBox) → vector_ends r ≡ turned_formula (matrix_ends m) v → (n : ℕ) → MatrixFits (2 ^ 32) m → IsWithin n v → VectorFits (3 * 2 ^ 18 * n) r
small-turned m v r e n h i = record {
  x = row-small m.x v r.x n (ap (λ z. z.x) e) h.x i;
  y = row-small m.y v r.y n (ap (λ z. z.y) e) h.y i;
  z = row-small m.z v r.z n (ap (λ z. z.z) e) h.z i;
}
