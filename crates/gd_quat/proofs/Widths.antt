-- How wide the entries of matrices and of turned vectors are.
use Rattle.std.proofs.Common.{◌≡◌, refl, sym, ap, subst, ℕ, ◌+◌, ◌*◌, ◌^◌, ◌≤◌, [], ◌∷◌, arith, unsigned_abs, inl, inr}
use Rattle.std.proofs.lemmas.Int.{ints}
use Rattle.std.specs.Prelude.{ℤ, pos, neg_ℤ, ◌+ℤ◌, ◌-ℤ◌, ◌*ℤ◌, ◌≤ℤ◌, ◌<ℤ◌, ◌⊎◌}
use Rattle.gd_int.proofs.Integers.{mul_le_right, mul_le_left, mul_le_out, mul_comm_ℤ, square_nonneg, ≤ℤ_trans}
use Rattle.gd_int.proofs.Divisions.{floor-next, ceil-before}
use Rattle.gd_interval.proofs.Products.{mul_hi-above, mul_lo-below, scale_hi-above, scale_lo-below, square-ordered, square_hi-above, square_lo-reached}
use Rattle.gd_interval.proofs.Widths.{multiple-width, product-width, quotient-width, square-width}
use Rattle.gd_interval.proofs.Wholes.{power_is_positive}
use Rattle.gd_interval.specs.Formulas.{mul_lo, mul_hi, narrow_lo, narrow_hi, scale_lo, scale_hi, quot_lo, quot_hi, square_hi, square_lo}
use Rattle.gd_interval.specs.Interval.{IsWithin}
use Rattle.gd_interval.specs.declared.iv.Iv.{Iv}
use Rattle.gd_quat.proofs.Encloses.{norm-large}
use Rattle.gd_quat.proofs.Polynomials.{var, num, ◌⊕◌, ◌⊖◌, ◌⊗◌, equal}
use Rattle.gd_quat.specs.Boxes.{Fits, IsNarrow, IsOne, IsRotationBox, MatrixWidth, TurnedWidth, VectorWidth, width_of}
use Rattle.gd_quat.specs.Formulas.{Ends, MatrixEnds, balance, ends, matrix_ends, matrix_formula, multiple, norm_ends, numerator_ends, product, quotient, rotation_ends, row_formula, row_sum_formula, square, turned_formula, twice_difference, twice_sum, vector_ends}
use Rattle.gd_quat.specs.declared.shape.MatrixBox.{MatrixBox}
use Rattle.gd_quat.specs.declared.shape.RotationBox.{RotationBox}
use Rattle.gd_quat.specs.declared.shape.VecBox.{VecBox}
use Rattle.gd_vec.specs.Vector.{norm_sum_of}
use Rattle.gd_vec.specs.declared.vector.V3.{V3}

abbrev width : Ends → ℤ
width a = a.hi -ℤ a.lo

-- ---- an entry: a numerator and a sum of squares, each at most 6 w wide times 2^30, give a quotient at most 12 w + 2 wide
twelve : (n d : Ends) (w : ℕ) → width n ≤ℤ pos (6 * 2 ^ 30 * w) → width d ≤ℤ pos (6 * 2 ^ 30 * w) → ((width n +ℤ pos 1 *ℤ width d) *ℤ pos (2 ^ 30)) ≤ℤ pos (12 * w * 2 ^ 60)
twelve n d w h k =
    let s : (width n +ℤ pos 1 *ℤ width d) ≤ℤ pos (12 * 2 ^ 30 * w) = omega (arith, ints) in
    let t = mul_le_right (width n +ℤ pos 1 *ℤ width d) (pos (12 * 2 ^ 30 * w)) (pos (2 ^ 30)) s (omega (arith, ints)) in
    let e : 12 * 2 ^ 30 * w * 2 ^ 30 ≡ 12 * w * 2 ^ 60 = omega arith in
    subst (λ z. ((width n +ℤ pos 1 *ℤ width d) *ℤ pos (2 ^ 30)) ≤ℤ pos z) e t

entry-width : (r : Iv) (n d : Ends) (w : ℕ) → ends r ≡ quotient n d → n.lo ≤ℤ n.hi → d.lo ≤ℤ d.hi → pos (2 ^ 60) ≤ℤ d.lo → n.lo ≤ℤ d.hi → neg_ℤ n.hi ≤ℤ d.hi
    → width n ≤ℤ pos (6 * 2 ^ 30 * w) → width d ≤ℤ pos (6 * 2 ^ 30 * w) → width_of r ≤ℤ pos (12 * w + 2)
entry-width r n d w e on od large below above nw dw =
    let x : ℤ = (quot_hi n.hi d.lo d.hi -ℤ quot_lo n.lo d.lo d.hi) -ℤ pos 2 in
    let p : pos 0 <ℤ d.lo = omega (arith, ints) in
    let q = quotient-width n.lo n.hi d.lo d.hi 1 on p od (omega (arith, ints)) (omega (arith, ints)) in
    let a : (x *ℤ d.lo) ≤ℤ pos (12 * w * 2 ^ 60) = ≤ℤ_trans (x *ℤ d.lo) ((width n +ℤ pos 1 *ℤ width d) *ℤ pos (2 ^ 30)) (pos (12 * w * 2 ^ 60)) q (twelve n d w nw dw) in
    let b : pos (12 * w * 2 ^ 60) ≤ℤ (pos (12 * w) *ℤ d.lo) = mul_le_left (pos (2 ^ 60)) d.lo (pos (12 * w)) large (omega (arith, ints)) in
    let c : x ≤ℤ pos (12 * w) = mul_le_out x (pos (12 * w)) d.lo p (≤ℤ_trans (x *ℤ d.lo) (pos (12 * w * 2 ^ 60)) (pos (12 * w) *ℤ d.lo) a b) in
    subst (λ z. (z.hi -ℤ z.lo) ≤ℤ pos (12 * w + 2)) (sym e) (back (quot_hi n.hi d.lo d.hi) (quot_lo n.lo d.lo d.hi) w c)
  where
    back : (u v : ℤ) (w : ℕ) → ((u -ℤ v) -ℤ pos 2) ≤ℤ pos (12 * w) → (u -ℤ v) ≤ℤ pos (12 * w + 2)
    back u v w h = omega (arith, ints)

-- 2 x y and -2 x y are at most x^2 + y^2
twice-below : (x y : ℤ) → (pos 2 *ℤ (x *ℤ y)) ≤ℤ (x *ℤ x +ℤ y *ℤ y)
twice-below x y =
    let s : pos 0 ≤ℤ ((x -ℤ y) *ℤ (x -ℤ y)) = square_nonneg (x -ℤ y) in
    let e : (x -ℤ y) *ℤ (x -ℤ y) ≡ (x *ℤ x +ℤ y *ℤ y) -ℤ pos 2 *ℤ (x *ℤ y) =
    equal (x ∷ y ∷ []) ((var 0 ⊖ var 1) ⊗ (var 0 ⊖ var 1)) ((var 0 ⊗ var 0 ⊕ var 1 ⊗ var 1) ⊖ num (pos 2) ⊗ (var 0 ⊗ var 1)) refl in
    omega (arith, ints, e, s)

twice-above : (x y : ℤ) → neg_ℤ (x *ℤ x +ℤ y *ℤ y) ≤ℤ (pos 2 *ℤ (x *ℤ y))
twice-above x y =
    let s : pos 0 ≤ℤ ((x +ℤ y) *ℤ (x +ℤ y)) = square_nonneg (x +ℤ y) in
    let e : (x +ℤ y) *ℤ (x +ℤ y) ≡ (x *ℤ x +ℤ y *ℤ y) +ℤ pos 2 *ℤ (x *ℤ y) =
    equal (x ∷ y ∷ []) ((var 0 ⊕ var 1) ⊗ (var 0 ⊕ var 1)) ((var 0 ⊗ var 0 ⊕ var 1 ⊗ var 1) ⊕ num (pos 2) ⊗ (var 0 ⊗ var 1)) refl in
    omega (arith, ints, e, s)

-- the ends of a product of components, doubled, against the squares
record ProductFacts (a c : Iv) : Type 0 where
  low : (pos 2 *ℤ mul_lo a.lo a.hi c.lo c.hi) ≤ℤ (square_hi a.lo a.hi +ℤ square_hi c.lo c.hi)
  high : neg_ℤ (square_hi a.lo a.hi +ℤ square_hi c.lo c.hi) ≤ℤ (pos 2 *ℤ mul_hi a.lo a.hi c.lo c.hi)
  ordered : mul_lo a.lo a.hi c.lo c.hi ≤ℤ mul_hi a.lo a.hi c.lo c.hi
  narrow : (mul_hi a.lo a.hi c.lo c.hi -ℤ mul_lo a.lo a.hi c.lo c.hi) ≤ℤ (pos (2 ^ 30) *ℤ (width_of a +ℤ width_of c))

within : (a : Iv) → Fits (2 ^ 30) a → IsWithin a.lo a.hi (pos (2 ^ 30))
within a h = (low a.lo h.lo, high a.hi h.hi)
  where
    low : (z : ℤ) → unsigned_abs z ≤ 2 ^ 30 → neg_ℤ (pos (2 ^ 30)) ≤ℤ z
    low z h = omega (arith, ints)

    high : (z : ℤ) → unsigned_abs z ≤ 2 ^ 30 → z ≤ℤ pos (2 ^ 30)
    high z h = omega (arith, ints)

self : (z : ℤ) → z ≤ℤ z
self z = omega (arith, ints)

product-facts : (a c : Iv) → Fits (2 ^ 30) a → Fits (2 ^ 30) c → ProductFacts a c
product-facts a c h k =
    let pl : mul_lo a.lo a.hi c.lo c.hi ≤ℤ (a.lo *ℤ c.lo) = mul_lo-below a.lo a.hi c.lo c.hi a.lo c.lo (self a.lo) a.ordered (self c.lo) c.ordered in
    let ph : (a.lo *ℤ c.lo) ≤ℤ mul_hi a.lo a.hi c.lo c.hi = mul_hi-above a.lo a.hi c.lo c.hi a.lo c.lo (self a.lo) a.ordered (self c.lo) c.ordered in
    let sa : (a.lo *ℤ a.lo) ≤ℤ square_hi a.lo a.hi = square_hi-above a.lo a.hi a.lo (self a.lo) a.ordered in
    let sc : (c.lo *ℤ c.lo) ≤ℤ square_hi c.lo c.hi = square_hi-above c.lo c.hi c.lo (self c.lo) c.ordered in
    record {
      low = join (mul_lo a.lo a.hi c.lo c.hi) (a.lo *ℤ c.lo) (a.lo *ℤ a.lo) (c.lo *ℤ c.lo) (square_hi a.lo a.hi) (square_hi c.lo c.hi) pl (twice-below a.lo c.lo) sa sc;
      high = join' (mul_hi a.lo a.hi c.lo c.hi) (a.lo *ℤ c.lo) (a.lo *ℤ a.lo) (c.lo *ℤ c.lo) (square_hi a.lo a.hi) (square_hi c.lo c.hi) ph (twice-above a.lo c.lo) sa sc;
      ordered = ≤ℤ_trans (mul_lo a.lo a.hi c.lo c.hi) (a.lo *ℤ c.lo) (mul_hi a.lo a.hi c.lo c.hi) pl ph;
      narrow = spread (mul_hi a.lo a.hi c.lo c.hi) (mul_lo a.lo a.hi c.lo c.hi) (width_of a) (width_of c) (product-width a.lo a.hi c.lo c.hi (pos (2 ^ 30)) (pos (2 ^ 30)) a.ordered c.ordered (within a h) (within c k));
    }
  where
    join : (p x s t u v : ℤ) → p ≤ℤ x → (pos 2 *ℤ x) ≤ℤ (s +ℤ t) → s ≤ℤ u → t ≤ℤ v → (pos 2 *ℤ p) ≤ℤ (u +ℤ v)
    join p x s t u v a b c d = omega (arith, ints)

    join' : (p x s t u v : ℤ) → x ≤ℤ p → neg_ℤ (s +ℤ t) ≤ℤ (pos 2 *ℤ x) → s ≤ℤ u → t ≤ℤ v → neg_ℤ (u +ℤ v) ≤ℤ (pos 2 *ℤ p)
    join' p x s t u v a b c d = omega (arith, ints)

    spread : (u l x y : ℤ) → (u -ℤ l) ≤ℤ (pos (2 ^ 30) *ℤ y +ℤ pos (2 ^ 30) *ℤ x) → (u -ℤ l) ≤ℤ (pos (2 ^ 30) *ℤ (x +ℤ y))
    spread u l x y h = omega (arith, ints)

record SquareFacts (a : Iv) : Type 0 where
  positive : pos 0 ≤ℤ square_lo a.lo a.hi
  ordered : square_lo a.lo a.hi ≤ℤ square_hi a.lo a.hi
  narrow : (square_hi a.lo a.hi -ℤ square_lo a.lo a.hi) ≤ℤ (pos (2 ^ 31) *ℤ width_of a)

square-facts : (a : Iv) → Fits (2 ^ 30) a → SquareFacts a
square-facts a h = record {
  positive = square_lo-reached (λ v. pos 0 ≤ℤ v) a.lo a.hi a.ordered (λ x l u. square_nonneg x);
  ordered = square-ordered a.lo a.hi a.ordered;
  narrow = square-width a.lo a.hi (pos (2 ^ 30)) a.ordered (within a h);
}

-- one component has no width, and the three others have at most w each
sum-narrow : (b : RotationBox) (w : ℕ) → IsRotationBox b → IsNarrow w b → ((width_of b.q0 +ℤ width_of b.q1) +ℤ (width_of b.q2 +ℤ width_of b.q3)) ≤ℤ pos (3 * w)
sum-narrow b w h n = cases h.leads
  where
    none : (a : Iv) → IsOne a → width_of a ≡ pos 0
    none a i = rw (i.0, i.1) refl

    cases : IsOne b.q0 ⊎ (IsOne b.q1 ⊎ (IsOne b.q2 ⊎ IsOne b.q3)) → ((width_of b.q0 +ℤ width_of b.q1) +ℤ (width_of b.q2 +ℤ width_of b.q3)) ≤ℤ pos (3 * w)
    cases (inl i) = omega (arith, ints, none b.q0 i, n.q1, n.q2, n.q3)
    cases (inr (inl i)) = omega (arith, ints, none b.q1 i, n.q0, n.q2, n.q3)
    cases (inr (inr (inl i))) = omega (arith, ints, none b.q2 i, n.q0, n.q1, n.q3)
    cases (inr (inr (inr i))) = omega (arith, ints, none b.q3 i, n.q0, n.q1, n.q2)

-- what an entry's numerator needs
record Numerator (n d : Ends) (w : ℕ) : Type 0 where
  ordered : n.lo ≤ℤ n.hi
  below : n.lo ≤ℤ d.hi
  above : neg_ℤ n.hi ≤ℤ d.hi
  narrow : width n ≤ℤ pos (6 * 2 ^ 30 * w)

-- the sum of the squares of four components in the order in which they come
abbrev Total : Iv → Iv → Iv → Iv → ℤ
Total a c d e = (square_hi a.lo a.hi +ℤ square_hi c.lo c.hi) +ℤ (square_hi d.lo d.hi +ℤ square_hi e.lo e.hi)

numerator : (n d : Ends) (w : ℕ) → (n.lo ≤ℤ n.hi) × (n.lo ≤ℤ d.hi) × (neg_ℤ n.hi ≤ℤ d.hi) × (width n ≤ℤ pos (6 * 2 ^ 30 * w)) → Numerator n d w
numerator n d w h = record { ordered = h.0; below = h.1; above = h.2; narrow = h.3 }

balanced : (a c d e : Iv) (n : Ends) (w : ℕ) → Fits (2 ^ 30) a → Fits (2 ^ 30) c → Fits (2 ^ 30) d → Fits (2 ^ 30) e → Total a c d e ≤ℤ n.hi
    → ((width_of a +ℤ width_of c) +ℤ (width_of d +ℤ width_of e)) ≤ℤ pos (3 * w) → Numerator (balance (square (ends a)) (square (ends c)) (square (ends d)) (square (ends e))) n w
balanced a c d e n w ha hc hd he t s =
    let fa = square-facts a ha in
    let fc = square-facts c hc in
    let fd = square-facts d hd in
    let fe = square-facts e he in
    numerator (balance (square (ends a)) (square (ends c)) (square (ends d)) (square (ends e))) n w
    (core (square_lo a.lo a.hi) (square_hi a.lo a.hi) (square_lo c.lo c.hi) (square_hi c.lo c.hi) (square_lo d.lo d.hi) (square_hi d.lo d.hi) (square_lo e.lo e.hi) (square_hi e.lo e.hi)
    (width_of a) (width_of c) (width_of d) (width_of e) n.hi w fa.positive fc.positive fd.positive fe.positive fa.ordered fc.ordered fd.ordered fe.ordered fa.narrow fc.narrow fd.narrow fe.narrow t s)
  where
    core : (al ah cl ch dl dh el eh wa wc wd we n : ℤ) (w : ℕ) → pos 0 ≤ℤ al → pos 0 ≤ℤ cl → pos 0 ≤ℤ dl → pos 0 ≤ℤ el → al ≤ℤ ah → cl ≤ℤ ch → dl ≤ℤ dh → el ≤ℤ eh
        → (ah -ℤ al) ≤ℤ (pos (2 ^ 31) *ℤ wa) → (ch -ℤ cl) ≤ℤ (pos (2 ^ 31) *ℤ wc) → (dh -ℤ dl) ≤ℤ (pos (2 ^ 31) *ℤ wd) → (eh -ℤ el) ≤ℤ (pos (2 ^ 31) *ℤ we)
        → ((ah +ℤ ch) +ℤ (dh +ℤ eh)) ≤ℤ n → ((wa +ℤ wc) +ℤ (wd +ℤ we)) ≤ℤ pos (3 * w)
        → (((al +ℤ cl) -ℤ (dh +ℤ eh)) ≤ℤ ((ah +ℤ ch) -ℤ (dl +ℤ el))) × (((al +ℤ cl) -ℤ (dh +ℤ eh)) ≤ℤ n) × (neg_ℤ ((ah +ℤ ch) -ℤ (dl +ℤ el)) ≤ℤ n)
        × ((((ah +ℤ ch) -ℤ (dl +ℤ el)) -ℤ ((al +ℤ cl) -ℤ (dh +ℤ eh))) ≤ℤ pos (6 * 2 ^ 30 * w))
    core al ah cl ch dl dh el eh wa wc wd we n w a c d e oa oc od oe na nc nd ne t s = (omega (arith, ints), omega (arith, ints), omega (arith, ints), omega (arith, ints))

-- twice a sum or a difference that lies from x to y
doubled : (x y n : ℤ) (w : ℕ) → x ≤ℤ y → (x *ℤ pos 2) ≤ℤ n → neg_ℤ (y *ℤ pos 2) ≤ℤ n → (y -ℤ x) ≤ℤ pos (3 * 2 ^ 30 * w) → (d : Ends) → d.hi ≡ n → Numerator (multiple (record { lo = x; hi = y }) (pos 2)) d w
doubled x y n w o h k s d e =
    let l : scale_lo x y (pos 2) ≤ℤ (x *ℤ pos 2) = scale_lo-below x y (pos 2) x (self x) o in
    let u : (y *ℤ pos 2) ≤ℤ scale_hi x y (pos 2) = scale_hi-above x y (pos 2) y o (self y) in
    let v : scale_hi x y (pos 2) -ℤ scale_lo x y (pos 2) ≡ pos 2 *ℤ (y -ℤ x) = multiple-width x y (pos 2) o in
    numerator (multiple (record { lo = x; hi = y }) (pos 2)) d w
    (subst (λ z. (scale_lo x y (pos 2) ≤ℤ scale_hi x y (pos 2)) × (scale_lo x y (pos 2) ≤ℤ z) × (neg_ℤ (scale_hi x y (pos 2)) ≤ℤ z) × ((scale_hi x y (pos 2) -ℤ scale_lo x y (pos 2)) ≤ℤ pos (6 * 2 ^ 30 * w))) (sym e)
    (core (scale_lo x y (pos 2)) (scale_hi x y (pos 2)) l u v))
  where
    core : (a b : ℤ) → a ≤ℤ (x *ℤ pos 2) → (y *ℤ pos 2) ≤ℤ b → b -ℤ a ≡ pos 2 *ℤ (y -ℤ x) → (a ≤ℤ b) × (a ≤ℤ n) × (neg_ℤ b ≤ℤ n) × ((b -ℤ a) ≤ℤ pos (6 * 2 ^ 30 * w))
    core a b l u v = (omega (arith, ints), omega (arith, ints), omega (arith, ints), omega (arith, ints))

summed : (a c d e : Iv) (n : Ends) (w : ℕ) → Fits (2 ^ 30) a → Fits (2 ^ 30) c → Fits (2 ^ 30) d → Fits (2 ^ 30) e → Total a c d e ≤ℤ n.hi
    → ((width_of a +ℤ width_of c) +ℤ (width_of d +ℤ width_of e)) ≤ℤ pos (3 * w) → Numerator (twice_sum (product (ends a) (ends c)) (product (ends d) (ends e))) n w
summed a c d e n w ha hc hd he t s =
    let f = product-facts a c ha hc in
    let g = product-facts d e hd he in
    let k = core (mul_lo a.lo a.hi c.lo c.hi) (mul_hi a.lo a.hi c.lo c.hi) (mul_lo d.lo d.hi e.lo e.hi) (mul_hi d.lo d.hi e.lo e.hi) (square_hi a.lo a.hi) (square_hi c.lo c.hi) (square_hi d.lo d.hi) (square_hi e.lo e.hi)
    (width_of a) (width_of c) (width_of d) (width_of e) n.hi w f.low f.high g.low g.high f.ordered g.ordered f.narrow g.narrow t s in
    doubled (mul_lo a.lo a.hi c.lo c.hi +ℤ mul_lo d.lo d.hi e.lo e.hi) (mul_hi a.lo a.hi c.lo c.hi +ℤ mul_hi d.lo d.hi e.lo e.hi) n.hi w k.0 k.1 k.2 k.3 n refl
  where
    core : (pl ph rl rh a c d e wa wc wd we n : ℤ) (w : ℕ) → (pos 2 *ℤ pl) ≤ℤ (a +ℤ c) → neg_ℤ (a +ℤ c) ≤ℤ (pos 2 *ℤ ph) → (pos 2 *ℤ rl) ≤ℤ (d +ℤ e) → neg_ℤ (d +ℤ e) ≤ℤ (pos 2 *ℤ rh)
        → pl ≤ℤ ph → rl ≤ℤ rh → (ph -ℤ pl) ≤ℤ (pos (2 ^ 30) *ℤ (wa +ℤ wc)) → (rh -ℤ rl) ≤ℤ (pos (2 ^ 30) *ℤ (wd +ℤ we)) → ((a +ℤ c) +ℤ (d +ℤ e)) ≤ℤ n → ((wa +ℤ wc) +ℤ (wd +ℤ we)) ≤ℤ pos (3 * w)
        → ((pl +ℤ rl) ≤ℤ (ph +ℤ rh)) × (((pl +ℤ rl) *ℤ pos 2) ≤ℤ n) × (neg_ℤ ((ph +ℤ rh) *ℤ pos 2) ≤ℤ n) × (((ph +ℤ rh) -ℤ (pl +ℤ rl)) ≤ℤ pos (3 * 2 ^ 30 * w))
    core pl ph rl rh a c d e wa wc wd we n w h i j k o q u v t s = (omega (arith, ints), omega (arith, ints), omega (arith, ints), omega (arith, ints))

subtracted : (a c d e : Iv) (n : Ends) (w : ℕ) → Fits (2 ^ 30) a → Fits (2 ^ 30) c → Fits (2 ^ 30) d → Fits (2 ^ 30) e → Total a c d e ≤ℤ n.hi
    → ((width_of a +ℤ width_of c) +ℤ (width_of d +ℤ width_of e)) ≤ℤ pos (3 * w) → Numerator (twice_difference (product (ends a) (ends c)) (product (ends d) (ends e))) n w
subtracted a c d e n w ha hc hd he t s =
    let f = product-facts a c ha hc in
    let g = product-facts d e hd he in
    let k = core (mul_lo a.lo a.hi c.lo c.hi) (mul_hi a.lo a.hi c.lo c.hi) (mul_lo d.lo d.hi e.lo e.hi) (mul_hi d.lo d.hi e.lo e.hi) (square_hi a.lo a.hi) (square_hi c.lo c.hi) (square_hi d.lo d.hi) (square_hi e.lo e.hi)
    (width_of a) (width_of c) (width_of d) (width_of e) n.hi w f.low f.high g.low g.high f.ordered g.ordered f.narrow g.narrow t s in
    doubled (mul_lo a.lo a.hi c.lo c.hi -ℤ mul_hi d.lo d.hi e.lo e.hi) (mul_hi a.lo a.hi c.lo c.hi -ℤ mul_lo d.lo d.hi e.lo e.hi) n.hi w k.0 k.1 k.2 k.3 n refl
  where
    core : (pl ph rl rh a c d e wa wc wd we n : ℤ) (w : ℕ) → (pos 2 *ℤ pl) ≤ℤ (a +ℤ c) → neg_ℤ (a +ℤ c) ≤ℤ (pos 2 *ℤ ph) → (pos 2 *ℤ rl) ≤ℤ (d +ℤ e) → neg_ℤ (d +ℤ e) ≤ℤ (pos 2 *ℤ rh)
        → pl ≤ℤ ph → rl ≤ℤ rh → (ph -ℤ pl) ≤ℤ (pos (2 ^ 30) *ℤ (wa +ℤ wc)) → (rh -ℤ rl) ≤ℤ (pos (2 ^ 30) *ℤ (wd +ℤ we)) → ((a +ℤ c) +ℤ (d +ℤ e)) ≤ℤ n → ((wa +ℤ wc) +ℤ (wd +ℤ we)) ≤ℤ pos (3 * w)
        → ((pl -ℤ rh) ≤ℤ (ph -ℤ rl)) × (((pl -ℤ rh) *ℤ pos 2) ≤ℤ n) × (neg_ℤ ((ph -ℤ rl) *ℤ pos 2) ≤ℤ n) × (((ph -ℤ rl) -ℤ (pl -ℤ rh)) ≤ℤ pos (3 * 2 ^ 30 * w))
    core pl ph rl rh a c d e wa wc wd we n w h i j k o q u v t s = (omega (arith, ints), omega (arith, ints), omega (arith, ints), omega (arith, ints))

-- the four components in another order have the same sum
in-order : (s t u v s' t' u' v' n : ℤ) → (s +ℤ t) +ℤ (u +ℤ v) ≡ (s' +ℤ t') +ℤ (u' +ℤ v') → ((s +ℤ t) +ℤ (u +ℤ v)) ≤ℤ n → ((s' +ℤ t') +ℤ (u' +ℤ v')) ≤ℤ n
in-order s t u v s' t' u' v' n e h = subst (λ z. z ≤ℤ n) e h

pub narrow-matrix : (b : RotationBox) (m : MatrixBox) → IsRotationBox b → matrix_ends m ≡ matrix_formula (rotation_ends b) → (w : ℕ) → IsNarrow w b → MatrixWidth (12 * w + 2) m
narrow-matrix b m h e w n =
    let d : Ends = norm_ends (rotation_ends b) in
    let x : MatrixEnds = numerator_ends (rotation_ends b) in
    let f0 = square-facts b.q0 h.q0 in
    let f1 = square-facts b.q1 h.q1 in
    let f2 = square-facts b.q2 h.q2 in
    let f3 = square-facts b.q3 h.q3 in
    let s0 : ℤ = square_hi b.q0.lo b.q0.hi in
    let s1 : ℤ = square_hi b.q1.lo b.q1.hi in
    let s2 : ℤ = square_hi b.q2.lo b.q2.hi in
    let s3 : ℤ = square_hi b.q3.lo b.q3.hi in
    let s = sum-narrow b w h n in
    let whole : (d.lo ≤ℤ d.hi) × (width d ≤ℤ pos (6 * 2 ^ 30 * w)) =
    core (square_lo b.q0.lo b.q0.hi) s0 (square_lo b.q1.lo b.q1.hi) s1 (square_lo b.q2.lo b.q2.hi) s2 (square_lo b.q3.lo b.q3.hi) s3
    (width_of b.q0) (width_of b.q1) (width_of b.q2) (width_of b.q3) f0.ordered f1.ordered f2.ordered f3.ordered f0.narrow f1.narrow f2.narrow f3.narrow s in
    let go : (r : Iv) (y : Ends) → ends r ≡ quotient y d → Numerator y d w → width_of r ≤ℤ pos (12 * w + 2) =
    λ r y g k. entry-width r y d w g k.ordered whole.0 (norm-large b h) k.below k.above k.narrow whole.1 in
    let same : Total b.q0 b.q1 b.q2 b.q3 ≤ℤ d.hi = self d.hi in
    let t0213 : Total b.q0 b.q2 b.q1 b.q3 ≤ℤ d.hi = order0213 s0 s1 s2 s3 in
    let t0312 : Total b.q0 b.q3 b.q1 b.q2 ≤ℤ d.hi = order0312 s0 s1 s2 s3 in
    let t1203 : Total b.q1 b.q2 b.q0 b.q3 ≤ℤ d.hi = order1203 s0 s1 s2 s3 in
    let t1302 : Total b.q1 b.q3 b.q0 b.q2 ≤ℤ d.hi = order1302 s0 s1 s2 s3 in
    let t2301 : Total b.q2 b.q3 b.q0 b.q1 ≤ℤ d.hi = order2301 s0 s1 s2 s3 in
    let w0 : ℤ = width_of b.q0 in
    let w1 : ℤ = width_of b.q1 in
    let w2 : ℤ = width_of b.q2 in
    let w3 : ℤ = width_of b.q3 in
    let u0213 = ≤ℤ_trans ((w0 +ℤ w2) +ℤ (w1 +ℤ w3)) ((w0 +ℤ w1) +ℤ (w2 +ℤ w3)) (pos (3 * w)) (order0213 w0 w1 w2 w3) s in
    let u0312 = ≤ℤ_trans ((w0 +ℤ w3) +ℤ (w1 +ℤ w2)) ((w0 +ℤ w1) +ℤ (w2 +ℤ w3)) (pos (3 * w)) (order0312 w0 w1 w2 w3) s in
    let u1203 = ≤ℤ_trans ((w1 +ℤ w2) +ℤ (w0 +ℤ w3)) ((w0 +ℤ w1) +ℤ (w2 +ℤ w3)) (pos (3 * w)) (order1203 w0 w1 w2 w3) s in
    let u1302 = ≤ℤ_trans ((w1 +ℤ w3) +ℤ (w0 +ℤ w2)) ((w0 +ℤ w1) +ℤ (w2 +ℤ w3)) (pos (3 * w)) (order1302 w0 w1 w2 w3) s in
    let u2301 = ≤ℤ_trans ((w2 +ℤ w3) +ℤ (w0 +ℤ w1)) ((w0 +ℤ w1) +ℤ (w2 +ℤ w3)) (pos (3 * w)) (order2301 w0 w1 w2 w3) s in
    record {
      x = record {
        x = go m.x.x x.x.x (ap (λ z. z.x.x) e) (balanced b.q0 b.q1 b.q2 b.q3 d w h.q0 h.q1 h.q2 h.q3 same s);
        y = go m.x.y x.x.y (ap (λ z. z.x.y) e) (subtracted b.q1 b.q2 b.q0 b.q3 d w h.q1 h.q2 h.q0 h.q3 t1203 u1203);
        z = go m.x.z x.x.z (ap (λ z. z.x.z) e) (summed b.q1 b.q3 b.q0 b.q2 d w h.q1 h.q3 h.q0 h.q2 t1302 u1302);
      };
      y = record {
        x = go m.y.x x.y.x (ap (λ z. z.y.x) e) (summed b.q1 b.q2 b.q0 b.q3 d w h.q1 h.q2 h.q0 h.q3 t1203 u1203);
        y = go m.y.y x.y.y (ap (λ z. z.y.y) e) (balanced b.q0 b.q2 b.q1 b.q3 d w h.q0 h.q2 h.q1 h.q3 t0213 u0213);
        z = go m.y.z x.y.z (ap (λ z. z.y.z) e) (subtracted b.q2 b.q3 b.q0 b.q1 d w h.q2 h.q3 h.q0 h.q1 t2301 u2301);
      };
      z = record {
        x = go m.z.x x.z.x (ap (λ z. z.z.x) e) (subtracted b.q1 b.q3 b.q0 b.q2 d w h.q1 h.q3 h.q0 h.q2 t1302 u1302);
        y = go m.z.y x.z.y (ap (λ z. z.z.y) e) (summed b.q2 b.q3 b.q0 b.q1 d w h.q2 h.q3 h.q0 h.q1 t2301 u2301);
        z = go m.z.z x.z.z (ap (λ z. z.z.z) e) (balanced b.q0 b.q3 b.q1 b.q2 d w h.q0 h.q3 h.q1 h.q2 t0312 u0312);
      };
    }
  where
    order0213 : (s t u v : ℤ) → ((s +ℤ u) +ℤ (t +ℤ v)) ≤ℤ ((s +ℤ t) +ℤ (u +ℤ v))
    order0213 s t u v = omega (arith, ints)

    order0312 : (s t u v : ℤ) → ((s +ℤ v) +ℤ (t +ℤ u)) ≤ℤ ((s +ℤ t) +ℤ (u +ℤ v))
    order0312 s t u v = omega (arith, ints)

    order1203 : (s t u v : ℤ) → ((t +ℤ u) +ℤ (s +ℤ v)) ≤ℤ ((s +ℤ t) +ℤ (u +ℤ v))
    order1203 s t u v = omega (arith, ints)

    order1302 : (s t u v : ℤ) → ((t +ℤ v) +ℤ (s +ℤ u)) ≤ℤ ((s +ℤ t) +ℤ (u +ℤ v))
    order1302 s t u v = omega (arith, ints)

    order2301 : (s t u v : ℤ) → ((u +ℤ v) +ℤ (s +ℤ t)) ≤ℤ ((s +ℤ t) +ℤ (u +ℤ v))
    order2301 s t u v = omega (arith, ints)

    core : (al ah cl ch dl dh el eh wa wc wd we : ℤ) → al ≤ℤ ah → cl ≤ℤ ch → dl ≤ℤ dh → el ≤ℤ eh
        → (ah -ℤ al) ≤ℤ (pos (2 ^ 31) *ℤ wa) → (ch -ℤ cl) ≤ℤ (pos (2 ^ 31) *ℤ wc) → (dh -ℤ dl) ≤ℤ (pos (2 ^ 31) *ℤ wd) → (eh -ℤ el) ≤ℤ (pos (2 ^ 31) *ℤ we)
        → ((wa +ℤ wc) +ℤ (wd +ℤ we)) ≤ℤ pos (3 * w)
        → (((al +ℤ cl) +ℤ (dl +ℤ el)) ≤ℤ ((ah +ℤ ch) +ℤ (dh +ℤ eh))) × ((((ah +ℤ ch) +ℤ (dh +ℤ eh)) -ℤ ((al +ℤ cl) +ℤ (dl +ℤ el))) ≤ℤ pos (6 * 2 ^ 30 * w))
    core al ah cl ch dl dh el eh wa wc wd we oa oc od oe na nc nd ne s = (omega (arith, ints), omega (arith, ints))

-- ---- a turned vector
row-width : (m : VecBox) (v : V3) (r : Iv) (w : ℕ) → ends r ≡ row_formula (vector_ends m) v → VectorWidth w m → ((width_of r -ℤ pos 2) *ℤ pos (2 ^ 14)) ≤ℤ (pos w *ℤ norm_sum_of v)
row-width m v r w e h =
    let s : Ends = row_sum_formula (vector_ends m) v in
    subst (λ z. (((z.hi -ℤ z.lo) -ℤ pos 2) *ℤ pos (2 ^ 14)) ≤ℤ (pos w *ℤ norm_sum_of v)) (sym e)
    (rounded (narrow_lo s.lo 14) (narrow_hi s.hi 14) s.lo s.hi (pos w *ℤ norm_sum_of v) (floor-next s.lo (pos (2 ^ 14)) (power_is_positive 14)) (ceil-before s.hi (pos (2 ^ 14)) (power_is_positive 14)) wide)
  where
    term : (a : Iv) (f : ℤ) → width_of a ≤ℤ pos w → (scale_hi a.lo a.hi f -ℤ scale_lo a.lo a.hi f) ≤ℤ (pos w *ℤ pos (unsigned_abs f))
    term a f n = subst (λ z. z ≤ℤ (pos w *ℤ pos (unsigned_abs f))) (sym (multiple-width a.lo a.hi f a.ordered)) (rw (mul_comm_ℤ (pos (unsigned_abs f)) (width_of a)) (mul_le_right (width_of a) (pos w) (pos (unsigned_abs f)) n (omega (arith, ints))))

    three : (al ah bl bh cl ch x y z : ℤ) → (ah -ℤ al) ≤ℤ x → (bh -ℤ bl) ≤ℤ y → (ch -ℤ cl) ≤ℤ z → (((ah +ℤ bh) +ℤ ch) -ℤ ((al +ℤ bl) +ℤ cl)) ≤ℤ ((x +ℤ y) +ℤ z)
    three al ah bl bh cl ch x y z h i j = omega (arith, ints)

    wide : ((row_sum_formula (vector_ends m) v).hi -ℤ (row_sum_formula (vector_ends m) v).lo) ≤ℤ (pos w *ℤ norm_sum_of v)
    wide =
        let d : (pos w *ℤ pos (unsigned_abs v.x) +ℤ pos w *ℤ pos (unsigned_abs v.y)) +ℤ pos w *ℤ pos (unsigned_abs v.z) ≡ pos w *ℤ norm_sum_of v = omega (arith, ints) in
        subst (λ t. ((row_sum_formula (vector_ends m) v).hi -ℤ (row_sum_formula (vector_ends m) v).lo) ≤ℤ t) d
        (three (scale_lo m.x.lo m.x.hi v.x) (scale_hi m.x.lo m.x.hi v.x) (scale_lo m.y.lo m.y.hi v.y) (scale_hi m.y.lo m.y.hi v.y) (scale_lo m.z.lo m.z.hi v.z) (scale_hi m.z.lo m.z.hi v.z)
        (pos w *ℤ pos (unsigned_abs v.x)) (pos w *ℤ pos (unsigned_abs v.y)) (pos w *ℤ pos (unsigned_abs v.z)) (term m.x v.x h.x) (term m.y v.y h.y) (term m.z v.z h.z))

    rounded : (a b l u t : ℤ) → l <ℤ ((a +ℤ pos 1) *ℤ pos (2 ^ 14)) → ((b -ℤ pos 1) *ℤ pos (2 ^ 14)) <ℤ u → (u -ℤ l) ≤ℤ t → (((b -ℤ a) -ℤ pos 2) *ℤ pos (2 ^ 14)) ≤ℤ t
    rounded a b l u t h i j =
        let e : ((b -ℤ a) -ℤ pos 2) *ℤ pos (2 ^ 14) ≡ (b -ℤ pos 1) *ℤ pos (2 ^ 14) -ℤ (a +ℤ pos 1) *ℤ pos (2 ^ 14) =
        equal (a ∷ b ∷ pos (2 ^ 14) ∷ []) (((var 1 ⊖ var 0) ⊖ num (pos 2)) ⊗ var 2) ((var 1 ⊖ num (pos 1)) ⊗ var 2 ⊖ (var 0 ⊕ num (pos 1)) ⊗ var 2) refl in
        rw e (omega (arith, ints, h, i, j))

pub narrow-turned : (m : MatrixBox) (v : V3) (r : VecBox) → vector_ends r ≡ turned_formula (matrix_ends m) v → (w : ℕ) → MatrixWidth w m → TurnedWidth w v r
narrow-turned m v r e w h = record {
  x = row-width m.x v r.x w (ap (λ z. z.x) e) h.x;
  y = row-width m.y v r.y w (ap (λ z. z.y) e) h.y;
  z = row-width m.z v r.z w (ap (λ z. z.z) e) h.z;
}
