-- The boxes of matrices and images hold the exact ones.
use Rattle.std.proofs.Common.{◌≡◌, refl, sym, ap, subst, ◌∙◌, ℕ, ◌*◌, ◌^◌, ◌<◌, List, [], ◌∷◌, arith, unsigned_abs, inl, inr, ⊎_elim}
use Rattle.std.proofs.lemmas.Int.{ints}
use Rattle.std.proofs.Math.Nat.{mul-pos}
use Rattle.std.specs.Prelude.{ℤ, pos, ◌+ℤ◌, ◌-ℤ◌, ◌*ℤ◌, ◌≤ℤ◌, ◌<ℤ◌, ◌⊎◌}
use Rattle.gd_int.proofs.Integers.{mul_le_out, square_nonneg}
use Rattle.gd_interval.proofs.Encloses.{difference_inside, multiple_inside, narrowed_inside, product_inside, quotient_inside, rescaled, square_inside, sum_inside}
use Rattle.gd_interval.proofs.Products.{square-ordered, square_lo-reached}
use Rattle.gd_interval.specs.Formulas.{quot_lo, quot_hi, square_hi, square_lo}
use Rattle.gd_interval.specs.Interval.{Inside}
use Rattle.gd_interval.specs.declared.iv.Iv.{Iv}
use Rattle.gd_quat.proofs.Polynomials.{Poly, var, num, ◌⊕◌, ◌⊖◌, ◌⊗◌, equal}
use Rattle.gd_quat.proofs.Rigid.{norm-is, pa, pb, pc, pd, size-square, two, xx, xy, xz, yx, yy, yz, zx, zy, zz, pn}
use Rattle.gd_quat.specs.Boxes.{EnclosesImages, EnclosesMatrix, EnclosesMoved, EnclosesTurned, HoldsMatrix, HoldsRotation, HoldsVector, IsOne, IsRotationBox, matrix_times}
use Rattle.gd_quat.specs.Formulas.{Ends, MatrixEnds, balance, difference, ends, multiple, product, square, sum, matrix_ends, matrix_formula, moved_formula, norm_ends, numerator_ends, rotation_ends, quotient, row_formula, turned_formula, twice_difference, twice_sum, vector_ends}
use Rattle.gd_quat.specs.Placements.{times}
use Rattle.gd_quat.specs.Rotations.{Matrix, Rotation, matrix_of, norm_of}
use Rattle.gd_quat.specs.declared.shape.MatrixBox.{MatrixBox}
use Rattle.gd_quat.specs.declared.shape.RotationBox.{RotationBox}
use Rattle.gd_quat.specs.declared.shape.VecBox.{VecBox}
use Rattle.gd_vec.specs.Vector.{dot_of}
use Rattle.gd_vec.specs.declared.vector.V3.{V3}

-- ---- the sum of the squares is at least 1
one-square : (a : Iv) → IsOne a → square_lo a.lo a.hi ≡ pos (2 ^ 60)
one-square a h = rw (h.0, h.1) refl

square-sign : (a : Iv) → pos 0 ≤ℤ square_lo a.lo a.hi
square-sign a = square_lo-reached (λ v. pos 0 ≤ℤ v) a.lo a.hi a.ordered (λ x l u. square_nonneg x)

pub norm-large : (b : RotationBox) → IsRotationBox b → pos (2 ^ 60) ≤ℤ (norm_ends (rotation_ends b)).lo
norm-large b h = large (square_lo b.q0.lo b.q0.hi) (square_lo b.q1.lo b.q1.hi) (square_lo b.q2.lo b.q2.hi) (square_lo b.q3.lo b.q3.hi)
    (square-sign b.q0) (square-sign b.q1) (square-sign b.q2) (square-sign b.q3)
    (⊎_elim (λ l. inl (one-square b.q0 l)) (λ m. inr (⊎_elim (λ l. inl (one-square b.q1 l)) (λ n. inr (⊎_elim (λ l. inl (one-square b.q2 l)) (λ l. inr (one-square b.q3 l)) n)) m)) h.leads)
  where
    large : (s t u v : ℤ) → pos 0 ≤ℤ s → pos 0 ≤ℤ t → pos 0 ≤ℤ u → pos 0 ≤ℤ v
        → (s ≡ pos (2 ^ 60)) ⊎ ((t ≡ pos (2 ^ 60)) ⊎ ((u ≡ pos (2 ^ 60)) ⊎ (v ≡ pos (2 ^ 60)))) → pos (2 ^ 60) ≤ℤ ((s +ℤ t) +ℤ (u +ℤ v))
    large s t u v p q r o (inl e) = omega (arith, ints, e)
    large s t u v p q r o (inr (inl e)) = omega (arith, ints, e)
    large s t u v p q r o (inr (inr (inl e))) = omega (arith, ints, e)
    large s t u v p q r o (inr (inr (inr e))) = omega (arith, ints, e)

-- ---- a quotient of numerators over k^2, of which each is factor^2 times that of the rotation
abbrev Quotient : ℤ → ℤ → ℤ → ℤ → ℕ → ℤ → Type 0
Quotient a b c e n m = Inside (quot_lo a c e) (quot_hi b c e) n (pos (2 ^ 30) *ℤ m)

quotient-over : (a b c e : ℤ) (k n : ℕ) (f m x w : ℤ) → pos 0 <ℤ c → c ≤ℤ e → Inside a b (k * k) x → Inside c e (k * k) w
    → x ≡ (f *ℤ f) *ℤ m → w ≡ (f *ℤ f) *ℤ pos n → 0 < unsigned_abs f → 0 < k → Quotient a b c e n m
quotient-over a b c e k n f m x w cp ce h i xe we fp kp =
    let g : ℕ = unsigned_abs f in
    let ff : pos (g * g) ≡ f *ℤ f = size-square f in
    let wn : w ≡ pos ((g * g) * n) = we ∙ ap (λ z. z *ℤ pos n) (sym ff) in
    let q : ℤ = quot_lo a c e in
    let r : ℤ = quot_hi b c e in
    let j = quotient_inside a b c e (k * k) (k * k) ((g * g) * n) x cp ce h (subst (λ z. Inside c e (k * k) z) wn i) in
    let over : ℤ = pos ((k * k) * (g * g)) in
    let over-counts : pos 0 <ℤ over = omega (arith, ints, mul-pos (mul-pos kp kp) (mul-pos fp fp)) in
    let left : (z : ℤ) → z *ℤ pos ((k * k) * ((g * g) * n)) ≡ (z *ℤ pos n) *ℤ over =
    λ z. equal (z ∷ pos n ∷ pos k ∷ pos g ∷ []) (var 0 ⊗ ((var 2 ⊗ var 2) ⊗ ((var 3 ⊗ var 3) ⊗ var 1))) ((var 0 ⊗ var 1) ⊗ ((var 2 ⊗ var 2) ⊗ (var 3 ⊗ var 3))) refl in
    let right : x *ℤ pos (2 ^ 30 * (k * k)) ≡ (pos (2 ^ 30) *ℤ m) *ℤ over =
    ap (λ z. z *ℤ pos (2 ^ 30 * (k * k))) (xe ∙ ap (λ z. z *ℤ m) (sym ff))
    ∙ equal (pos g ∷ m ∷ pos k ∷ pos (2 ^ 30) ∷ []) (((var 0 ⊗ var 0) ⊗ var 1) ⊗ (var 3 ⊗ (var 2 ⊗ var 2))) ((var 3 ⊗ var 1) ⊗ ((var 2 ⊗ var 2) ⊗ (var 0 ⊗ var 0))) refl in (
      mul_le_out (q *ℤ pos n) (pos (2 ^ 30) *ℤ m) over over-counts (subst (λ z. z ≤ℤ ((pos (2 ^ 30) *ℤ m) *ℤ over)) (left q) (subst (λ z. (q *ℤ pos ((k * k) * ((g * g) * n))) ≤ℤ z) right j.0)),
      mul_le_out (pos (2 ^ 30) *ℤ m) (r *ℤ pos n) over over-counts (subst (λ z. ((pos (2 ^ 30) *ℤ m) *ℤ over) ≤ℤ z) (left r) (subst (λ z. z ≤ℤ (r *ℤ pos ((k * k) * ((g * g) * n)))) right j.1)),
    )

-- ---- the matrix: with the components f q over k, all numerators have the factor f^2
abbrev pf : Poly
pf = var 4

abbrev fa : Poly
fa = pf ⊗ pa

abbrev fb : Poly
fb = pf ⊗ pb

abbrev fc : Poly
fc = pf ⊗ pc

abbrev fd : Poly
fd = pf ⊗ pd

with-ends : (a : Iv) (e : Ends) (n : ℕ) (y : ℤ) → ends a ≡ e → Inside e.lo e.hi n y → Inside a.lo a.hi n y
with-ends a e n y d h = subst (λ z. Inside z.lo z.hi n y) (sym d) h

module _ (b : RotationBox) (boxed : IsRotationBox b) (q : Rotation) (held : HoldsRotation b q) where
  abbrev f : ℤ
  f = held.factor

  abbrev over : ℕ
  over = held.under * held.under

  abbrev norm : Ends
  norm = norm_ends (rotation_ends b)

  norm-ordered : norm.lo ≤ℤ norm.hi
  norm-ordered = summed (square_lo b.q0.lo b.q0.hi) (square_lo b.q1.lo b.q1.hi) (square_lo b.q2.lo b.q2.hi) (square_lo b.q3.lo b.q3.hi) (square_hi b.q0.lo b.q0.hi) (square_hi b.q1.lo b.q1.hi) (square_hi b.q2.lo b.q2.hi) (square_hi b.q3.lo b.q3.hi)
      (square-ordered b.q0.lo b.q0.hi b.q0.ordered) (square-ordered b.q1.lo b.q1.hi b.q1.ordered) (square-ordered b.q2.lo b.q2.hi b.q2.ordered) (square-ordered b.q3.lo b.q3.hi b.q3.ordered)
    where
      summed : (s t u v s' t' u' v' : ℤ) → s ≤ℤ s' → t ≤ℤ t' → u ≤ℤ u' → v ≤ℤ v' → ((s +ℤ t) +ℤ (u +ℤ v)) ≤ℤ ((s' +ℤ t') +ℤ (u' +ℤ v'))
      summed s t u v s' t' u' v' h i j k = omega (arith, ints)

  -- squares and products of the components of the box
  squared : (a : Iv) (y : ℤ) → Inside a.lo a.hi held.under y → Inside (square (ends a)).lo (square (ends a)).hi over (y *ℤ y)
  squared a y h = square_inside a.lo a.hi held.under y h

  multiplied : (a c : Iv) (y z : ℤ) → Inside a.lo a.hi held.under y → Inside c.lo c.hi held.under z → Inside (product (ends a) (ends c)).lo (product (ends a) (ends c)).hi over (y *ℤ z)
  multiplied a c y z h i = product_inside a.lo a.hi c.lo c.hi held.under held.under y z h i

  plus : (a c : Ends) (y z : ℤ) → Inside a.lo a.hi over y → Inside c.lo c.hi over z → Inside (sum a c).lo (sum a c).hi over (y +ℤ z)
  plus a c y z h i = sum_inside a.lo a.hi c.lo c.hi over y z h i

  minus : (a c : Ends) (y z : ℤ) → Inside a.lo a.hi over y → Inside c.lo c.hi over z → Inside (difference a c).lo (difference a c).hi over (y -ℤ z)
  minus a c y z h i = difference_inside a.lo a.hi c.lo c.hi over y z h i

  twice : (a : Ends) (y : ℤ) → Inside a.lo a.hi over y → Inside (multiple a (pos 2)).lo (multiple a (pos 2)).hi over (y *ℤ pos 2)
  twice a y h = multiple_inside a.lo a.hi (pos 2) over y h

  abbrev y0 : ℤ
  y0 = f *ℤ q.q0

  abbrev y1 : ℤ
  y1 = f *ℤ q.q1

  abbrev y2 : ℤ
  y2 = f *ℤ q.q2

  abbrev y3 : ℤ
  y3 = f *ℤ q.q3

  -- a numerator x over k^2 that is f^2 m gives the entry m / N
  entry : (a : Iv) (n : Ends) (m x : ℤ) → ends a ≡ quotient n norm → x ≡ (f *ℤ f) *ℤ m → Inside n.lo n.hi over x → Inside a.lo a.hi (norm_of q) (pos (2 ^ 30) *ℤ m)
  entry a n m x e xe h =
      let w : ℤ = (y0 *ℤ y0 +ℤ y1 *ℤ y1) +ℤ (y2 *ℤ y2 +ℤ y3 *ℤ y3) in
      let we : w ≡ (f *ℤ f) *ℤ pos (norm_of q) =
      equal (q.q0 ∷ q.q1 ∷ q.q2 ∷ q.q3 ∷ held.factor ∷ []) ((fa ⊗ fa ⊕ fb ⊗ fb) ⊕ (fc ⊗ fc ⊕ fd ⊗ fd)) ((pf ⊗ pf) ⊗ pn) refl ∙ ap (λ z. (f *ℤ f) *ℤ z) (sym (norm-is q)) in
      let p : pos 0 <ℤ norm.lo = omega (arith, ints, norm-large b boxed) in
      with-ends a (quotient n norm) (norm_of q) (pos (2 ^ 30) *ℤ m) e
      (quotient-over n.lo n.hi norm.lo norm.hi held.under (norm_of q) f m x w p norm-ordered h norm-held xe we held.factor-counts held.under-counts)
    where
      norm-held : Inside norm.lo norm.hi over ((y0 *ℤ y0 +ℤ y1 *ℤ y1) +ℤ (y2 *ℤ y2 +ℤ y3 *ℤ y3))
      norm-held = plus (sum (square (ends b.q0)) (square (ends b.q1))) (sum (square (ends b.q2)) (square (ends b.q3))) (y0 *ℤ y0 +ℤ y1 *ℤ y1) (y2 *ℤ y2 +ℤ y3 *ℤ y3)
          (plus (square (ends b.q0)) (square (ends b.q1)) (y0 *ℤ y0) (y1 *ℤ y1) (squared b.q0 y0 held.q0) (squared b.q1 y1 held.q1))
          (plus (square (ends b.q2)) (square (ends b.q3)) (y2 *ℤ y2) (y3 *ℤ y3) (squared b.q2 y2 held.q2) (squared b.q3 y3 held.q3))

  -- y^2 + z^2 - v^2 - w^2
  in-balance : (a c d e : Iv) (y z v w : ℤ) → Inside a.lo a.hi held.under y → Inside c.lo c.hi held.under z → Inside d.lo d.hi held.under v → Inside e.lo e.hi held.under w
      → Inside (balance (square (ends a)) (square (ends c)) (square (ends d)) (square (ends e))).lo (balance (square (ends a)) (square (ends c)) (square (ends d)) (square (ends e))).hi over ((y *ℤ y +ℤ z *ℤ z) -ℤ (v *ℤ v +ℤ w *ℤ w))
  in-balance a c d e y z v w h i j k =
      minus (sum (square (ends a)) (square (ends c))) (sum (square (ends d)) (square (ends e))) (y *ℤ y +ℤ z *ℤ z) (v *ℤ v +ℤ w *ℤ w)
      (plus (square (ends a)) (square (ends c)) (y *ℤ y) (z *ℤ z) (squared a y h) (squared c z i))
      (plus (square (ends d)) (square (ends e)) (v *ℤ v) (w *ℤ w) (squared d v j) (squared e w k))

  -- 2 (y z + v w) and 2 (y z - v w)
  in-sum : (a c d e : Iv) (y z v w : ℤ) → Inside a.lo a.hi held.under y → Inside c.lo c.hi held.under z → Inside d.lo d.hi held.under v → Inside e.lo e.hi held.under w
      → Inside (twice_sum (product (ends a) (ends c)) (product (ends d) (ends e))).lo (twice_sum (product (ends a) (ends c)) (product (ends d) (ends e))).hi over ((y *ℤ z +ℤ v *ℤ w) *ℤ pos 2)
  in-sum a c d e y z v w h i j k =
      twice (sum (product (ends a) (ends c)) (product (ends d) (ends e))) (y *ℤ z +ℤ v *ℤ w)
      (plus (product (ends a) (ends c)) (product (ends d) (ends e)) (y *ℤ z) (v *ℤ w) (multiplied a c y z h i) (multiplied d e v w j k))

  in-difference : (a c d e : Iv) (y z v w : ℤ) → Inside a.lo a.hi held.under y → Inside c.lo c.hi held.under z → Inside d.lo d.hi held.under v → Inside e.lo e.hi held.under w
      → Inside (twice_difference (product (ends a) (ends c)) (product (ends d) (ends e))).lo (twice_difference (product (ends a) (ends c)) (product (ends d) (ends e))).hi over ((y *ℤ z -ℤ v *ℤ w) *ℤ pos 2)
  in-difference a c d e y z v w h i j k =
      twice (difference (product (ends a) (ends c)) (product (ends d) (ends e))) (y *ℤ z -ℤ v *ℤ w)
      (minus (product (ends a) (ends c)) (product (ends d) (ends e)) (y *ℤ z) (v *ℤ w) (multiplied a c y z h i) (multiplied d e v w j k))

  pub entries-held : (m : MatrixBox) → matrix_ends m ≡ matrix_formula (rotation_ends b) → HoldsMatrix m (norm_of q) (matrix_times (pos (2 ^ 30)) (matrix_of q))
  entries-held m e =
      let xs : List ℤ = q.q0 ∷ q.q1 ∷ q.q2 ∷ q.q3 ∷ held.factor ∷ [] in
      let n : MatrixEnds = numerator_ends (rotation_ends b) in
      let t : Matrix = matrix_of q in
      record {
        x = record {
          x = entry m.x.x n.x.x t.x.x ((y0 *ℤ y0 +ℤ y1 *ℤ y1) -ℤ (y2 *ℤ y2 +ℤ y3 *ℤ y3)) (ap (λ z. z.x.x) e)
              (equal xs ((fa ⊗ fa ⊕ fb ⊗ fb) ⊖ (fc ⊗ fc ⊕ fd ⊗ fd)) ((pf ⊗ pf) ⊗ xx) refl) (in-balance b.q0 b.q1 b.q2 b.q3 y0 y1 y2 y3 held.q0 held.q1 held.q2 held.q3);
          y = entry m.x.y n.x.y t.x.y ((y1 *ℤ y2 -ℤ y0 *ℤ y3) *ℤ pos 2) (ap (λ z. z.x.y) e)
              (equal xs ((fb ⊗ fc ⊖ fa ⊗ fd) ⊗ two) ((pf ⊗ pf) ⊗ xy) refl) (in-difference b.q1 b.q2 b.q0 b.q3 y1 y2 y0 y3 held.q1 held.q2 held.q0 held.q3);
          z = entry m.x.z n.x.z t.x.z ((y1 *ℤ y3 +ℤ y0 *ℤ y2) *ℤ pos 2) (ap (λ z. z.x.z) e)
              (equal xs ((fb ⊗ fd ⊕ fa ⊗ fc) ⊗ two) ((pf ⊗ pf) ⊗ xz) refl) (in-sum b.q1 b.q3 b.q0 b.q2 y1 y3 y0 y2 held.q1 held.q3 held.q0 held.q2);
        };
        y = record {
          x = entry m.y.x n.y.x t.y.x ((y1 *ℤ y2 +ℤ y0 *ℤ y3) *ℤ pos 2) (ap (λ z. z.y.x) e)
              (equal xs ((fb ⊗ fc ⊕ fa ⊗ fd) ⊗ two) ((pf ⊗ pf) ⊗ yx) refl) (in-sum b.q1 b.q2 b.q0 b.q3 y1 y2 y0 y3 held.q1 held.q2 held.q0 held.q3);
          y = entry m.y.y n.y.y t.y.y ((y0 *ℤ y0 +ℤ y2 *ℤ y2) -ℤ (y1 *ℤ y1 +ℤ y3 *ℤ y3)) (ap (λ z. z.y.y) e)
              (equal xs ((fa ⊗ fa ⊕ fc ⊗ fc) ⊖ (fb ⊗ fb ⊕ fd ⊗ fd)) ((pf ⊗ pf) ⊗ yy) refl) (in-balance b.q0 b.q2 b.q1 b.q3 y0 y2 y1 y3 held.q0 held.q2 held.q1 held.q3);
          z = entry m.y.z n.y.z t.y.z ((y2 *ℤ y3 -ℤ y0 *ℤ y1) *ℤ pos 2) (ap (λ z. z.y.z) e)
              (equal xs ((fc ⊗ fd ⊖ fa ⊗ fb) ⊗ two) ((pf ⊗ pf) ⊗ yz) refl) (in-difference b.q2 b.q3 b.q0 b.q1 y2 y3 y0 y1 held.q2 held.q3 held.q0 held.q1);
        };
        z = record {
          x = entry m.z.x n.z.x t.z.x ((y1 *ℤ y3 -ℤ y0 *ℤ y2) *ℤ pos 2) (ap (λ z. z.z.x) e)
              (equal xs ((fb ⊗ fd ⊖ fa ⊗ fc) ⊗ two) ((pf ⊗ pf) ⊗ zx) refl) (in-difference b.q1 b.q3 b.q0 b.q2 y1 y3 y0 y2 held.q1 held.q3 held.q0 held.q2);
          y = entry m.z.y n.z.y t.z.y ((y2 *ℤ y3 +ℤ y0 *ℤ y1) *ℤ pos 2) (ap (λ z. z.z.y) e)
              (equal xs ((fc ⊗ fd ⊕ fa ⊗ fb) ⊗ two) ((pf ⊗ pf) ⊗ zy) refl) (in-sum b.q2 b.q3 b.q0 b.q1 y2 y3 y0 y1 held.q2 held.q3 held.q0 held.q1);
          z = entry m.z.z n.z.z t.z.z ((y0 *ℤ y0 +ℤ y3 *ℤ y3) -ℤ (y1 *ℤ y1 +ℤ y2 *ℤ y2)) (ap (λ z. z.z.z) e)
              (equal xs ((fa ⊗ fa ⊕ fd ⊗ fd) ⊖ (fb ⊗ fb ⊕ fc ⊗ fc)) ((pf ⊗ pf) ⊗ zz) refl) (in-balance b.q0 b.q3 b.q1 b.q2 y0 y3 y1 y2 held.q0 held.q3 held.q1 held.q2);
        };
      }

pub holds-matrix : (b : RotationBox) (m : MatrixBox) → IsRotationBox b → matrix_ends m ≡ matrix_formula (rotation_ends b) → EnclosesMatrix b m
holds-matrix b m h e q qr held = entries-held b h q held m e

-- ---- a turned vector
row-held : (m : VecBox) (v : V3) (r : Iv) (k : ℕ) (e : V3) → ends r ≡ row_formula (vector_ends m) v → HoldsVector m k e → Inside r.lo r.hi (k * 2 ^ 14) (dot_of e v)
row-held m v r k e d h =
    let a : Ends = multiple (ends m.x) v.x in
    let b : Ends = multiple (ends m.y) v.y in
    let c : Ends = multiple (ends m.z) v.z in
    let s : Ends = sum (sum a b) c in
    with-ends r (row_formula (vector_ends m) v) (k * 2 ^ 14) (dot_of e v) d
    (narrowed_inside s.lo s.hi 14 k (dot_of e v)
    (sum_inside (sum a b).lo (sum a b).hi c.lo c.hi k (e.x *ℤ v.x +ℤ e.y *ℤ v.y) (e.z *ℤ v.z)
    (sum_inside a.lo a.hi b.lo b.hi k (e.x *ℤ v.x) (e.y *ℤ v.y) (multiple_inside m.x.lo m.x.hi v.x k e.x h.x) (multiple_inside m.y.lo m.y.hi v.y k e.y h.y))
    (multiple_inside m.z.lo m.z.hi v.z k e.z h.z)))

pub holds-turned : (m : MatrixBox) (v : V3) (r : VecBox) → vector_ends r ≡ turned_formula (matrix_ends m) v → EnclosesTurned m v r
holds-turned m v r d k e h = record {
  x = row-held m.x v r.x k e.x (ap (λ z. z.x) d) h.x;
  y = row-held m.y v r.y k e.y (ap (λ z. z.y) d) h.y;
  z = row-held m.z v r.z k e.z (ap (λ z. z.z) d) h.z;
}

-- ---- a moved vector
pub holds-moved : (a b r : VecBox) → vector_ends r ≡ moved_formula (vector_ends a) (vector_ends b) → EnclosesMoved a b r
holds-moved a b r e k v w h i = record {
  x = with-ends r.x (sum (ends a.x) (ends b.x)) k (v.x +ℤ w.x) (ap (λ z. z.x) e) (sum_inside a.x.lo a.x.hi b.x.lo b.x.hi k v.x w.x h.x i.x);
  y = with-ends r.y (sum (ends a.y) (ends b.y)) k (v.y +ℤ w.y) (ap (λ z. z.y) e) (sum_inside a.y.lo a.y.hi b.y.lo b.y.hi k v.y w.y h.y i.y);
  z = with-ends r.z (sum (ends a.z) (ends b.z)) k (v.z +ℤ w.z) (ap (λ z. z.z) e) (sum_inside a.z.lo a.z.hi b.z.lo b.z.hi k v.z w.z h.z i.z);
}

-- ---- an image: the matrix over N in 2^-30 and the translation over S in 2^-16 give the image over N S in 2^-16
-- 2^14 is left out of both
cut : (lo hi x : ℤ) (n : ℕ) → Inside lo hi (n * 2 ^ 14) (x *ℤ pos (2 ^ 14)) → Inside lo hi n x
cut lo hi x n h =
    let e : (z : ℤ) → z *ℤ pos (n * 2 ^ 14) ≡ (z *ℤ pos n) *ℤ pos (2 ^ 14) = λ z. equal (z ∷ pos n ∷ pos (2 ^ 14) ∷ []) (var 0 ⊗ (var 1 ⊗ var 2)) ((var 0 ⊗ var 1) ⊗ var 2) refl in (
      mul_le_out (lo *ℤ pos n) x (pos (2 ^ 14)) (omega (arith, ints)) (subst (λ z. z ≤ℤ (x *ℤ pos (2 ^ 14))) (e lo) h.0),
      mul_le_out x (hi *ℤ pos n) (pos (2 ^ 14)) (omega (arith, ints)) (subst (λ z. (x *ℤ pos (2 ^ 14)) ≤ℤ z) (e hi) h.1),
    )

-- one coordinate: u is the turned one in 2^-30, and c the sum of products of the exact row
coordinate : (turned by r : Iv) (n s : ℕ) (m : V3) (v : V3) (t : ℤ) → ends r ≡ sum (ends turned) (ends by) → Inside turned.lo turned.hi (n * 2 ^ 14) (dot_of (times (pos (2 ^ 30)) m) v)
    → Inside by.lo by.hi s (pos (2 ^ 16) *ℤ t) → Inside r.lo r.hi (n * s) (pos (2 ^ 16) *ℤ (pos s *ℤ dot_of m v +ℤ pos n *ℤ t))
coordinate turned by r n s m v t e h i =
    let d : dot_of (times (pos (2 ^ 30)) m) v ≡ (pos (2 ^ 16) *ℤ dot_of m v) *ℤ pos (2 ^ 14) =
    equal (m.x ∷ m.y ∷ m.z ∷ v.x ∷ v.y ∷ v.z ∷ []) ((num (pos (2 ^ 30)) ⊗ var 0) ⊗ var 3 ⊕ (num (pos (2 ^ 30)) ⊗ var 1) ⊗ var 4 ⊕ (num (pos (2 ^ 30)) ⊗ var 2) ⊗ var 5)
    ((num (pos (2 ^ 16)) ⊗ (var 0 ⊗ var 3 ⊕ var 1 ⊗ var 4 ⊕ var 2 ⊗ var 5)) ⊗ num (pos (2 ^ 14))) refl in
    let a : Inside turned.lo turned.hi n (pos (2 ^ 16) *ℤ dot_of m v) = cut turned.lo turned.hi (pos (2 ^ 16) *ℤ dot_of m v) n (subst (λ z. Inside turned.lo turned.hi (n * 2 ^ 14) z) d h) in
    let a' = rescaled turned.lo turned.hi n s (pos (2 ^ 16) *ℤ dot_of m v) a in
    let b' = rescaled by.lo by.hi s n (pos (2 ^ 16) *ℤ t) i in
    let o : s * n ≡ n * s = omega arith in
    let c = sum_inside turned.lo turned.hi by.lo by.hi (n * s) ((pos (2 ^ 16) *ℤ dot_of m v) *ℤ pos s) ((pos (2 ^ 16) *ℤ t) *ℤ pos n) a' (subst (λ z. Inside by.lo by.hi z ((pos (2 ^ 16) *ℤ t) *ℤ pos n)) o b') in
    let g : (pos (2 ^ 16) *ℤ dot_of m v) *ℤ pos s +ℤ (pos (2 ^ 16) *ℤ t) *ℤ pos n ≡ pos (2 ^ 16) *ℤ (pos s *ℤ dot_of m v +ℤ pos n *ℤ t) =
    equal (dot_of m v ∷ pos s ∷ t ∷ pos n ∷ []) ((num (pos (2 ^ 16)) ⊗ var 0) ⊗ var 1 ⊕ (num (pos (2 ^ 16)) ⊗ var 2) ⊗ var 3) (num (pos (2 ^ 16)) ⊗ (var 1 ⊗ var 0 ⊕ var 3 ⊗ var 2)) refl in
    with-ends r (sum (ends turned) (ends by)) (n * s) (pos (2 ^ 16) *ℤ (pos s *ℤ dot_of m v +ℤ pos n *ℤ t)) e (subst (λ z. Inside (turned.lo +ℤ by.lo) (turned.hi +ℤ by.hi) (n * s) z) g c)

-- the boxes of a matrix, of a turned vector and of its sum with a translation hold the image
pub holds-images : (b : RotationBox) (m : MatrixBox) (v : V3) (x t r : VecBox) → EnclosesMatrix b m → EnclosesTurned m v x → vector_ends r ≡ moved_formula (vector_ends x) (vector_ends t) → EnclosesImages b t v r
holds-images b m v x t r f g e p ok rot trans =
    let n : ℕ = norm_of p.turn in
    let a = matrix_of p.turn in
    let u = g n (matrix_times (pos (2 ^ 30)) a) (f p.turn ok.turn rot) in
    record {
      x = coordinate x.x t.x r.x n p.scale a.x v p.shift.x (ap (λ z. z.x) e) u.x trans.x;
      y = coordinate x.y t.y r.y n p.scale a.y v p.shift.y (ap (λ z. z.y) e) u.y trans.y;
      z = coordinate x.z t.z r.z n p.scale a.z v p.shift.z (ap (λ z. z.z) e) u.z trans.z;
    }
