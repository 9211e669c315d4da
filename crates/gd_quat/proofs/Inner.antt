-- Smaller boxes give matrices and images inside.
use Rattle.std.proofs.Common.{◌≡◌, sym, ap, subst, ◌^◌, arith}
use Rattle.std.proofs.lemmas.Int.{ints}
use Rattle.std.specs.Prelude.{ℤ, pos, ◌*ℤ◌, ◌≤ℤ◌, ◌<ℤ◌}
use Rattle.gd_int.proofs.Integers.{≤ℤ_trans}
use Rattle.gd_interval.proofs.Nests.{difference-nests, multiple-nests, narrowed-nests, product-nests, quotient-nests, square-nests, sum-nests}
use Rattle.gd_interval.proofs.Products.{mul_hi-above, mul_lo-below, square-ordered}
use Rattle.gd_interval.specs.Formulas.{mul_lo, mul_hi}
use Rattle.gd_interval.specs.Interval.{IsInside}
use Rattle.gd_interval.specs.declared.iv.Iv.{Iv}
use Rattle.gd_quat.proofs.Encloses.{norm-large}
use Rattle.gd_quat.specs.Formulas.{Ends, MatrixEnds, balance, difference, ends, multiple, narrowed, norm_ends, numerator_ends, product, quotient, rotation_ends, row_formula, row_sum_formula, square, sum, twice_difference, twice_sum, vector_ends}
use Rattle.gd_quat.specs.Laws.{Lies, MatricesNest, MovedNest, TurnedNest, VectorInside}
use Rattle.gd_quat.specs.declared.shape.VecBox.{VecBox}
use Rattle.gd_vec.specs.declared.vector.V3.{V3}

-- ---- the ends a lie between the ends b, and are in order
record Part (a b : Ends) : Type 0 where
  ordered : a.lo ≤ℤ a.hi
  inside : IsInside a.lo a.hi b.lo b.hi

of : (a b : Iv) → Lies a b → Part (ends a) (ends b)
of a b h = record { ordered = a.ordered; inside = h }

in-sum : (a b c d : Ends) → Part a b → Part c d → Part (sum a c) (sum b d)
in-sum a b c d h k = record { ordered = omega (arith, ints, h.ordered, k.ordered); inside = sum-nests b.lo b.hi d.lo d.hi a.lo a.hi c.lo c.hi h.inside k.inside }

in-difference : (a b c d : Ends) → Part a b → Part c d → Part (difference a c) (difference b d)
in-difference a b c d h k = record { ordered = omega (arith, ints, h.ordered, k.ordered); inside = difference-nests b.lo b.hi d.lo d.hi a.lo a.hi c.lo c.hi h.inside k.inside }

in-multiple : (a b : Ends) (f : ℤ) → Part a b → IsInside (multiple a f).lo (multiple a f).hi (multiple b f).lo (multiple b f).hi
in-multiple a b f h = multiple-nests b.lo b.hi a.lo a.hi f h.ordered h.inside

in-square : (a b : Ends) → Part a b → Part (square a) (square b)
in-square a b h = record { ordered = square-ordered a.lo a.hi h.ordered; inside = square-nests b.lo b.hi a.lo a.hi h.ordered h.inside }

self : (z : ℤ) → z ≤ℤ z
self z = omega (arith, ints)

in-product : (a b c d : Ends) → Part a b → Part c d → Part (product a c) (product b d)
in-product a b c d h k = record {
  ordered = ≤ℤ_trans (mul_lo a.lo a.hi c.lo c.hi) (a.lo *ℤ c.lo) (mul_hi a.lo a.hi c.lo c.hi)
      (mul_lo-below a.lo a.hi c.lo c.hi a.lo c.lo (self a.lo) h.ordered (self c.lo) k.ordered) (mul_hi-above a.lo a.hi c.lo c.hi a.lo c.lo (self a.lo) h.ordered (self c.lo) k.ordered);
  inside = product-nests b.lo b.hi d.lo d.hi a.lo a.hi c.lo c.hi h.ordered k.ordered h.inside k.inside;
}

-- ---- intervals with these ends
lies : (x y : Iv) (a b : Ends) → ends x ≡ a → ends y ≡ b → IsInside a.lo a.hi b.lo b.hi → Lies x y
lies x y a b e f h = subst (λ z. IsInside z.lo z.hi y.lo y.hi) (sym e) (subst (λ z. IsInside a.lo a.hi z.lo z.hi) (sym f) h)

pub matrices-nest : MatricesNest
matrices-nest a b m n ha hb h e f =
    let p0 = of a.q0 b.q0 h.q0 in
    let p1 = of a.q1 b.q1 h.q1 in
    let p2 = of a.q2 b.q2 h.q2 in
    let p3 = of a.q3 b.q3 h.q3 in
    let s0 = in-square (ends a.q0) (ends b.q0) p0 in
    let s1 = in-square (ends a.q1) (ends b.q1) p1 in
    let s2 = in-square (ends a.q2) (ends b.q2) p2 in
    let s3 = in-square (ends a.q3) (ends b.q3) p3 in
    let x : MatrixEnds = numerator_ends (rotation_ends a) in
    let y : MatrixEnds = numerator_ends (rotation_ends b) in
    let d : Ends = norm_ends (rotation_ends a) in
    let g : Ends = norm_ends (rotation_ends b) in
    let below : Part d g = in-sum (sum (square (ends a.q0)) (square (ends a.q1))) (sum (square (ends b.q0)) (square (ends b.q1))) (sum (square (ends a.q2)) (square (ends a.q3))) (sum (square (ends b.q2)) (square (ends b.q3)))
    (in-sum (square (ends a.q0)) (square (ends b.q0)) (square (ends a.q1)) (square (ends b.q1)) s0 s1) (in-sum (square (ends a.q2)) (square (ends b.q2)) (square (ends a.q3)) (square (ends b.q3)) s2 s3) in
    let large : pos 0 <ℤ g.lo = positive g.lo (norm-large b hb) in
    let go : (r s : Iv) (u v : Ends) → ends r ≡ quotient u d → ends s ≡ quotient v g → IsInside u.lo u.hi v.lo v.hi → Lies r s =
    λ r s u v k l i. lies r s (quotient u d) (quotient v g) k l (quotient-nests v.lo v.hi g.lo g.hi u.lo u.hi d.lo d.hi large below.ordered i below.inside) in
    record {
      x = record {
        x = go m.x.x n.x.x x.x.x y.x.x (ap (λ z. z.x.x) e) (ap (λ z. z.x.x) f) (balanced a.q0 a.q1 a.q2 a.q3 b.q0 b.q1 b.q2 b.q3 h.q0 h.q1 h.q2 h.q3);
        y = go m.x.y n.x.y x.x.y y.x.y (ap (λ z. z.x.y) e) (ap (λ z. z.x.y) f) (subtracted a.q1 a.q2 a.q0 a.q3 b.q1 b.q2 b.q0 b.q3 h.q1 h.q2 h.q0 h.q3);
        z = go m.x.z n.x.z x.x.z y.x.z (ap (λ z. z.x.z) e) (ap (λ z. z.x.z) f) (summed a.q1 a.q3 a.q0 a.q2 b.q1 b.q3 b.q0 b.q2 h.q1 h.q3 h.q0 h.q2);
      };
      y = record {
        x = go m.y.x n.y.x x.y.x y.y.x (ap (λ z. z.y.x) e) (ap (λ z. z.y.x) f) (summed a.q1 a.q2 a.q0 a.q3 b.q1 b.q2 b.q0 b.q3 h.q1 h.q2 h.q0 h.q3);
        y = go m.y.y n.y.y x.y.y y.y.y (ap (λ z. z.y.y) e) (ap (λ z. z.y.y) f) (balanced a.q0 a.q2 a.q1 a.q3 b.q0 b.q2 b.q1 b.q3 h.q0 h.q2 h.q1 h.q3);
        z = go m.y.z n.y.z x.y.z y.y.z (ap (λ z. z.y.z) e) (ap (λ z. z.y.z) f) (subtracted a.q2 a.q3 a.q0 a.q1 b.q2 b.q3 b.q0 b.q1 h.q2 h.q3 h.q0 h.q1);
      };
      z = record {
        x = go m.z.x n.z.x x.z.x y.z.x (ap (λ z. z.z.x) e) (ap (λ z. z.z.x) f) (subtracted a.q1 a.q3 a.q0 a.q2 b.q1 b.q3 b.q0 b.q2 h.q1 h.q3 h.q0 h.q2);
        y = go m.z.y n.z.y x.z.y y.z.y (ap (λ z. z.z.y) e) (ap (λ z. z.z.y) f) (summed a.q2 a.q3 a.q0 a.q1 b.q2 b.q3 b.q0 b.q1 h.q2 h.q3 h.q0 h.q1);
        z = go m.z.z n.z.z x.z.z y.z.z (ap (λ z. z.z.z) e) (ap (λ z. z.z.z) f) (balanced a.q0 a.q3 a.q1 a.q2 b.q0 b.q3 b.q1 b.q2 h.q0 h.q3 h.q1 h.q2);
      };
    }
  where
    positive : (z : ℤ) → pos (2 ^ 60) ≤ℤ z → pos 0 <ℤ z
    positive z h = omega (arith, ints)

    squared : (p q : Iv) → Lies p q → Part (square (ends p)) (square (ends q))
    squared p q h = in-square (ends p) (ends q) (of p q h)

    multiplied : (p q r s : Iv) → Lies p q → Lies r s → Part (product (ends p) (ends r)) (product (ends q) (ends s))
    multiplied p q r s h k = in-product (ends p) (ends q) (ends r) (ends s) (of p q h) (of r s k)

    balanced : (p q r s p' q' r' s' : Iv) → Lies p p' → Lies q q' → Lies r r' → Lies s s'
        → IsInside (balance (square (ends p)) (square (ends q)) (square (ends r)) (square (ends s))).lo (balance (square (ends p)) (square (ends q)) (square (ends r)) (square (ends s))).hi
        (balance (square (ends p')) (square (ends q')) (square (ends r')) (square (ends s'))).lo (balance (square (ends p')) (square (ends q')) (square (ends r')) (square (ends s'))).hi
    balanced p q r s p' q' r' s' h i j k =
        (in-difference (sum (square (ends p)) (square (ends q))) (sum (square (ends p')) (square (ends q'))) (sum (square (ends r)) (square (ends s))) (sum (square (ends r')) (square (ends s')))
        (in-sum (square (ends p)) (square (ends p')) (square (ends q)) (square (ends q')) (squared p p' h) (squared q q' i))
        (in-sum (square (ends r)) (square (ends r')) (square (ends s)) (square (ends s')) (squared r r' j) (squared s s' k))).inside

    summed : (p q r s p' q' r' s' : Iv) → Lies p p' → Lies q q' → Lies r r' → Lies s s'
        → IsInside (twice_sum (product (ends p) (ends q)) (product (ends r) (ends s))).lo (twice_sum (product (ends p) (ends q)) (product (ends r) (ends s))).hi
        (twice_sum (product (ends p') (ends q')) (product (ends r') (ends s'))).lo (twice_sum (product (ends p') (ends q')) (product (ends r') (ends s'))).hi
    summed p q r s p' q' r' s' h i j k =
        in-multiple (sum (product (ends p) (ends q)) (product (ends r) (ends s))) (sum (product (ends p') (ends q')) (product (ends r') (ends s'))) (pos 2)
        (in-sum (product (ends p) (ends q)) (product (ends p') (ends q')) (product (ends r) (ends s)) (product (ends r') (ends s')) (multiplied p p' q q' h i) (multiplied r r' s s' j k))

    subtracted : (p q r s p' q' r' s' : Iv) → Lies p p' → Lies q q' → Lies r r' → Lies s s'
        → IsInside (twice_difference (product (ends p) (ends q)) (product (ends r) (ends s))).lo (twice_difference (product (ends p) (ends q)) (product (ends r) (ends s))).hi
        (twice_difference (product (ends p') (ends q')) (product (ends r') (ends s'))).lo (twice_difference (product (ends p') (ends q')) (product (ends r') (ends s'))).hi
    subtracted p q r s p' q' r' s' h i j k =
        in-multiple (difference (product (ends p) (ends q)) (product (ends r) (ends s))) (difference (product (ends p') (ends q')) (product (ends r') (ends s'))) (pos 2)
        (in-difference (product (ends p) (ends q)) (product (ends p') (ends q')) (product (ends r) (ends s)) (product (ends r') (ends s')) (multiplied p p' q q' h i) (multiplied r r' s s' j k))

row-nests : (m n : VecBox) (v : V3) (r s : Iv) → VectorInside m n → ends r ≡ row_formula (vector_ends m) v → ends s ≡ row_formula (vector_ends n) v → Lies r s
row-nests m n v r s h e f =
    let a : Ends = row_sum_formula (vector_ends m) v in
    let b : Ends = row_sum_formula (vector_ends n) v in
    lies r s (narrowed a 14) (narrowed b 14) e f
    (narrowed-nests b.lo b.hi a.lo a.hi 14
    (sum-nests (sum (multiple (ends n.x) v.x) (multiple (ends n.y) v.y)).lo (sum (multiple (ends n.x) v.x) (multiple (ends n.y) v.y)).hi (multiple (ends n.z) v.z).lo (multiple (ends n.z) v.z).hi
    (sum (multiple (ends m.x) v.x) (multiple (ends m.y) v.y)).lo (sum (multiple (ends m.x) v.x) (multiple (ends m.y) v.y)).hi (multiple (ends m.z) v.z).lo (multiple (ends m.z) v.z).hi
    (sum-nests (multiple (ends n.x) v.x).lo (multiple (ends n.x) v.x).hi (multiple (ends n.y) v.y).lo (multiple (ends n.y) v.y).hi
    (multiple (ends m.x) v.x).lo (multiple (ends m.x) v.x).hi (multiple (ends m.y) v.y).lo (multiple (ends m.y) v.y).hi
    (in-multiple (ends m.x) (ends n.x) v.x (of m.x n.x h.x)) (in-multiple (ends m.y) (ends n.y) v.y (of m.y n.y h.y)))
    (in-multiple (ends m.z) (ends n.z) v.z (of m.z n.z h.z))))

pub turned-nest : TurnedNest
turned-nest m n v x y h e f = record {
  x = row-nests m.x n.x v x.x y.x h.x (ap (λ z. z.x) e) (ap (λ z. z.x) f);
  y = row-nests m.y n.y v x.y y.y h.y (ap (λ z. z.y) e) (ap (λ z. z.y) f);
  z = row-nests m.z n.z v x.z y.z h.z (ap (λ z. z.z) e) (ap (λ z. z.z) f);
}

pub moved-nest : MovedNest
moved-nest a b s t x y h k e f = record {
  x = lies x.x y.x (sum (ends a.x) (ends s.x)) (sum (ends b.x) (ends t.x)) (ap (λ z. z.x) e) (ap (λ z. z.x) f) (sum-nests b.x.lo b.x.hi t.x.lo t.x.hi a.x.lo a.x.hi s.x.lo s.x.hi h.x k.x);
  y = lies x.y y.y (sum (ends a.y) (ends s.y)) (sum (ends b.y) (ends t.y)) (ap (λ z. z.y) e) (ap (λ z. z.y) f) (sum-nests b.y.lo b.y.hi t.y.lo t.y.hi a.y.lo a.y.hi s.y.lo s.y.hi h.y k.y);
  z = lies x.z y.z (sum (ends a.z) (ends s.z)) (sum (ends b.z) (ends t.z)) (ap (λ z. z.z) e) (ap (λ z. z.z) f) (sum-nests b.z.lo b.z.hi t.z.lo t.z.hi a.z.lo a.z.hi s.z.lo s.z.hi h.z k.z);
}
