-- How large the ends of sums are.
use Rattle.std.proofs.Common.{◌≡◌, sym, ap, subst, ◌∙◌, ℕ, ◌+◌, ◌*◌, ◌^◌, ◌≤◌, ◌<◌, arith, unsigned_abs}
use Rattle.std.proofs.lemmas.Int.{ints, clamps, unsigned_abs-mul}
use Rattle.std.proofs.lemmas.Nat.{mul-le}
use Rattle.std.specs.Int.{int_max, int_min}
use Rattle.std.specs.Prelude.{ℤ, ◌+ℤ◌, ◌*ℤ◌, ◌≤ℤ◌}
use Rattle.gd_interval.specs.declared.iv.Iv.{Iv}
use Rattle.gd_quat.specs.Boxes.{Fits, VectorFits}
use Rattle.gd_quat.specs.Formulas.{Ends, VectorEnds, difference, ends, moved_formula, multiple, sum, vector_ends}
use Rattle.gd_quat.specs.declared.shape.VecBox.{VecBox}
use Rattle.gd_vec.specs.Vector.{IsWithin, norm2_of}
use Rattle.gd_vec.specs.declared.vector.V3.{V3}
use Rattle.gd_zone.specs.Extremes.{lower, upper}
use Rattle.gd_zone.specs.Values.{IsSized, IsSizedEnd, across, along}
use Rattle.gd_zone.specs.declared.condition.Surface.{Surface}
use Rattle.gd_zone.specs.declared.condition.Surface.TheVariants.{Plane, Axis, Ball}

pub sum-fits : (a b r : Iv) (m n : ℕ) → ends r ≡ sum (ends a) (ends b) → Fits m a → Fits n b → Fits (m + n) r
sum-fits a b r m n e h k = record {
  lo = subst (λ z. unsigned_abs z.lo ≤ m + n) (sym e) (add a.lo b.lo h.lo k.lo);
  hi = subst (λ z. unsigned_abs z.hi ≤ m + n) (sym e) (add a.hi b.hi h.hi k.hi);
}
  where
    add : (x y : ℤ) → unsigned_abs x ≤ m → unsigned_abs y ≤ n → unsigned_abs (x +ℤ y) ≤ m + n
    add x y h k = omega (arith, ints)

pub moved-fits : (a b r : VecBox) (m n : ℕ) → vector_ends r ≡ moved_formula (vector_ends a) (vector_ends b) → VectorFits m a → VectorFits n b → VectorFits (m + n) r
moved-fits a b r m n e h k = record {
  x = sum-fits a.x b.x r.x m n (ap (λ z. z.x) e) h.x k.x;
  y = sum-fits a.y b.y r.y m n (ap (λ z. z.y) e) h.y k.y;
  z = sum-fits a.z b.z r.z m n (ap (λ z. z.z) e) h.z k.z;
}

pub add-fits : (a b r : Iv) (m n k : ℕ) → r.lo ≡ a.lo +ℤ b.lo → r.hi ≡ a.hi +ℤ b.hi → Fits m a → Fits n b → m + n ≤ k → Fits k r
add-fits a b r m n k d e f g h = record {
  lo = subst (λ z. unsigned_abs z ≤ k) (sym d) (add a.lo b.lo f.lo g.lo);
  hi = subst (λ z. unsigned_abs z ≤ k) (sym e) (add a.hi b.hi f.hi g.hi);
}
  where
    add : (x y : ℤ) → unsigned_abs x ≤ m → unsigned_abs y ≤ n → unsigned_abs (x +ℤ y) ≤ k
    add x y f g = omega (arith, ints)

pub add-below : (x y : ℤ) (m n k : ℕ) → unsigned_abs x ≤ m → unsigned_abs y ≤ n → m + n < k → unsigned_abs (x +ℤ y) < k
add-below x y m n k h i j = omega (arith, ints)

-- ---- larger bounds, and the sizes that comparisons need
more : (m n : ℕ) (r : Iv) → m ≤ n → Fits m r → Fits n r
more m n r l h = record { lo = omega (arith, h.lo, l); hi = omega (arith, h.hi, l) }

pub vector-more : (m n : ℕ) (r : VecBox) → m ≤ n → VectorFits m r → VectorFits n r
vector-more m n r l h = record { x = more m n r.x l h.x; y = more m n r.y l h.y; z = more m n r.z l h.z }

entry-size : (a : ℤ) → unsigned_abs a ≤ 2 ^ 10 → unsigned_abs (a *ℤ a) ≤ 2 ^ 20
entry-size a h = rw unsigned_abs-mul (mul-le (unsigned_abs a) (unsigned_abs a) (2 ^ 10) (2 ^ 10) h h)

pub direction-size : (d : V3) → IsWithin (2 ^ 10) d → unsigned_abs (norm2_of d) ≤ 2 ^ 22
direction-size d h =
    let x = entry-size d.x h.x in
    let y = entry-size d.y h.y in
    let z = entry-size d.z h.z in
    omega (arith, ints, x, y, z)

pub bound-size : (h n : ℤ) → unsigned_abs h ≤ 2 ^ 42 → unsigned_abs n ≤ 2 ^ 22 → unsigned_abs h * unsigned_abs h * unsigned_abs n < 2 ^ 126
bound-size h n k l =
    let m : unsigned_abs h * unsigned_abs h * unsigned_abs n ≤ 2 ^ 42 * 2 ^ 42 * 2 ^ 22 =
    mul-le (unsigned_abs h * unsigned_abs h) (unsigned_abs n) (2 ^ 42 * 2 ^ 42) (2 ^ 22) (mul-le (unsigned_abs h) (unsigned_abs h) (2 ^ 42) (2 ^ 42) k k) l in
    omega (arith, m)

-- ---- the lesser of both ends, and the greater
pub lower-order : (a b c d : ℤ) → a ≤ℤ b → c ≤ℤ d → int_min a c ≤ℤ int_min b d
lower-order a b c d h k = omega (arith, ints, clamps, h, k)

pub upper-order : (a b c d : ℤ) → a ≤ℤ b → c ≤ℤ d → int_max a c ≤ℤ int_max b d
upper-order a b c d h k = omega (arith, ints, clamps, h, k)

min-sized : (s : Surface) (a b : ℤ) → IsSizedEnd s a → IsSizedEnd s b → IsSizedEnd s (int_min a b)
min-sized (Plane d p) a b h k = omega (arith, ints, clamps, h, k)
min-sized (Axis d p) a b h k = let u = h.0 in let v = h.1 in let w = k.0 in let x = k.1 in (omega (arith, ints, clamps, u, w), omega (arith, ints, clamps, v, x))
min-sized (Ball p) a b h k = let u = h.0 in let v = h.1 in let w = k.0 in let x = k.1 in (omega (arith, ints, clamps, u, w), omega (arith, ints, clamps, v, x))

max-sized : (s : Surface) (a b : ℤ) → IsSizedEnd s a → IsSizedEnd s b → IsSizedEnd s (int_max a b)
max-sized (Plane d p) a b h k = omega (arith, ints, clamps, h, k)
max-sized (Axis d p) a b h k = let u = h.0 in let v = h.1 in let w = k.0 in let x = k.1 in (omega (arith, ints, clamps, u, w), omega (arith, ints, clamps, v, x))
max-sized (Ball p) a b h k = let u = h.0 in let v = h.1 in let w = k.0 in let x = k.1 in (omega (arith, ints, clamps, u, w), omega (arith, ints, clamps, v, x))

pub lower-sized : (s : Surface) (a b r : Iv) → ends r ≡ lower (ends a) (ends b) → IsSized s a → IsSized s b → IsSized s r
lower-sized s a b r e h k = record {
  lo = subst (IsSizedEnd s) (sym (ap (λ z. z.lo) e)) (min-sized s a.lo b.lo h.lo k.lo);
  hi = subst (IsSizedEnd s) (sym (ap (λ z. z.hi) e)) (min-sized s a.hi b.hi h.hi k.hi);
}

pub upper-sized : (s : Surface) (a b r : Iv) → ends r ≡ upper (ends a) (ends b) → IsSized s a → IsSized s b → IsSized s r
upper-sized s a b r e h k = record {
  lo = subst (IsSizedEnd s) (sym (ap (λ z. z.lo) e)) (max-sized s a.lo b.lo h.lo k.lo);
  hi = subst (IsSizedEnd s) (sym (ap (λ z. z.hi) e)) (max-sized s a.hi b.hi h.hi k.hi);
}

-- ---- values by their parts
pub along-is : (d : V3) (y : VectorEnds) (r a b c : Ends) → r ≡ sum (sum a b) c → a ≡ multiple y.x d.x → b ≡ multiple y.y d.y → c ≡ multiple y.z d.z → r ≡ along d y
unfolding along
along-is d y r a b c e h i j = e ∙ ap (λ z. sum (sum z b) c) h ∙ ap (λ z. sum (sum (multiple y.x d.x) z) c) i ∙ ap (λ z. sum (sum (multiple y.x d.x) (multiple y.y d.y)) z) j

three : Ends → Ends → Ends → VectorEnds
three a b c = record { x = a; y = b; z = c }

pub across-is : (d : V3) (y : VectorEnds) (a b c : Ends) → a ≡ difference (multiple y.z d.y) (multiple y.y d.z) → b ≡ difference (multiple y.x d.z) (multiple y.z d.x) → c ≡ difference (multiple y.y d.x) (multiple y.x d.y)
    → record { x = a; y = b; z = c } ≡ across d y
unfolding across three
across-is d y a b c h i j =
    ap (λ z. three z b c) h ∙ ap (λ z. three (difference (multiple y.z d.y) (multiple y.y d.z)) z c) i
    ∙ ap (λ z. three (difference (multiple y.z d.y) (multiple y.y d.z)) (difference (multiple y.x d.z) (multiple y.z d.x)) z) j
