-- Boxes in 64 bits: how large sums and products are, and that a lens shows what a demand looks at.
use Rattle.std.proofs.Common.{◌≡◌, refl, sym, subst, ap, ◌∙◌, ℕ, ◌+◌, ◌*◌, ◌^◌, ◌≤◌, ◌<◌, Bool, true, false, ◌==◌, arith, unsigned_abs, rules, FitsSigned, of_z, to_z}
use Rattle.std.proofs.lemmas.Int.{ints, clamps, to_z-of_z, unsigned_abs-mul}
use Rattle.std.proofs.lemmas.Nat.{mul-le}
use Rattle.std.specs.Int.{int_max, int_min, w64}
use Rattle.std.specs.Prelude.{ℤ, pos, neg_ℤ, ◌+ℤ◌, ◌-ℤ◌, ◌*ℤ◌, ◌≤ℤ◌, ◌<ℤ◌, if◌then◌else◌}
use Rattle.gd_int.proofs.Divisions.{ceil-least, floor-greatest}
use Rattle.gd_interval.specs.Formulas.{narrow_hi, narrow_lo, scale_hi, scale_lo}
use Rattle.gd_quat.specs.Formulas.{Ends, MatrixEnds, VectorEnds, alone, difference, moved_formula, multiple, row_sum_formula, sum, turned_formula}
use Rattle.gd_vec.specs.declared.vector.V3.{V3}
use Rattle.gd_zone.specs.Boxes.{PlacedEnds}
use Rattle.gd_zone.specs.Shorts.{IsLens, NOWHERE, ShortFits, lens_value, moved_value, moves_of, offset_shift, point_of, short_ends, short_matrix, short_vector}
use Rattle.gd_zone.specs.Tests.{demanded_ends}
use Rattle.gd_zone.specs.Values.{across, along, from_point, image_ends, squares_of, still_image, value_ends}
use Rattle.gd_zone.specs.declared.condition.Demand.{Demand}
use Rattle.gd_zone.specs.declared.condition.Demand.TheVariants.{Within, Spread, Contact, HugInner, HugOuter}
use Rattle.gd_zone.specs.declared.condition.Surface.{Surface}
use Rattle.gd_zone.specs.declared.condition.Surface.TheVariants.{Plane, Axis, Ball}
use Rattle.gd_zone.specs.declared.shape.Lens.{Lens}
use Rattle.gd_zone.specs.declared.shape.Short.{Short}

-- ---- numbers of 64 bits are read as they were written
pub same-order : (a b : ℤ) → FitsSigned w64 a → FitsSigned w64 b → a ≤ℤ b → to_z w64 (of_z w64 a) ≤ℤ to_z w64 (of_z w64 b)
same-order a b f g h = rw (to_z-of_z w64 a f, to_z-of_z w64 b g) h

-- ---- sizes
times-size : (x k : ℤ) (m n : ℕ) → unsigned_abs x ≤ m → unsigned_abs k ≤ n → unsigned_abs (x *ℤ k) ≤ m * n
times-size x k m n h i = rw unsigned_abs-mul (mul-le (unsigned_abs x) (unsigned_abs k) m n h i)

min-size : (x y : ℤ) (n : ℕ) → unsigned_abs x ≤ n → unsigned_abs y ≤ n → unsigned_abs (int_min x y) ≤ n
min-size x y n h k = omega (arith, ints, clamps, h, k)

max-size : (x y : ℤ) (n : ℕ) → unsigned_abs x ≤ n → unsigned_abs y ≤ n → unsigned_abs (int_max x y) ≤ n
max-size x y n h k = omega (arith, ints, clamps, h, k)

pub multiple-short : (a r : Short) (k : ℤ) (m n : ℕ) → ShortFits m a → unsigned_abs k ≤ n → r.lo ≡ scale_lo a.lo a.hi k → r.hi ≡ scale_hi a.lo a.hi k → ShortFits (m * n) r
multiple-short a r k m n h i e f = record {
  lo = rw e (min-size (a.lo *ℤ k) (a.hi *ℤ k) (m * n) (times-size a.lo k m n h.lo i) (times-size a.hi k m n h.hi i));
  hi = rw f (max-size (a.lo *ℤ k) (a.hi *ℤ k) (m * n) (times-size a.lo k m n h.lo i) (times-size a.hi k m n h.hi i));
}

pub add-short : (a b r : Short) (m n k : ℕ) → r.lo ≡ a.lo +ℤ b.lo → r.hi ≡ a.hi +ℤ b.hi → ShortFits m a → ShortFits n b → m + n ≤ k → ShortFits k r
add-short a b r m n k d e f g h = record {
  lo = subst (λ z. unsigned_abs z ≤ k) (sym d) (add a.lo b.lo f.lo g.lo);
  hi = subst (λ z. unsigned_abs z ≤ k) (sym e) (add a.hi b.hi f.hi g.hi);
}
  where
    add : (x y : ℤ) → unsigned_abs x ≤ m → unsigned_abs y ≤ n → unsigned_abs (x +ℤ y) ≤ k
    add x y f g = omega (arith, ints)

pub sub-short : (a b r : Short) (m n k : ℕ) → r.lo ≡ a.lo -ℤ b.hi → r.hi ≡ a.hi -ℤ b.lo → ShortFits m a → ShortFits n b → m + n ≤ k → ShortFits k r
sub-short a b r m n k d e f g h = record {
  lo = subst (λ z. unsigned_abs z ≤ k) (sym d) (less a.lo b.hi f.lo g.hi);
  hi = subst (λ z. unsigned_abs z ≤ k) (sym e) (less a.hi b.lo f.hi g.lo);
}
  where
    less : (x y : ℤ) → unsigned_abs x ≤ m → unsigned_abs y ≤ n → unsigned_abs (x -ℤ y) ≤ k
    less x y f g = omega (arith, ints)

pub narrowed-short : (a r : Short) → r.lo ≡ narrow_lo a.lo 14 → r.hi ≡ narrow_hi a.hi 14 → ShortFits (2 ^ 61) a → ShortFits (2 ^ 47) r
narrowed-short a r d e h =
    let lo : neg_ℤ (pos (2 ^ 47)) ≤ℤ narrow_lo a.lo 14 = floor-greatest a.lo (pos (2 ^ 14)) (neg_ℤ (pos (2 ^ 47))) p (low a.lo h.lo) in
    let hi : narrow_hi a.hi 14 ≤ℤ pos (2 ^ 47) = ceil-least a.hi (pos (2 ^ 14)) (pos (2 ^ 47)) p (high a.hi h.hi) in
    let l : neg_ℤ (pos (2 ^ 47)) ≤ℤ r.lo = subst (λ t. neg_ℤ (pos (2 ^ 47)) ≤ℤ t) (sym d) lo in
    let u : r.hi ≤ℤ pos (2 ^ 47) = subst (λ t. t ≤ℤ pos (2 ^ 47)) (sym e) hi in
    record { lo = inside r.lo r.hi l u r.ordered; hi = inside' r.lo r.hi l u r.ordered }
  where
    p : pos 0 <ℤ pos (2 ^ 14)
    p = omega (arith, ints)

    low : (x : ℤ) → unsigned_abs x ≤ 2 ^ 61 → (neg_ℤ (pos (2 ^ 47)) *ℤ pos (2 ^ 14)) ≤ℤ x
    low x h = omega (arith, ints)

    high : (x : ℤ) → unsigned_abs x ≤ 2 ^ 61 → x ≤ℤ (pos (2 ^ 47) *ℤ pos (2 ^ 14))
    high x h = omega (arith, ints)

    inside : (a c : ℤ) → neg_ℤ (pos (2 ^ 47)) ≤ℤ a → c ≤ℤ pos (2 ^ 47) → a ≤ℤ c → unsigned_abs a ≤ 2 ^ 47
    inside a c h k o = omega (arith, ints)

    inside' : (a c : ℤ) → neg_ℤ (pos (2 ^ 47)) ≤ℤ a → c ≤ℤ pos (2 ^ 47) → a ≤ℤ c → unsigned_abs c ≤ 2 ^ 47
    inside' a c h k o = omega (arith, ints)

-- ---- a row by its products
pub row-is : (m : VectorEnds) (v : V3) (r a b c : Ends) → r ≡ sum (sum a b) c → a ≡ multiple m.x v.x → b ≡ multiple m.y v.y → c ≡ multiple m.z v.z → r ≡ row_sum_formula m v
row-is m v r a b c e h i j = e ∙ ap (λ z. sum (sum z b) c) h ∙ ap (λ z. sum (sum (multiple m.x v.x) z) c) i ∙ ap (λ z. sum (sum (multiple m.x v.x) (multiple m.y v.y)) z) j

-- ---- what is added may be added up before
abbrev pair : ℤ → ℤ → Ends
pair l h = record { lo = l; hi = h }

abbrev triple : Ends → Ends → Ends → VectorEnds
triple a b c = record { x = a; y = b; z = c }

same : (a b : Ends) → a.lo ≡ b.lo → a.hi ≡ b.hi → a ≡ b
same a b e f = ap (λ l. pair l a.hi) e ∙ ap (λ h. pair b.lo h) f

same-vector : (a b : VectorEnds) → a.x ≡ b.x → a.y ≡ b.y → a.z ≡ b.z → a ≡ b
same-vector a b e f g = ap (λ x. triple x a.y a.z) e ∙ ap (λ y. triple b.x y a.z) f ∙ ap (λ z. triple b.x b.y z) g

pub sum-is : (a b r : Ends) → r.lo ≡ a.lo +ℤ b.lo → r.hi ≡ a.hi +ℤ b.hi → r ≡ sum a b
sum-is a b r e f = same r (sum a b) e f

nothing-added : (a : Ends) → sum a (alone (pos 0)) ≡ a
nothing-added a = same (sum a (alone (pos 0))) a (zero a.lo) (zero a.hi)
  where
    zero : (x : ℤ) → x +ℤ pos 0 ≡ x
    zero x = omega (arith, ints)

still-moved : (t : VectorEnds) → moved_formula t NOWHERE ≡ t
still-moved t = same-vector (moved_formula t NOWHERE) t (nothing-added t.x) (nothing-added t.y) (nothing-added t.z)

one : (t s : Ends) (z : ℤ) → sum t (difference s (alone z)) ≡ difference (sum t s) (alone z)
one t s z = same (sum t (difference s (alone z))) (difference (sum t s) (alone z)) (by t.lo s.lo) (by t.hi s.hi)
  where
    by : (x y : ℤ) → x +ℤ (y -ℤ z) ≡ (x +ℤ y) -ℤ z
    by x y = omega (arith, ints)

two : (t s f : Ends) (z : ℤ) → sum t (difference (sum s f) (alone z)) ≡ difference (sum (sum t s) f) (alone z)
two t s f z = same (sum t (difference (sum s f) (alone z))) (difference (sum (sum t s) f) (alone z)) (by t.lo s.lo f.lo) (by t.hi s.hi f.hi)
  where
    by : (x y w : ℤ) → x +ℤ ((y +ℤ w) -ℤ z) ≡ ((x +ℤ y) +ℤ w) -ℤ z
    by x y w = omega (arith, ints)

ones : (t s : VectorEnds) (a : V3) → moved_formula t (from_point s a) ≡ from_point (moved_formula t s) a
ones t s a = same-vector (moved_formula t (from_point s a)) (from_point (moved_formula t s) a) (one t.x s.x (pos (2 ^ 16) *ℤ a.x)) (one t.y s.y (pos (2 ^ 16) *ℤ a.y)) (one t.z s.z (pos (2 ^ 16) *ℤ a.z))

twos : (t s f : VectorEnds) (a : V3) → moved_formula t (from_point (moved_formula s f) a) ≡ from_point (moved_formula (moved_formula t s) f) a
twos t s f a =
    same-vector (moved_formula t (from_point (moved_formula s f) a)) (from_point (moved_formula (moved_formula t s) f) a) (two t.x s.x f.x (pos (2 ^ 16) *ℤ a.x)) (two t.y s.y f.y (pos (2 ^ 16) *ℤ a.y))
    (two t.z s.z f.z (pos (2 ^ 16) *ℤ a.z))

together : (b : PlacedEnds) (offset : ℕ) (v a : V3) → moved_formula (turned_formula b.matrix v) (from_point (offset_shift b offset) a) ≡ from_point (image_ends b offset v) a
together b offset v a = choose (offset == 1) (offset == 2)
  where
    choose : (first second : Bool)
        → moved_formula (turned_formula b.matrix v) (from_point (if first then moved_formula b.shift b.first else (if second then moved_formula b.shift b.second else b.shift)) a)
        ≡ from_point (if first then moved_formula (still_image b v) b.first else (if second then moved_formula (still_image b v) b.second else still_image b v)) a
    choose true second = twos (turned_formula b.matrix v) b.shift b.first a
    choose false true = twos (turned_formula b.matrix v) b.shift b.second a
    choose false false = ones (turned_formula b.matrix v) b.shift a

-- ---- what a lens shows
shows : (s : Surface) (l : Lens) (v : V3) (m : MatrixEnds) (by : VectorEnds) → IsLens m by l → lens_value s l v ≡ moved_value s (moved_formula (turned_formula m v) by)
shows s l v m by is = ap (λ z. moved_value s (moved_formula (turned_formula z v) (short_vector l.by))) is.matrix ∙ ap (λ z. moved_value s (moved_formula (turned_formula m v) z)) is.by

whole : (s : Surface) (b : PlacedEnds) (offset : ℕ) (v : V3) → moved_value s (moved_formula (turned_formula b.matrix v) (from_point (offset_shift b offset) (point_of s))) ≡ value_ends s b offset v
whole (Plane d p) b offset v = ap (λ z. along d z) (together b offset v p)
whole (Axis d p) b offset v = ap (λ z. squares_of (across d z)) (together b offset v p)
whole (Ball p) b offset v = ap (λ z. squares_of z) (together b offset v p)

pub lens-value : (s : Surface) (b : PlacedEnds) (offset : ℕ) (v : V3) (l : Lens) (by : VectorEnds) → IsLens b.matrix by l → by ≡ from_point (offset_shift b offset) (point_of s) → lens_value s l v ≡ value_ends s b offset v
lens-value s b offset v l by is e = shows s l v b.matrix by is ∙ ap (λ z. moved_value s (moved_formula (turned_formula b.matrix v) z)) e ∙ whole s b offset v

demanded : (s : Surface) (d : Demand) (b : PlacedEnds) (offset : ℕ) (v : V3) → moved_value s (moved_formula (turned_formula b.matrix v) (moves_of s d b offset)) ≡ demanded_ends s d b offset v
demanded (Plane n p) (Spread t) b offset v = ap (λ z. along n z) (still-moved (turned_formula b.matrix v))
demanded (Plane n p) (Within lo hi) b offset v = whole (Plane n p) b offset v
demanded (Plane n p) (Contact hi) b offset v = whole (Plane n p) b offset v
demanded (Plane n p) (HugInner t) b offset v = whole (Plane n p) b offset v
demanded (Plane n p) (HugOuter t) b offset v = whole (Plane n p) b offset v
demanded (Axis n p) d b offset v = whole (Axis n p) b offset v
demanded (Ball p) d b offset v = whole (Ball p) b offset v

pub lens-demanded : (s : Surface) (d : Demand) (b : PlacedEnds) (offset : ℕ) (v : V3) (l : Lens) → IsLens b.matrix (moves_of s d b offset) l → lens_value s l v ≡ demanded_ends s d b offset v
lens-demanded s d b offset v l is = shows s l v b.matrix (moves_of s d b offset) is ∙ demanded s d b offset v
