-- How large the values of points about an axis are, and that they are what their parts make them.
use Rattle.std.proofs.Common.{◌≡◌, subst, sym, ap, ◌∙◌, ℕ, ◌+◌, ◌*◌, ◌^◌, ◌≤◌, arith, unsigned_abs}
use Rattle.std.proofs.lemmas.Int.{ints, clamps, fits_signed_from_abs, to_z-of_z, unsigned_abs-mul}
use Rattle.std.proofs.lemmas.Nat.{mul-le}
use Rattle.std.specs.Int.{int_max, int_min, w128}
use Rattle.gd_base.specs.Limits.{TOLERANCE}
use Rattle.gd_flat.proofs.Sizes.{kept_wide}
use Rattle.std.specs.Prelude.{ℤ, pos, neg_ℤ, ◌+ℤ◌, ◌-ℤ◌, ◌*ℤ◌, ◌≤ℤ◌}
use Rattle.gd_axis.specs.AxisBoxes.{IsDistance2}
use Rattle.gd_axis.specs.AxisTests.{across, minor}
use Rattle.gd_int.proofs.Divisions.{ceil-least, floor-greatest}
use Rattle.gd_int.proofs.Integers.{neg-mul_left}
use Rattle.gd_interval.proofs.Wholes.{power_is_positive}
use Rattle.gd_interval.specs.Formulas.{narrow_hi, narrow_lo}
use Rattle.gd_interval.specs.declared.iv.Iv.{Iv}
use Rattle.gd_quat.specs.Boxes.{Fits, VectorFits}
use Rattle.gd_quat.specs.Formulas.{Ends, VectorEnds, square, sum}
use Rattle.gd_quat.specs.declared.shape.VecBox.{VecBox}
use Rattle.gd_zone.specs.Values.{squares_of}

-- ---- sizes
pub fits-in : (m n : ℕ) (a : Iv) → m ≤ n → Fits m a → Fits n a
fits-in m n a l h = record { lo = omega (arith, l, h.lo); hi = omega (arith, l, h.hi) }

pub vector-fits-in : (m n : ℕ) (a : VecBox) → m ≤ n → VectorFits m a → VectorFits n a
vector-fits-in m n a l h = record { x = fits-in m n a.x l h.x; y = fits-in m n a.y l h.y; z = fits-in m n a.z l h.z }

pub sub-fits : (a b r : Iv) (m : ℕ) → r.lo ≡ a.lo -ℤ b.hi → r.hi ≡ a.hi -ℤ b.lo → Fits m a → Fits m b → Fits (2 * m) r
sub-fits a b r m d e h k = record { lo = rw d (less a.lo b.hi h.lo k.hi); hi = rw e (less a.hi b.lo h.hi k.lo) }
  where
    less : (x y : ℤ) → unsigned_abs x ≤ m → unsigned_abs y ≤ m → unsigned_abs (x -ℤ y) ≤ 2 * m
    less x y f g = omega (arith, ints)

pub sum-fits : (a b r : Iv) (m n k : ℕ) → r.lo ≡ a.lo +ℤ b.lo → r.hi ≡ a.hi +ℤ b.hi → Fits m a → Fits n b → m + n ≤ k → Fits k r
sum-fits a b r m n k d e h i l = record { lo = rw d (add a.lo b.lo h.lo i.lo); hi = rw e (add a.hi b.hi h.hi i.hi) }
  where
    add : (x y : ℤ) → unsigned_abs x ≤ m → unsigned_abs y ≤ n → unsigned_abs (x +ℤ y) ≤ k
    add x y f g = omega (arith, ints)

pub narrow-fits : (a r : Iv) (bits m : ℕ) → Fits (m * 2 ^ bits) a → r.lo ≡ narrow_lo a.lo bits → r.hi ≡ narrow_hi a.hi bits → Fits m r
narrow-fits a r bits m h d e =
    let p = power_is_positive bits in
    let lo : neg_ℤ (pos m) ≤ℤ r.lo = rw d (floor-greatest a.lo (pos (2 ^ bits)) (neg_ℤ (pos m)) p (low m (2 ^ bits) a.lo h.lo)) in
    let hi : r.hi ≤ℤ pos m = rw e (ceil-least a.hi (pos (2 ^ bits)) (pos m) p (high m (2 ^ bits) a.hi h.hi)) in
    record { lo = inside r.lo r.hi lo hi r.ordered; hi = inside' r.lo r.hi lo hi r.ordered }
  where
    low : (m k : ℕ) (z : ℤ) → unsigned_abs z ≤ m * k → (neg_ℤ (pos m) *ℤ pos k) ≤ℤ z
    low m k z h = omega (arith, ints, h, neg-mul_left (pos m) (pos k))

    high : (m k : ℕ) (z : ℤ) → unsigned_abs z ≤ m * k → z ≤ℤ (pos m *ℤ pos k)
    high m k z h = omega (arith, ints, h)

    inside : (a c : ℤ) → neg_ℤ (pos m) ≤ℤ a → c ≤ℤ pos m → a ≤ℤ c → unsigned_abs a ≤ m
    inside a c h k o = omega (arith, ints)

    inside' : (a c : ℤ) → neg_ℤ (pos m) ≤ℤ a → c ≤ℤ pos m → a ≤ℤ c → unsigned_abs c ≤ m
    inside' a c h k o = omega (arith, ints)

-- ---- values by their parts
three : Ends → Ends → Ends → VectorEnds
three a b c = record { x = a; y = b; z = c }

pub across-is : (bits : ℕ) (n y : VectorEnds) (a b c : Ends) → a ≡ minor bits n.y y.z n.z y.y → b ≡ minor bits n.z y.x n.x y.z → c ≡ minor bits n.x y.y n.y y.x
    → record { x = a; y = b; z = c } ≡ across bits n y
unfolding across three
across-is bits n y a b c h i j =
    ap (λ z. three z b c) h ∙ ap (λ z. three (minor bits n.y y.z n.z y.y) z c) i ∙ ap (λ z. three (minor bits n.y y.z n.z y.y) (minor bits n.z y.x n.x y.z) z) j

pub squares-are : (y : VectorEnds) (r a b c : Ends) → r ≡ sum (sum a b) c → a ≡ square y.x → b ≡ square y.y → c ≡ square y.z → r ≡ squares_of y
unfolding squares_of
squares-are y r a b c e h i j = e ∙ ap (λ z. sum (sum z b) c) h ∙ ap (λ z. sum (sum (square y.x) z) c) i ∙ ap (λ z. sum (sum (square y.x) (square y.y)) z) j

-- ---- both ends of a value
pub lo-is-distance2 : (a : Iv) → pos 0 ≤ℤ a.lo → Fits (3 * 2 ^ 112) a → IsDistance2 a.lo
lo-is-distance2 a h f = (h, below a.lo f.lo)
  where
    below : (z : ℤ) → unsigned_abs z ≤ 3 * 2 ^ 112 → z ≤ℤ pos (3 * 2 ^ 112)
    below z h = omega (arith, ints, h)

pub hi-is-distance2 : (a : Iv) → pos 0 ≤ℤ a.lo → Fits (3 * 2 ^ 112) a → IsDistance2 a.hi
hi-is-distance2 a h f = (over a.lo a.hi h a.ordered, below a.hi f.hi)
  where
    over : (l u : ℤ) → pos 0 ≤ℤ l → l ≤ℤ u → pos 0 ≤ℤ u
    over l u h o = omega (arith, ints, h, o)

    below : (z : ℤ) → unsigned_abs z ≤ 3 * 2 ^ 112 → z ≤ℤ pos (3 * 2 ^ 112)
    below z h = omega (arith, ints, h)

pub three-are : (a b c x y z : Ends) → a ≡ x → b ≡ y → c ≡ z → ◌≡◌ {A = VectorEnds} (record { x = a; y = b; z = c }) (record { x = x; y = y; z = z })
unfolding three
three-are a b c x y z h i j = ap (λ e. three e b c) h ∙ ap (λ e. three x e c) i ∙ ap (λ e. three x y e) j

-- ---- 128-bit numbers
pub kept-large : (z : ℤ) → unsigned_abs z ≤ 2 ^ 120 → kept_wide z ≡ z
kept-large z h = to_z-of_z w128 z (fits_signed_from_abs w128 z (omega (arith, h)))

pub distance2-size : (z : ℤ) → IsDistance2 z → unsigned_abs z ≤ 2 ^ 120
distance2-size z h = bound z h.0 h.1
  where
    bound : (z : ℤ) → pos 0 ≤ℤ z → z ≤ℤ pos (3 * 2 ^ 112) → unsigned_abs z ≤ 2 ^ 120
    bound z h k = omega (arith, ints, h, k)

pub max-fits : (r a b : ℤ) → r ≡ int_max a b → IsDistance2 a → IsDistance2 b → IsDistance2 (kept_wide r)
max-fits r a b e h k =
    let f : IsDistance2 r = subst IsDistance2 (sym e) (over a b h.0 h.1 k.0 k.1) in
    subst IsDistance2 (sym (kept-large r (distance2-size r f))) f
  where
    over : (a b : ℤ) → pos 0 ≤ℤ a → a ≤ℤ pos (3 * 2 ^ 112) → pos 0 ≤ℤ b → b ≤ℤ pos (3 * 2 ^ 112) → IsDistance2 (int_max a b)
    over a b h i j k = (omega (arith, ints, clamps, h, i, j, k), omega (arith, ints, clamps, h, i, j, k))

pub min-fits : (r a b : ℤ) → r ≡ int_min a b → IsDistance2 a → IsDistance2 b → IsDistance2 (kept_wide r)
min-fits r a b e h k =
    let f : IsDistance2 r = subst IsDistance2 (sym e) (over a b h.0 h.1 k.0 k.1) in
    subst IsDistance2 (sym (kept-large r (distance2-size r f))) f
  where
    over : (a b : ℤ) → pos 0 ≤ℤ a → a ≤ℤ pos (3 * 2 ^ 112) → pos 0 ≤ℤ b → b ≤ℤ pos (3 * 2 ^ 112) → IsDistance2 (int_min a b)
    over a b h i j k = (omega (arith, ints, clamps, h, i, j, k), omega (arith, ints, clamps, h, i, j, k))

pub square-times-size : (t : ℕ) (m : ℤ) → t ≤ TOLERANCE → unsigned_abs m ≤ 2 ^ 54 → unsigned_abs ((pos t *ℤ pos t) *ℤ m) ≤ 2 ^ 102
square-times-size t m h k =
    let square : t * t ≤ TOLERANCE * TOLERANCE = mul-le t t TOLERANCE TOLERANCE h h in
    let all : unsigned_abs ((pos t *ℤ pos t) *ℤ m) ≤ TOLERANCE * TOLERANCE * 2 ^ 54 = rw unsigned_abs-mul (mul-le (t * t) (unsigned_abs m) (TOLERANCE * TOLERANCE) (2 ^ 54) square k) in
    omega (arith, all)
