-- The values of points over a box hold the exact ones at every axis that the box holds.
use Rattle.std.proofs.Common.{◌≡◌, refl, subst, ℕ, ◌*◌, ◌^◌, ◌≤◌, [], ◌∷◌, arith}
use Rattle.std.proofs.lemmas.Int.{ints, clamps}
use Rattle.std.specs.Int.{int_max}
use Rattle.std.proofs.Math.Nat.{mul-pos}
use Rattle.std.specs.Prelude.{ℤ, pos, ◌+ℤ◌, ◌-ℤ◌, ◌*ℤ◌, ◌≤ℤ◌, ◌<ℤ◌}
use Rattle.gd_axis.specs.Sizes.{UNIT_SQUARE}
use Rattle.gd_base.specs.Scales.{FINE, ONE}
use Rattle.gd_dir.specs.Boxes.{HoldsOffset}
use Rattle.gd_dir.specs.declared.shape.DirBox.{DirBox}
use Rattle.gd_dir.specs.declared.shape.FormShape.{FormShape}
use Rattle.gd_dir.specs.declared.shape.FormShape.TheVariants.{Flat, Line, Circle, Cylinder}
use Rattle.gd_axis.specs.Axes.{Axis, distance2, from_axis}
use Rattle.gd_axis.specs.AxisLaws.{HoldsAxis, HoldsEntries}
use Rattle.gd_axis.specs.AxisTests.{across, bits_of, direction_ends, from_offset, length2_of, less_offset, minor}
use Rattle.gd_axis.specs.AxisTests.{value_of}
use Rattle.gd_int.proofs.Integers.{mul_le_out, square_nonneg, ≤ℤ_trans}
use Rattle.gd_interval.proofs.Encloses.{difference_inside, multiple_inside, narrowed_inside, product_inside}
use Rattle.gd_interval.proofs.Encloses.{square_inside, sum_inside}
use Rattle.gd_interval.proofs.Products.{four-ordered, scale_lo-reached, square_lo-reached}
use Rattle.gd_interval.proofs.Quotients.{narrow-ordered}
use Rattle.gd_interval.proofs.Wholes.{floor-sign, power_is_positive}
use Rattle.gd_interval.specs.Interval.{Inside}
use Rattle.gd_quat.proofs.Polynomials.{var, num, ◌⊕◌, ◌⊖◌, ◌⊗◌, equal}
use Rattle.gd_quat.specs.Formulas.{Ends, VectorEnds, multiple, narrowed, product, square, sum}
use Rattle.gd_quat.specs.Placements.{times}
use Rattle.gd_vec.specs.Vector.{norm2_of}
use Rattle.gd_zone.proofs.Ordered.{norm2-nonneg}
use Rattle.gd_vec.specs.declared.vector.V3.{V3}
use Rattle.gd_zone.specs.Conditions.{cross}
use Rattle.gd_zone.specs.Values.{squares_of}

-- three pairs of ends hold the fraction w / k
record Hold (e : VectorEnds) (k : ℕ) (w : V3) : Type 0 where
  x : Inside e.x.lo e.x.hi k w.x
  y : Inside e.y.lo e.y.hi k w.y
  z : Inside e.z.lo e.z.hi k w.z

self : (z : ℤ) → z ≤ℤ z
self z = omega (arith, ints)

-- a factor above 0 is left out of both
cut : (lo hi x : ℤ) (n m : ℕ) → pos 0 <ℤ pos m → Inside lo hi (n * m) (x *ℤ pos m) → Inside lo hi n x
cut lo hi x n m p h =
    let e : (z : ℤ) → z *ℤ pos (n * m) ≡ (z *ℤ pos n) *ℤ pos m =
    λ z. equal (z ∷ pos n ∷ pos m ∷ []) (var 0 ⊗ (var 1 ⊗ var 2)) ((var 0 ⊗ var 1) ⊗ var 2) refl in (
      mul_le_out (lo *ℤ pos n) x (pos m) p (subst (λ z. z ≤ℤ (x *ℤ pos m)) (e lo) h.0),
      mul_le_out x (hi *ℤ pos n) (pos m) p (subst (λ z. (x *ℤ pos m) ≤ℤ z) (e hi) h.1),
    )

-- ---- from the axis' point
less-inside : (lo hi a p o : ℤ) (s : ℕ) → Inside lo hi s (pos FINE *ℤ o)
    → Inside (less_offset lo hi a p).lo (less_offset lo hi a p).hi s (pos FINE *ℤ (pos s *ℤ (p -ℤ a) -ℤ o))
less-inside lo hi a p o s h =
    let c : ℤ = pos FINE *ℤ (p -ℤ a) in
    let g : c *ℤ pos s -ℤ pos FINE *ℤ o ≡ pos FINE *ℤ (pos s *ℤ (p -ℤ a) -ℤ o) =
    equal (p ∷ a ∷ o ∷ pos s ∷ []) ((num (pos FINE) ⊗ (var 0 ⊖ var 1)) ⊗ var 3 ⊖ num (pos FINE) ⊗ var 2)
    (num (pos FINE) ⊗ (var 3 ⊗ (var 0 ⊖ var 1) ⊖ var 2)) refl in
    subst (λ z. Inside (c -ℤ hi) (c -ℤ lo) s z) g
    (difference_inside c c lo hi s (c *ℤ pos s) (pos FINE *ℤ o) (self (c *ℤ pos s), self (c *ℤ pos s)) h)

from-held : (b : DirBox) (x : Axis) (a p : V3) → HoldsOffset b (pos x.scale) x.offset
    → Hold (from_offset b a p) x.scale (times (pos FINE) (from_axis x a p))
from-held b x a p h = record {
  x = less-inside b.offset_lo.x b.offset_hi.x a.x p.x x.offset.x x.scale h.x;
  y = less-inside b.offset_lo.y b.offset_hi.y a.y p.y x.offset.y x.scale h.y;
  z = less-inside b.offset_lo.z b.offset_hi.z a.z p.z x.offset.z x.scale h.z;
}

-- ---- across the direction
minor-inside : (bits k s : ℕ) (n y m z : Ends) (d u e v : ℤ) → Inside n.lo n.hi k (pos (2 ^ bits) *ℤ d)
    → Inside y.lo y.hi s (pos FINE *ℤ u) → Inside m.lo m.hi k (pos (2 ^ bits) *ℤ e) → Inside z.lo z.hi s (pos FINE *ℤ v)
    → Inside (minor bits n y m z).lo (minor bits n y m z).hi (k * s) (pos FINE *ℤ (d *ℤ u -ℤ e *ℤ v))
minor-inside bits k s n y m z d u e v hn hy hm hz =
    let f : ℤ = pos (2 ^ bits) in
    let a : Ends = product n y in
    let b : Ends = product m z in
    let w : ℤ = pos FINE *ℤ (d *ℤ u -ℤ e *ℤ v) in
    let l : ℤ = (f *ℤ d) *ℤ (pos FINE *ℤ u) in
    let r : ℤ = (f *ℤ e) *ℤ (pos FINE *ℤ v) in
    let g : l -ℤ r ≡ w *ℤ f =
    equal (f ∷ d ∷ u ∷ e ∷ v ∷ []) ((var 0 ⊗ var 1) ⊗ (num (pos FINE) ⊗ var 2) ⊖ (var 0 ⊗ var 3) ⊗
    (num (pos FINE) ⊗ var 4)) ((num (pos FINE) ⊗ (var 1 ⊗ var 2 ⊖ var 3 ⊗ var 4)) ⊗ var 0) refl in
    let i : Inside (a.lo -ℤ b.hi) (a.hi -ℤ b.lo) (k * s) (l -ℤ r) =
    difference_inside a.lo a.hi b.lo b.hi (k * s) l r
    (product_inside n.lo n.hi y.lo y.hi k s (f *ℤ d) (pos FINE *ℤ u) hn hy)
    (product_inside m.lo m.hi z.lo z.hi k s (f *ℤ e) (pos FINE *ℤ v) hm hz) in
    cut (minor bits n y m z).lo (minor bits n y m z).hi w (k * s) (2 ^ bits) (power_is_positive bits)
    (narrowed_inside (a.lo -ℤ b.hi) (a.hi -ℤ b.lo) bits (k * s) (w *ℤ f)
    (subst (λ t. Inside (a.lo -ℤ b.hi) (a.hi -ℤ b.lo) (k * s) t) g i))

across-held : (bits k s : ℕ) (n y : VectorEnds) (d z : V3) → Hold n k (times (pos (2 ^ bits)) d)
    → Hold y s (times (pos FINE) z) → Hold (across bits n y) (k * s) (times (pos FINE) (cross d z))
unfolding across
across-held bits k s n y d z h i = record {
  x = minor-inside bits k s n.y y.z n.z y.y d.y z.z d.z z.y h.y i.z h.z i.y;
  y = minor-inside bits k s n.z y.x n.x y.z d.z z.x d.x z.z h.z i.x h.x i.z;
  z = minor-inside bits k s n.x y.y n.y y.x d.x z.y d.y z.x h.x i.y h.y i.x;
}

-- ---- squares of vectors in a unit of 1 / f
squares-inside : (f : ℤ) (z : V3) (y : VectorEnds) (k : ℕ) → Hold y k (times f z)
    → Inside (squares_of y).lo (squares_of y).hi (k * k) ((f *ℤ f) *ℤ norm2_of z)
unfolding squares_of
squares-inside f z y k h =
    let a : Ends = square y.x in
    let b : Ends = square y.y in
    let c : Ends = square y.z in
    let u : ℤ = (f *ℤ z.x) *ℤ (f *ℤ z.x) in
    let v : ℤ = (f *ℤ z.y) *ℤ (f *ℤ z.y) in
    let w : ℤ = (f *ℤ z.z) *ℤ (f *ℤ z.z) in
    let g : (u +ℤ v) +ℤ w ≡ (f *ℤ f) *ℤ norm2_of z =
    equal (f ∷ z.x ∷ z.y ∷ z.z ∷ []) (((var 0 ⊗ var 1) ⊗ (var 0 ⊗ var 1) ⊕ (var 0 ⊗ var 2) ⊗ (var 0 ⊗ var 2)) ⊕
    (var 0 ⊗ var 3) ⊗ (var 0 ⊗ var 3))
    ((var 0 ⊗ var 0) ⊗ (var 1 ⊗ var 1 ⊕ var 2 ⊗ var 2 ⊕ var 3 ⊗ var 3)) refl in
    subst (λ t. Inside ((a.lo +ℤ b.lo) +ℤ c.lo) ((a.hi +ℤ b.hi) +ℤ c.hi) (k * k) t) g
    (sum_inside (sum a b).lo (sum a b).hi c.lo c.hi (k * k) (u +ℤ v) w
    (sum_inside a.lo a.hi b.lo b.hi (k * k) u v (square_inside y.x.lo y.x.hi k (f *ℤ z.x) h.x)
    (square_inside y.y.lo y.y.hi k (f *ℤ z.y) h.y))
    (square_inside y.z.lo y.z.hi k (f *ℤ z.z) h.z))

entries-held : (bits : ℕ) (b : DirBox) (k : ℕ) (n : V3) → HoldsEntries bits b k n
    → Hold (direction_ends b) k (times (pos (2 ^ bits)) n)
entries-held bits b k n h = record { x = h.x; y = h.y; z = h.z }

-- ---- the value of a point, and the direction's squared length
pub value-inside : (shape : FormShape) (b : DirBox) (a p : V3) (x : Axis) (h : HoldsAxis shape b x)
    → Inside (value_of shape b a p).lo (value_of shape b a p).hi ((h.lead * x.scale) * (h.lead * x.scale))
    (pos UNIT_SQUARE *ℤ distance2 x a p)
value-inside shape b a p x h =
    squares-inside (pos FINE) (cross x.direction (from_axis x a p))
    (across (bits_of shape) (direction_ends b) (from_offset b a p)) (h.lead * x.scale)
    (across-held (bits_of shape) h.lead x.scale (direction_ends b) (from_offset b a p) x.direction (from_axis x a p)
    (entries-held (bits_of shape) b h.lead x.direction h.direction) (from-held b x a p h.offset))

ratio-length : (b : DirBox) (k : ℕ) (n : V3) → HoldsEntries 30 b k n
    → Inside (narrowed (squares_of (direction_ends b)) 28).lo (narrowed (squares_of (direction_ends b)) 28).hi (k * k)
    (pos UNIT_SQUARE *ℤ norm2_of n)
ratio-length b k n h =
    let q : Ends = squares_of (direction_ends b) in
    let m : ℤ = norm2_of n in
    let g : (pos ONE *ℤ pos ONE) *ℤ m ≡ (pos UNIT_SQUARE *ℤ m) *ℤ pos (2 ^ 28) =
    equal (m ∷ []) (num (pos (2 ^ 60)) ⊗ var 0) ((num (pos UNIT_SQUARE) ⊗ var 0) ⊗ num (pos (2 ^ 28))) refl in
    cut (narrowed q 28).lo (narrowed q 28).hi (pos UNIT_SQUARE *ℤ m) (k * k) (2 ^ 28) (power_is_positive 28)
    (narrowed_inside q.lo q.hi 28 (k * k) ((pos UNIT_SQUARE *ℤ m) *ℤ pos (2 ^ 28))
    (subst (λ t. Inside q.lo q.hi (k * k) t) g (squares-inside (pos ONE) n (direction_ends b) k
    (entries-held 30 b k n h))))

whole-length : (b : DirBox) (k : ℕ) (n : V3) → HoldsEntries 0 b k n
    → Inside (multiple (squares_of (direction_ends b)) (pos UNIT_SQUARE)).lo
    (multiple (squares_of (direction_ends b)) (pos UNIT_SQUARE)).hi (k * k) (pos UNIT_SQUARE *ℤ norm2_of n)
whole-length b k n h =
    let q : Ends = squares_of (direction_ends b) in
    let m : ℤ = norm2_of n in
    let g : ((pos 1 *ℤ pos 1) *ℤ m) *ℤ pos UNIT_SQUARE ≡ pos UNIT_SQUARE *ℤ m =
    equal (m ∷ []) ((num (pos 1) ⊗ var 0) ⊗ num (pos UNIT_SQUARE)) (num (pos UNIT_SQUARE) ⊗ var 0) refl in
    subst (λ t. Inside (multiple q (pos UNIT_SQUARE)).lo (multiple q (pos UNIT_SQUARE)).hi (k * k) t) g
    (multiple_inside q.lo q.hi (pos UNIT_SQUARE) (k * k) ((pos 1 *ℤ pos 1) *ℤ m)
    (squares-inside (pos 1) n (direction_ends b) k (entries-held 0 b k n h)))

pub length-inside : (shape : FormShape) (b : DirBox) (x : Axis) (h : HoldsAxis shape b x)
    → Inside (length2_of shape b).lo (length2_of shape b).hi (h.lead * h.lead) (pos UNIT_SQUARE *ℤ norm2_of x.direction)
length-inside Flat b x h = ratio-length b h.lead x.direction h.direction
length-inside Line b x h = ratio-length b h.lead x.direction h.direction
length-inside Circle b x h = whole-length b h.lead x.direction h.direction
length-inside Cylinder b x h = ratio-length b h.lead x.direction h.direction

-- ---- they aren't below 0
squares-sign : (y : VectorEnds) → y.x.lo ≤ℤ y.x.hi → y.y.lo ≤ℤ y.y.hi → y.z.lo ≤ℤ y.z.hi → pos 0 ≤ℤ (squares_of y).lo
unfolding squares_of
squares-sign y h i j = three (square y.x).lo (square y.y).lo (square y.z).lo (sign y.x h) (sign y.y i) (sign y.z j)
  where
    sign : (a : Ends) → a.lo ≤ℤ a.hi → pos 0 ≤ℤ (square a).lo
    sign a o = square_lo-reached (λ v. pos 0 ≤ℤ v) a.lo a.hi o (λ x l u. square_nonneg x)

    three : (a b c : ℤ) → pos 0 ≤ℤ a → pos 0 ≤ℤ b → pos 0 ≤ℤ c → pos 0 ≤ℤ ((a +ℤ b) +ℤ c)
    three a b c h i j = omega (arith, ints)

minor-ordered : (bits : ℕ) (n y m z : Ends) → (minor bits n y m z).lo ≤ℤ (minor bits n y m z).hi
minor-ordered bits n y m z =
    let a : Ends = product n y in
    let b : Ends = product m z in
    narrow-ordered (a.lo -ℤ b.hi) (a.hi -ℤ b.lo) bits
    (apart a.lo a.hi b.lo b.hi (four-ordered (n.lo *ℤ y.lo) (n.lo *ℤ y.hi) (n.hi *ℤ y.lo) (n.hi *ℤ y.hi))
    (four-ordered (m.lo *ℤ z.lo) (m.lo *ℤ z.hi) (m.hi *ℤ z.lo) (m.hi *ℤ z.hi)))
  where
    apart : (p q r s : ℤ) → p ≤ℤ q → r ≤ℤ s → (p -ℤ s) ≤ℤ (q -ℤ r)
    apart p q r s h i = omega (arith, ints)

pub value-sign : (shape : FormShape) (b : DirBox) (a p : V3) → pos 0 ≤ℤ (value_of shape b a p).lo
unfolding across
value-sign shape b a p =
    let bits : ℕ = bits_of shape in
    let n : VectorEnds = direction_ends b in
    let y : VectorEnds = from_offset b a p in
    squares-sign (across bits n y) (minor-ordered bits n.y y.z n.z y.y) (minor-ordered bits n.z y.x n.x y.z)
    (minor-ordered bits n.x y.y n.y y.x)

ordered-from : (lo hi x : ℤ) (k : ℕ) → 1 ≤ k → Inside lo hi k x → lo ≤ℤ hi
ordered-from lo hi x k p h =
    mul_le_out lo hi (pos k) (omega (arith, ints, p)) (≤ℤ_trans (lo *ℤ pos k) x (hi *ℤ pos k) h.0 h.1)

direction-sign : (bits : ℕ) (b : DirBox) (k : ℕ) (n : V3) → 1 ≤ k → HoldsEntries bits b k n
    → pos 0 ≤ℤ (squares_of (direction_ends b)).lo
direction-sign bits b k n p h =
    squares-sign (direction_ends b) (ordered-from b.lo.x b.hi.x (pos (2 ^ bits) *ℤ n.x) k p h.x)
    (ordered-from b.lo.y b.hi.y (pos (2 ^ bits) *ℤ n.y) k p h.y)
    (ordered-from b.lo.z b.hi.z (pos (2 ^ bits) *ℤ n.z) k p h.z)

narrow-sign : (b : DirBox) (k : ℕ) (n : V3) → 1 ≤ k → HoldsEntries 30 b k n
    → pos 0 ≤ℤ (narrowed (squares_of (direction_ends b)) 28).lo
narrow-sign b k n p h =
    floor-sign (squares_of (direction_ends b)).lo (pos (2 ^ 28)) (power_is_positive 28) (direction-sign 30 b k n p h)

multiple-sign : (b : DirBox) (k : ℕ) (n : V3) → 1 ≤ k → HoldsEntries 0 b k n
    → pos 0 ≤ℤ (multiple (squares_of (direction_ends b)) (pos UNIT_SQUARE)).lo
multiple-sign b k n p h =
    let q : Ends = squares_of (direction_ends b) in
    let o : q.lo ≤ℤ q.hi =
    ordered-from q.lo q.hi ((pos 1 *ℤ pos 1) *ℤ norm2_of n) (k * k) (mul-pos p p)
    (squares-inside (pos 1) n (direction_ends b) k (entries-held 0 b k n h)) in
    scale_lo-reached (λ v. pos 0 ≤ℤ v) q.lo q.hi (pos UNIT_SQUARE) o
    (λ x l u. grown x (≤ℤ_trans (pos 0) q.lo x (direction-sign 0 b k n p h) l))
  where
    grown : (x : ℤ) → pos 0 ≤ℤ x → pos 0 ≤ℤ (x *ℤ pos UNIT_SQUARE)
    grown x g = omega (arith, ints, g)

pub length-sign : (shape : FormShape) (b : DirBox) (x : Axis) → HoldsAxis shape b x → pos 0 ≤ℤ (length2_of shape b).lo
length-sign Flat b x h = narrow-sign b h.lead x.direction h.leads h.direction
length-sign Line b x h = narrow-sign b h.lead x.direction h.leads h.direction
length-sign Circle b x h = multiple-sign b h.lead x.direction h.leads h.direction
length-sign Cylinder b x h = narrow-sign b h.lead x.direction h.leads h.direction

pub length-top : (shape : FormShape) (b : DirBox) (x : Axis) → HoldsAxis shape b x → pos 0 ≤ℤ (length2_of shape b).hi
length-top shape b x h =
    let e : Ends = length2_of shape b in
    ≤ℤ_trans (pos 0) e.lo e.hi (length-sign shape b x h)
    (ordered-from e.lo e.hi (pos UNIT_SQUARE *ℤ norm2_of x.direction) (h.lead * h.lead) (mul-pos h.leads h.leads)
    (length-inside shape b x h))

pub value-top : (shape : FormShape) (b : DirBox) (a p : V3) → pos 0 ≤ℤ (value_of shape b a p).hi
unfolding squares_of
value-top shape b a p =
    let w : VectorEnds = across (bits_of shape) (direction_ends b) (from_offset b a p) in
    three (square w.x).hi (square w.y).hi (square w.z).hi (top w.x) (top w.y) (top w.z)
  where
    most : (p q : ℤ) → pos 0 ≤ℤ p → pos 0 ≤ℤ int_max p q
    most p q h = omega (arith, ints, clamps, h)

    top : (a : Ends) → pos 0 ≤ℤ (square a).hi
    top a = most (a.lo *ℤ a.lo) (a.hi *ℤ a.hi) (square_nonneg a.lo)

    three : (a b c : ℤ) → pos 0 ≤ℤ a → pos 0 ≤ℤ b → pos 0 ≤ℤ c → pos 0 ≤ℤ ((a +ℤ b) +ℤ c)
    three a b c h i j = omega (arith, ints)

pub distance2-nonneg : (x : Axis) (a p : V3) → pos 0 ≤ℤ distance2 x a p
distance2-nonneg x a p = norm2-nonneg (cross x.direction (from_axis x a p))
