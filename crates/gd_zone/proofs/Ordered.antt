-- The ends of values are in order, and those of squared distances aren't below 0.
use Rattle.std.proofs.Common.{ℕ, Bool, true, false, ◌==◌, arith}
use Rattle.std.proofs.lemmas.Int.{ints}
use Rattle.std.specs.Prelude.{ℤ, pos, ◌+ℤ◌, ◌*ℤ◌, ◌≤ℤ◌, if◌then◌else◌}
use Rattle.gd_int.proofs.Integers.{square_nonneg}
use Rattle.gd_interval.proofs.Products.{square-ordered, square_lo-reached, two-ordered}
use Rattle.gd_interval.proofs.Quotients.{narrow-ordered}
use Rattle.gd_quat.specs.Formulas.{Ends, VectorEnds, alone, difference, ends, moved_formula, multiple, row_formula, row_sum_formula, square, sum, vector_ends}
use Rattle.gd_quat.specs.declared.shape.VecBox.{VecBox}
use Rattle.gd_vec.specs.Vector.{norm2_of}
use Rattle.gd_vec.specs.declared.vector.V3.{V3}
use Rattle.gd_zone.specs.Boxes.{placed_ends}
use Rattle.gd_zone.specs.Values.{across, from_point, image_ends, squares_of, still_image, value_ends}
use Rattle.gd_zone.specs.declared.condition.Surface.TheVariants.{Axis, Ball}
use Rattle.gd_zone.specs.declared.placed.Placed.{Placed}

abbrev pub Ordered : Ends → Type 0
Ordered a = a.lo ≤ℤ a.hi

record VectorOrdered (a : VectorEnds) : Type 0 where
  x : Ordered a.x
  y : Ordered a.y
  z : Ordered a.z

o-sum : (a b : Ends) → Ordered a → Ordered b → Ordered (sum a b)
o-sum a b h k = omega (arith, ints, h, k)

o-difference : (a b : Ends) → Ordered a → Ordered b → Ordered (difference a b)
o-difference a b h k = omega (arith, ints, h, k)

o-multiple : (a : Ends) (f : ℤ) → Ordered (multiple a f)
o-multiple a f = two-ordered (a.lo *ℤ f) (a.hi *ℤ f)

o-row : (m : VectorEnds) (v : V3) → Ordered (row_formula m v)
o-row m v =
    let s : Ends = row_sum_formula m v in
    narrow-ordered s.lo s.hi 14 (o-sum (sum (multiple m.x v.x) (multiple m.y v.y)) (multiple m.z v.z) (o-sum (multiple m.x v.x) (multiple m.y v.y) (o-multiple m.x v.x) (o-multiple m.y v.y)) (o-multiple m.z v.z))

o-still : (b : Placed) (v : V3) → VectorOrdered (still_image (placed_ends b) v)
o-still b v = record {
  x = o-sum (row_formula (vector_ends b.matrix.x) v) (ends b.shift.x) (o-row (vector_ends b.matrix.x) v) b.shift.x.ordered;
  y = o-sum (row_formula (vector_ends b.matrix.y) v) (ends b.shift.y) (o-row (vector_ends b.matrix.y) v) b.shift.y.ordered;
  z = o-sum (row_formula (vector_ends b.matrix.z) v) (ends b.shift.z) (o-row (vector_ends b.matrix.z) v) b.shift.z.ordered;
}

o-moved : (a : VectorEnds) (by : VecBox) → VectorOrdered a → VectorOrdered (moved_formula a (vector_ends by))
o-moved a by h = record { x = o-sum a.x (ends by.x) h.x by.x.ordered; y = o-sum a.y (ends by.y) h.y by.y.ordered; z = o-sum a.z (ends by.z) h.z by.z.ordered }

o-image : (b : Placed) (offset : ℕ) (v : V3) → VectorOrdered (image_ends (placed_ends b) offset v)
o-image b offset v = choose (offset == 1) (offset == 2)
  where
    choose : (first second : Bool) → VectorOrdered (if first then moved_formula (still_image (placed_ends b) v) (vector_ends b.first) else (if second then moved_formula (still_image (placed_ends b) v) (vector_ends b.second) else still_image (placed_ends b) v))
    choose true second = o-moved (still_image (placed_ends b) v) b.first (o-still b v)
    choose false true = o-moved (still_image (placed_ends b) v) b.second (o-still b v)
    choose false false = o-still b v

o-less : (x : Ends) (z : ℤ) → Ordered x → Ordered (difference x (alone z))
o-less x z h = omega (arith, ints, h)

o-from : (x : VectorEnds) (a : V3) → VectorOrdered x → VectorOrdered (from_point x a)
o-from x a h = record { x = o-less x.x (pos 65536 *ℤ a.x) h.x; y = o-less x.y (pos 65536 *ℤ a.y) h.y; z = o-less x.z (pos 65536 *ℤ a.z) h.z }

o-across : (d : V3) (y : VectorEnds) → VectorOrdered (across d y)
unfolding across
o-across d y = record {
  x = o-difference (multiple y.z d.y) (multiple y.y d.z) (o-multiple y.z d.y) (o-multiple y.y d.z);
  y = o-difference (multiple y.x d.z) (multiple y.z d.x) (o-multiple y.x d.z) (o-multiple y.z d.x);
  z = o-difference (multiple y.y d.x) (multiple y.x d.y) (o-multiple y.y d.x) (o-multiple y.x d.y);
}

o-squares : (y : VectorEnds) → VectorOrdered y → (pos 0 ≤ℤ (squares_of y).lo) × Ordered (squares_of y)
unfolding squares_of
o-squares y h = (
  three (square y.x).lo (square y.y).lo (square y.z).lo (sign y.x h.x) (sign y.y h.y) (sign y.z h.z),
  o-sum (sum (square y.x) (square y.y)) (square y.z) (o-sum (square y.x) (square y.y) (square-ordered y.x.lo y.x.hi h.x) (square-ordered y.y.lo y.y.hi h.y)) (square-ordered y.z.lo y.z.hi h.z),
)
  where
    sign : (a : Ends) → Ordered a → pos 0 ≤ℤ (square a).lo
    sign a o = square_lo-reached (λ v. pos 0 ≤ℤ v) a.lo a.hi o (λ x l u. square_nonneg x)

    three : (a b c : ℤ) → pos 0 ≤ℤ a → pos 0 ≤ℤ b → pos 0 ≤ℤ c → pos 0 ≤ℤ ((a +ℤ b) +ℤ c)
    three a b c h i j = omega (arith, ints)

pub axis-ordered : (d a : V3) (b : Placed) (offset : ℕ) (v : V3) → (pos 0 ≤ℤ (value_ends (Axis d a) (placed_ends b) offset v).lo) × Ordered (value_ends (Axis d a) (placed_ends b) offset v)
axis-ordered d a b offset v = o-squares (across d (from_point (image_ends (placed_ends b) offset v) a)) (o-across d (from_point (image_ends (placed_ends b) offset v) a))

pub ball-ordered : (a : V3) (b : Placed) (offset : ℕ) (v : V3) → (pos 0 ≤ℤ (value_ends (Ball a) (placed_ends b) offset v).lo) × Ordered (value_ends (Ball a) (placed_ends b) offset v)
ball-ordered a b offset v = o-squares (from_point (image_ends (placed_ends b) offset v) a) (o-from (image_ends (placed_ends b) offset v) a (o-image b offset v))

pub norm2-nonneg : (v : V3) → pos 0 ≤ℤ norm2_of v
norm2-nonneg v = omega (arith, ints, square_nonneg v.x, square_nonneg v.y, square_nonneg v.z)
