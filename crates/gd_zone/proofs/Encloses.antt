-- The values of points hold the exact ones.
use Rattle.std.proofs.Common.{◌≡◌, refl, sym, subst, ℕ, ◌*◌, ◌^◌, [], ◌∷◌, Bool, true, false, ◌==◌, arith}
use Rattle.std.proofs.lemmas.Int.{ints}
use Rattle.std.specs.Prelude.{ℤ, pos, ◌+ℤ◌, ◌-ℤ◌, ◌*ℤ◌, ◌≤ℤ◌, if◌then◌else◌}
use Rattle.gd_int.proofs.Integers.{mul_le_out}
use Rattle.gd_interval.proofs.Encloses.{difference_inside, multiple_inside, narrowed_inside, rescaled, square_inside, sum_inside}
use Rattle.gd_interval.specs.Interval.{Inside}
use Rattle.gd_interval.specs.declared.iv.Iv.{Iv}
use Rattle.gd_quat.proofs.Polynomials.{var, num, ◌⊕◌, ◌⊖◌, ◌⊗◌, equal}
use Rattle.gd_quat.specs.Boxes.{HoldsVector}
use Rattle.gd_quat.specs.Formulas.{Ends, VectorEnds, alone, difference, ends, moved_formula, multiple, row_formula, square, sum, turned_formula, vector_ends}
use Rattle.gd_quat.specs.Placements.{Placement, denominator_of, image_of, image_under, offset_of, plus, times}
use Rattle.gd_quat.specs.Rotations.{applied, matrix_of, norm_of}
use Rattle.gd_quat.specs.declared.shape.VecBox.{VecBox}
use Rattle.gd_vec.specs.Vector.{dot_of, norm2_of}
use Rattle.gd_vec.specs.Vector as vectors
use Rattle.gd_vec.specs.declared.vector.V3.{V3}
use Rattle.gd_zone.specs.Boxes.{HoldsPlacement, placed_ends}
use Rattle.gd_zone.specs.Conditions.{cross, exact_value, from_surface}
use Rattle.gd_zone.specs.Values.{EnclosesValue, across, along, from_point, image_ends, squares_of, still_image, value_ends}
use Rattle.gd_zone.specs.declared.condition.Surface.{Surface}
use Rattle.gd_zone.specs.declared.condition.Surface.TheVariants.{Plane, Axis, Ball}
use Rattle.gd_zone.specs.declared.placed.Placed.{Placed}

-- three pairs of ends hold the fraction w / k
record Hold (e : VectorEnds) (k : ℕ) (w : V3) : Type 0 where
  x : Inside e.x.lo e.x.hi k w.x
  y : Inside e.y.lo e.y.hi k w.y
  z : Inside e.z.lo e.z.hi k w.z

-- ---- a turned vector, and its sum with a translation
row-inside : (m : VecBox) (v e : V3) (k : ℕ) → HoldsVector m k e → Inside (row_formula (vector_ends m) v).lo (row_formula (vector_ends m) v).hi (k * 2 ^ 14) (dot_of e v)
row-inside m v e k h =
    let a : Ends = multiple (ends m.x) v.x in
    let b : Ends = multiple (ends m.y) v.y in
    let c : Ends = multiple (ends m.z) v.z in
    narrowed_inside (sum (sum a b) c).lo (sum (sum a b) c).hi 14 k (dot_of e v)
    (sum_inside (sum a b).lo (sum a b).hi c.lo c.hi k (e.x *ℤ v.x +ℤ e.y *ℤ v.y) (e.z *ℤ v.z)
    (sum_inside a.lo a.hi b.lo b.hi k (e.x *ℤ v.x) (e.y *ℤ v.y) (multiple_inside m.x.lo m.x.hi v.x k e.x h.x) (multiple_inside m.y.lo m.y.hi v.y k e.y h.y))
    (multiple_inside m.z.lo m.z.hi v.z k e.z h.z))

-- 2^14 is left out of both
cut : (lo hi x : ℤ) (n : ℕ) → Inside lo hi (n * 2 ^ 14) (x *ℤ pos (2 ^ 14)) → Inside lo hi n x
cut lo hi x n h =
    let e : (z : ℤ) → z *ℤ pos (n * 2 ^ 14) ≡ (z *ℤ pos n) *ℤ pos (2 ^ 14) = λ z. equal (z ∷ pos n ∷ pos (2 ^ 14) ∷ []) (var 0 ⊗ (var 1 ⊗ var 2)) ((var 0 ⊗ var 1) ⊗ var 2) refl in (
      mul_le_out (lo *ℤ pos n) x (pos (2 ^ 14)) (omega (arith, ints)) (subst (λ z. z ≤ℤ (x *ℤ pos (2 ^ 14))) (e lo) h.0),
      mul_le_out x (hi *ℤ pos n) (pos (2 ^ 14)) (omega (arith, ints)) (subst (λ z. (x *ℤ pos (2 ^ 14)) ≤ℤ z) (e hi) h.1),
    )

-- a translation over s is one over n s
over-both : (a : Iv) (n s : ℕ) (t : ℤ) → Inside a.lo a.hi s (pos (2 ^ 16) *ℤ t) → Inside a.lo a.hi (n * s) (pos (2 ^ 16) *ℤ (pos n *ℤ t))
over-both a n s t h =
    let o : s * n ≡ n * s = omega arith in
    let g : (pos (2 ^ 16) *ℤ t) *ℤ pos n ≡ pos (2 ^ 16) *ℤ (pos n *ℤ t) = equal (t ∷ pos n ∷ []) ((num (pos (2 ^ 16)) ⊗ var 0) ⊗ var 1) (num (pos (2 ^ 16)) ⊗ (var 1 ⊗ var 0)) refl in
    subst (λ z. Inside a.lo a.hi (n * s) z) g (subst (λ z. Inside a.lo a.hi z ((pos (2 ^ 16) *ℤ t) *ℤ pos n)) o (rescaled a.lo a.hi s n (pos (2 ^ 16) *ℤ t) h))

still-inside : (m : VecBox) (by : Iv) (row v : V3) (n s : ℕ) (t : ℤ) → HoldsVector m n (times (pos (2 ^ 30)) row) → Inside by.lo by.hi s (pos (2 ^ 16) *ℤ t)
    → Inside (sum (row_formula (vector_ends m) v) (ends by)).lo (sum (row_formula (vector_ends m) v) (ends by)).hi (n * s) (pos (2 ^ 16) *ℤ (pos s *ℤ dot_of row v +ℤ pos n *ℤ t))
still-inside m by row v n s t h i =
    let a : Ends = row_formula (vector_ends m) v in
    let w : ℤ = dot_of row v in
    let d : dot_of (times (pos (2 ^ 30)) row) v ≡ (pos (2 ^ 16) *ℤ w) *ℤ pos (2 ^ 14) =
    equal (row.x ∷ row.y ∷ row.z ∷ v.x ∷ v.y ∷ v.z ∷ []) ((num (pos (2 ^ 30)) ⊗ var 0) ⊗ var 3 ⊕ (num (pos (2 ^ 30)) ⊗ var 1) ⊗ var 4 ⊕ (num (pos (2 ^ 30)) ⊗ var 2) ⊗ var 5)
    ((num (pos (2 ^ 16)) ⊗ (var 0 ⊗ var 3 ⊕ var 1 ⊗ var 4 ⊕ var 2 ⊗ var 5)) ⊗ num (pos (2 ^ 14))) refl in
    let b : Inside a.lo a.hi n (pos (2 ^ 16) *ℤ w) = cut a.lo a.hi (pos (2 ^ 16) *ℤ w) n (subst (λ z. Inside a.lo a.hi (n * 2 ^ 14) z) d (row-inside m v (times (pos (2 ^ 30)) row) n h)) in
    let c = sum_inside a.lo a.hi by.lo by.hi (n * s) ((pos (2 ^ 16) *ℤ w) *ℤ pos s) (pos (2 ^ 16) *ℤ (pos n *ℤ t)) (rescaled a.lo a.hi n s (pos (2 ^ 16) *ℤ w) b) (over-both by n s t i) in
    let g : (pos (2 ^ 16) *ℤ w) *ℤ pos s +ℤ pos (2 ^ 16) *ℤ (pos n *ℤ t) ≡ pos (2 ^ 16) *ℤ (pos s *ℤ w +ℤ pos n *ℤ t) =
    equal (w ∷ pos s ∷ t ∷ pos n ∷ []) ((num (pos (2 ^ 16)) ⊗ var 0) ⊗ var 1 ⊕ num (pos (2 ^ 16)) ⊗ (var 3 ⊗ var 2)) (num (pos (2 ^ 16)) ⊗ (var 1 ⊗ var 0 ⊕ var 3 ⊗ var 2)) refl in
    subst (λ z. Inside (a.lo +ℤ by.lo) (a.hi +ℤ by.hi) (n * s) z) g c

-- with an offset too, and with none
moved-inside : (a : Ends) (by : Iv) (n s : ℕ) (w t : ℤ) → Inside a.lo a.hi (n * s) (pos (2 ^ 16) *ℤ w) → Inside by.lo by.hi s (pos (2 ^ 16) *ℤ t)
    → Inside (sum a (ends by)).lo (sum a (ends by)).hi (n * s) (pos (2 ^ 16) *ℤ (w +ℤ pos n *ℤ t))
moved-inside a by n s w t h i =
    let g : pos (2 ^ 16) *ℤ w +ℤ pos (2 ^ 16) *ℤ (pos n *ℤ t) ≡ pos (2 ^ 16) *ℤ (w +ℤ pos n *ℤ t) = equal (w ∷ t ∷ pos n ∷ []) (num (pos (2 ^ 16)) ⊗ var 0 ⊕ num (pos (2 ^ 16)) ⊗ (var 2 ⊗ var 1)) (num (pos (2 ^ 16)) ⊗ (var 0 ⊕ var 2 ⊗ var 1)) refl in
    subst (λ z. Inside (a.lo +ℤ by.lo) (a.hi +ℤ by.hi) (n * s) z) g (sum_inside a.lo a.hi by.lo by.hi (n * s) (pos (2 ^ 16) *ℤ w) (pos (2 ^ 16) *ℤ (pos n *ℤ t)) h (over-both by n s t i))

unmoved : (w : ℤ) (n : ℕ) → w ≡ w +ℤ pos n *ℤ pos 0
unmoved w n = equal (w ∷ pos n ∷ []) (var 0) (var 0 ⊕ var 1 ⊗ num (pos 0)) refl

module _ (b : Placed) (p : Placement) (h : HoldsPlacement b p) (v : V3) where
  still-held : Hold (still_image (placed_ends b) v) (denominator_of p) (times (pos (2 ^ 16)) (image_of p v))
  still-held = record {
    x = still-inside b.matrix.x b.shift.x (matrix_of p.turn).x v (norm_of p.turn) p.scale p.shift.x h.matrix.x h.shift.x;
    y = still-inside b.matrix.y b.shift.y (matrix_of p.turn).y v (norm_of p.turn) p.scale p.shift.y h.matrix.y h.shift.y;
    z = still-inside b.matrix.z b.shift.z (matrix_of p.turn).z v (norm_of p.turn) p.scale p.shift.z h.matrix.z h.shift.z;
  }

  -- by an offset of the box
  moved-held : (by : VecBox) (u : V3) → HoldsVector by p.scale (times (pos (2 ^ 16)) u)
      → Hold (moved_formula (still_image (placed_ends b) v) (vector_ends by)) (denominator_of p)
      (times (pos (2 ^ 16)) (plus (image_of p v) (times (pos (norm_of p.turn)) u)))
  moved-held by u i =
      let s : VectorEnds = still_image (placed_ends b) v in
      let w : V3 = image_of p v in
      let g = still-held in
      record {
        x = moved-inside s.x by.x (norm_of p.turn) p.scale w.x u.x g.x i.x;
        y = moved-inside s.y by.y (norm_of p.turn) p.scale w.y u.y g.y i.y;
        z = moved-inside s.z by.z (norm_of p.turn) p.scale w.z u.z g.z i.z;
      }

  unmoved-held : Hold (still_image (placed_ends b) v) (denominator_of p)
      (times (pos (2 ^ 16)) (plus (image_of p v) (times (pos (norm_of p.turn)) (record { x = pos 0; y = pos 0; z = pos 0 }))))
  unmoved-held =
      let s : VectorEnds = still_image (placed_ends b) v in
      let w : V3 = image_of p v in
      let g = still-held in
      record {
        x = subst (λ z. Inside s.x.lo s.x.hi (denominator_of p) (pos (2 ^ 16) *ℤ z)) (unmoved w.x (norm_of p.turn)) g.x;
        y = subst (λ z. Inside s.y.lo s.y.hi (denominator_of p) (pos (2 ^ 16) *ℤ z)) (unmoved w.y (norm_of p.turn)) g.y;
        z = subst (λ z. Inside s.z.lo s.z.hi (denominator_of p) (pos (2 ^ 16) *ℤ z)) (unmoved w.z (norm_of p.turn)) g.z;
      }

  image-held : (offset : ℕ) → Hold (image_ends (placed_ends b) offset v) (denominator_of p) (times (pos (2 ^ 16)) (image_under p offset v))
  image-held offset = choose (offset == 1) (offset == 2)
    where
      choose : (first second : Bool) → Hold (if first then moved_formula (still_image (placed_ends b) v) (vector_ends b.first) else (if second then moved_formula (still_image (placed_ends b) v) (vector_ends b.second) else still_image (placed_ends b) v)) (denominator_of p)
          (times (pos (2 ^ 16)) (plus (image_of p v) (times (pos (norm_of p.turn)) (if first then p.first else (if second then p.second else record { x = pos 0; y = pos 0; z = pos 0 })))))
      choose true second = moved-held b.first p.first h.first
      choose false true = moved-held b.second p.second h.second
      choose false false = unmoved-held

-- ---- less a point of a surface
abbrev minus : V3 → V3 → V3
minus a b = record { x = a.x -ℤ b.x; y = a.y -ℤ b.y; z = a.z -ℤ b.z }

less-inside : (x : Ends) (k : ℕ) (w a : ℤ) → Inside x.lo x.hi k (pos (2 ^ 16) *ℤ w) → Inside (difference x (alone (pos (2 ^ 16) *ℤ a))).lo (difference x (alone (pos (2 ^ 16) *ℤ a))).hi k (pos (2 ^ 16) *ℤ (w -ℤ pos k *ℤ a))
less-inside x k w a h =
    let c : ℤ = pos (2 ^ 16) *ℤ a in
    let g : pos (2 ^ 16) *ℤ w -ℤ c *ℤ pos k ≡ pos (2 ^ 16) *ℤ (w -ℤ pos k *ℤ a) =
    equal (w ∷ a ∷ pos k ∷ []) (num (pos (2 ^ 16)) ⊗ var 0 ⊖ (num (pos (2 ^ 16)) ⊗ var 1) ⊗ var 2) (num (pos (2 ^ 16)) ⊗ (var 0 ⊖ var 2 ⊗ var 1)) refl in
    subst (λ z. Inside (x.lo -ℤ c) (x.hi -ℤ c) k z) g (difference_inside x.lo x.hi c c k (pos (2 ^ 16) *ℤ w) (c *ℤ pos k) h (self (c *ℤ pos k), self (c *ℤ pos k)))
  where
    self : (z : ℤ) → z ≤ℤ z
    self z = omega (arith, ints)

less-held : (x : VectorEnds) (k : ℕ) (w a : V3) → Hold x k (times (pos (2 ^ 16)) w) → Hold (from_point x a) k (times (pos (2 ^ 16)) (minus w (times (pos k) a)))
less-held x k w a h = record { x = less-inside x.x k w.x a.x h.x; y = less-inside x.y k w.y a.y h.y; z = less-inside x.z k w.z a.z h.z }

-- ---- along a direction, across it, and squares
along-held : (d z : V3) (y : VectorEnds) (k : ℕ) → Hold y k (times (pos (2 ^ 16)) z) → Inside (along d y).lo (along d y).hi k (pos (2 ^ 16) *ℤ dot_of d z)
unfolding along
along-held d z y k h =
    let a : Ends = multiple y.x d.x in
    let b : Ends = multiple y.y d.y in
    let c : Ends = multiple y.z d.z in
    let u : ℤ = (pos (2 ^ 16) *ℤ z.x) *ℤ d.x in
    let v : ℤ = (pos (2 ^ 16) *ℤ z.y) *ℤ d.y in
    let w : ℤ = (pos (2 ^ 16) *ℤ z.z) *ℤ d.z in
    let g : (u +ℤ v) +ℤ w ≡ pos (2 ^ 16) *ℤ dot_of d z =
    equal (d.x ∷ d.y ∷ d.z ∷ z.x ∷ z.y ∷ z.z ∷ []) (((num (pos (2 ^ 16)) ⊗ var 3) ⊗ var 0 ⊕ (num (pos (2 ^ 16)) ⊗ var 4) ⊗ var 1) ⊕ (num (pos (2 ^ 16)) ⊗ var 5) ⊗ var 2)
    (num (pos (2 ^ 16)) ⊗ (var 0 ⊗ var 3 ⊕ var 1 ⊗ var 4 ⊕ var 2 ⊗ var 5)) refl in
    subst (λ t. Inside ((a.lo +ℤ b.lo) +ℤ c.lo) ((a.hi +ℤ b.hi) +ℤ c.hi) k t) g
    (sum_inside (sum a b).lo (sum a b).hi c.lo c.hi k (u +ℤ v) w
    (sum_inside a.lo a.hi b.lo b.hi k u v (multiple_inside y.x.lo y.x.hi d.x k (pos (2 ^ 16) *ℤ z.x) h.x) (multiple_inside y.y.lo y.y.hi d.y k (pos (2 ^ 16) *ℤ z.y) h.y))
    (multiple_inside y.z.lo y.z.hi d.z k (pos (2 ^ 16) *ℤ z.z) h.z))

minor-inside : (y z : Ends) (d e u v : ℤ) (k : ℕ) → Inside y.lo y.hi k (pos (2 ^ 16) *ℤ u) → Inside z.lo z.hi k (pos (2 ^ 16) *ℤ v)
    → Inside (difference (multiple y d) (multiple z e)).lo (difference (multiple y d) (multiple z e)).hi k (pos (2 ^ 16) *ℤ (d *ℤ u -ℤ e *ℤ v))
minor-inside y z d e u v k h i =
    let a : Ends = multiple y d in
    let b : Ends = multiple z e in
    let g : (pos (2 ^ 16) *ℤ u) *ℤ d -ℤ (pos (2 ^ 16) *ℤ v) *ℤ e ≡ pos (2 ^ 16) *ℤ (d *ℤ u -ℤ e *ℤ v) =
    equal (d ∷ e ∷ u ∷ v ∷ []) ((num (pos (2 ^ 16)) ⊗ var 2) ⊗ var 0 ⊖ (num (pos (2 ^ 16)) ⊗ var 3) ⊗ var 1) (num (pos (2 ^ 16)) ⊗ (var 0 ⊗ var 2 ⊖ var 1 ⊗ var 3)) refl in
    subst (λ t. Inside (a.lo -ℤ b.hi) (a.hi -ℤ b.lo) k t) g
    (difference_inside a.lo a.hi b.lo b.hi k ((pos (2 ^ 16) *ℤ u) *ℤ d) ((pos (2 ^ 16) *ℤ v) *ℤ e) (multiple_inside y.lo y.hi d k (pos (2 ^ 16) *ℤ u) h) (multiple_inside z.lo z.hi e k (pos (2 ^ 16) *ℤ v) i))

across-held : (d z : V3) (y : VectorEnds) (k : ℕ) → Hold y k (times (pos (2 ^ 16)) z) → Hold (across d y) k (times (pos (2 ^ 16)) (cross d z))
unfolding across
across-held d z y k h = record {
  x = minor-inside y.z y.y d.y d.z z.z z.y k h.z h.y;
  y = minor-inside y.x y.z d.z d.x z.x z.z k h.x h.z;
  z = minor-inside y.y y.x d.x d.y z.y z.x k h.y h.x;
}

squares-held : (z : V3) (y : VectorEnds) (k : ℕ) → Hold y k (times (pos (2 ^ 16)) z) → Inside (squares_of y).lo (squares_of y).hi (k * k) (pos (2 ^ 32) *ℤ norm2_of z)
unfolding squares_of
squares-held z y k h =
    let a : Ends = square y.x in
    let b : Ends = square y.y in
    let c : Ends = square y.z in
    let u : ℤ = (pos (2 ^ 16) *ℤ z.x) *ℤ (pos (2 ^ 16) *ℤ z.x) in
    let v : ℤ = (pos (2 ^ 16) *ℤ z.y) *ℤ (pos (2 ^ 16) *ℤ z.y) in
    let w : ℤ = (pos (2 ^ 16) *ℤ z.z) *ℤ (pos (2 ^ 16) *ℤ z.z) in
    let g : (u +ℤ v) +ℤ w ≡ pos (2 ^ 32) *ℤ norm2_of z =
    equal (z.x ∷ z.y ∷ z.z ∷ []) (((num (pos (2 ^ 16)) ⊗ var 0) ⊗ (num (pos (2 ^ 16)) ⊗ var 0) ⊕ (num (pos (2 ^ 16)) ⊗ var 1) ⊗ (num (pos (2 ^ 16)) ⊗ var 1)) ⊕ (num (pos (2 ^ 16)) ⊗ var 2) ⊗ (num (pos (2 ^ 16)) ⊗ var 2))
    (num (pos (2 ^ 32)) ⊗ (var 0 ⊗ var 0 ⊕ var 1 ⊗ var 1 ⊕ var 2 ⊗ var 2)) refl in
    subst (λ t. Inside ((a.lo +ℤ b.lo) +ℤ c.lo) ((a.hi +ℤ b.hi) +ℤ c.hi) (k * k) t) g
    (sum_inside (sum a b).lo (sum a b).hi c.lo c.hi (k * k) (u +ℤ v) w
    (sum_inside a.lo a.hi b.lo b.hi (k * k) u v (square_inside y.x.lo y.x.hi k (pos (2 ^ 16) *ℤ z.x) h.x) (square_inside y.y.lo y.y.hi k (pos (2 ^ 16) *ℤ z.y) h.y))
    (square_inside y.z.lo y.z.hi k (pos (2 ^ 16) *ℤ z.z) h.z))

-- ---- a turned vector alone, and what a spread along a direction looks at
turned-inside : (m : VecBox) (row v : V3) (n s : ℕ) → HoldsVector m n (times (pos (2 ^ 30)) row)
    → Inside (row_formula (vector_ends m) v).lo (row_formula (vector_ends m) v).hi (n * s) (pos (2 ^ 16) *ℤ (pos s *ℤ dot_of row v))
turned-inside m row v n s h =
    let a : Ends = row_formula (vector_ends m) v in
    let w : ℤ = dot_of row v in
    let d : dot_of (times (pos (2 ^ 30)) row) v ≡ (pos (2 ^ 16) *ℤ w) *ℤ pos (2 ^ 14) =
    equal (row.x ∷ row.y ∷ row.z ∷ v.x ∷ v.y ∷ v.z ∷ []) ((num (pos (2 ^ 30)) ⊗ var 0) ⊗ var 3 ⊕ (num (pos (2 ^ 30)) ⊗ var 1) ⊗ var 4 ⊕ (num (pos (2 ^ 30)) ⊗ var 2) ⊗ var 5)
    ((num (pos (2 ^ 16)) ⊗ (var 0 ⊗ var 3 ⊕ var 1 ⊗ var 4 ⊕ var 2 ⊗ var 5)) ⊗ num (pos (2 ^ 14))) refl in
    let b : Inside a.lo a.hi n (pos (2 ^ 16) *ℤ w) = cut a.lo a.hi (pos (2 ^ 16) *ℤ w) n (subst (λ z. Inside a.lo a.hi (n * 2 ^ 14) z) d (row-inside m v (times (pos (2 ^ 30)) row) n h)) in
    let g : (pos (2 ^ 16) *ℤ w) *ℤ pos s ≡ pos (2 ^ 16) *ℤ (pos s *ℤ w) = equal (w ∷ pos s ∷ []) ((num (pos (2 ^ 16)) ⊗ var 0) ⊗ var 1) (num (pos (2 ^ 16)) ⊗ (var 1 ⊗ var 0)) refl in
    subst (λ z. Inside a.lo a.hi (n * s) z) g (rescaled a.lo a.hi n s (pos (2 ^ 16) *ℤ w) b)

-- how far the turned vector lies along a direction, over the denominator
abbrev pub turned_along : V3 → Placement → V3 → ℤ
turned_along d p v = dot_of d (times (pos p.scale) (applied (matrix_of p.turn) v))

pub turned-along-inside : (d : V3) (b : Placed) (v : V3) (p : Placement) → HoldsPlacement b p
    → Inside (along d (turned_formula (placed_ends b).matrix v)).lo (along d (turned_formula (placed_ends b).matrix v)).hi (denominator_of p) (pos (2 ^ 16) *ℤ turned_along d p v)
turned-along-inside d b v p h =
    along-held d (times (pos p.scale) (applied (matrix_of p.turn) v)) (turned_formula (placed_ends b).matrix v) (denominator_of p) (record {
      x = turned-inside b.matrix.x (matrix_of p.turn).x v (norm_of p.turn) p.scale h.matrix.x;
      y = turned-inside b.matrix.y (matrix_of p.turn).y v (norm_of p.turn) p.scale h.matrix.y;
      z = turned-inside b.matrix.z (matrix_of p.turn).z v (norm_of p.turn) p.scale h.matrix.z;
    })

entry-apart : (d x y t u a : ℤ) → (d *ℤ (((x +ℤ t) +ℤ u) -ℤ a)) -ℤ (d *ℤ (((y +ℤ t) +ℤ u) -ℤ a)) ≡ (d *ℤ x) -ℤ (d *ℤ y)
entry-apart d x y t u a =
    equal (d ∷ x ∷ y ∷ t ∷ u ∷ a ∷ []) (var 0 ⊗ (((var 1 ⊕ var 3) ⊕ var 4) ⊖ var 5) ⊖ var 0 ⊗ (((var 2 ⊕ var 3) ⊕ var 4) ⊖ var 5)) (var 0 ⊗ var 1 ⊖ var 0 ⊗ var 2) refl

three-apart : (a b c d e f x y z u v w : ℤ) → a -ℤ b ≡ x -ℤ y → c -ℤ d ≡ z -ℤ u → e -ℤ f ≡ v -ℤ w → ((a +ℤ c) +ℤ e) -ℤ ((b +ℤ d) +ℤ f) ≡ ((x +ℤ z) +ℤ v) -ℤ ((y +ℤ u) +ℤ w)
three-apart a b c d e f x y z u v w h i j = omega (arith, ints, h, i, j)

dots-apart : (d x y t u a : V3) → dot_of d (vectors.difference (plus (plus x t) u) a) -ℤ dot_of d (vectors.difference (plus (plus y t) u) a) ≡ dot_of d x -ℤ dot_of d y
dots-apart d x y t u a =
    three-apart (d.x *ℤ (((x.x +ℤ t.x) +ℤ u.x) -ℤ a.x)) (d.x *ℤ (((y.x +ℤ t.x) +ℤ u.x) -ℤ a.x))
    (d.y *ℤ (((x.y +ℤ t.y) +ℤ u.y) -ℤ a.y)) (d.y *ℤ (((y.y +ℤ t.y) +ℤ u.y) -ℤ a.y))
    (d.z *ℤ (((x.z +ℤ t.z) +ℤ u.z) -ℤ a.z)) (d.z *ℤ (((y.z +ℤ t.z) +ℤ u.z) -ℤ a.z))
    (d.x *ℤ x.x) (d.x *ℤ y.x) (d.y *ℤ x.y) (d.y *ℤ y.y) (d.z *ℤ x.z) (d.z *ℤ y.z)
    (entry-apart d.x x.x y.x t.x u.x a.x) (entry-apart d.y x.y y.y t.y u.y a.y) (entry-apart d.z x.z y.z t.z u.z a.z)

-- all that isn't turned cancels
pub planes-apart : (d a : V3) (p : Placement) (offset : ℕ) (v w : V3) → exact_value (Plane d a) p offset v -ℤ exact_value (Plane d a) p offset w ≡ turned_along d p v -ℤ turned_along d p w
planes-apart d a p offset v w =
    dots-apart d (times (pos p.scale) (applied (matrix_of p.turn) v)) (times (pos p.scale) (applied (matrix_of p.turn) w))
    (times (pos (norm_of p.turn)) p.shift) (times (pos (norm_of p.turn)) (offset_of p offset)) (times (pos (denominator_of p)) a)

-- ---- the value of a point
-- the ends hold the exact value
abbrev pub ValueInside : Surface → Ends → Placement → ℕ → V3 → Type 0
ValueInside (Plane d a) e p offset v = Inside e.lo e.hi (denominator_of p) (pos (2 ^ 16) *ℤ exact_value (Plane d a) p offset v)
ValueInside (Axis d a) e p offset v = Inside e.lo e.hi (denominator_of p * denominator_of p) (pos (2 ^ 32) *ℤ exact_value (Axis d a) p offset v)
ValueInside (Ball a) e p offset v = Inside e.lo e.hi (denominator_of p * denominator_of p) (pos (2 ^ 32) *ℤ exact_value (Ball a) p offset v)

pub inside-value : (s : Surface) (b : Placed) (offset : ℕ) (v : V3) (p : Placement) → HoldsPlacement b p → ValueInside s (value_ends s (placed_ends b) offset v) p offset v
inside-value (Plane d a) b offset v p h =
    let k : ℕ = denominator_of p in
    let x : VectorEnds = image_ends (placed_ends b) offset v in
    along-held d (from_surface p offset a v) (from_point x a) k (less-held x k (image_under p offset v) a (image-held b p h v offset))
inside-value (Axis d a) b offset v p h =
    let k : ℕ = denominator_of p in
    let x : VectorEnds = image_ends (placed_ends b) offset v in
    let y : VectorEnds = from_point x a in
    squares-held (cross d (from_surface p offset a v)) (across d y) k (across-held d (from_surface p offset a v) y k (less-held x k (image_under p offset v) a (image-held b p h v offset)))
inside-value (Ball a) b offset v p h =
    let k : ℕ = denominator_of p in
    let x : VectorEnds = image_ends (placed_ends b) offset v in
    squares-held (from_surface p offset a v) (from_point x a) k (less-held x k (image_under p offset v) a (image-held b p h v offset))

pub encloses-value : (s : Surface) (b : Placed) (offset : ℕ) (v : V3) (r : Iv) → ends r ≡ value_ends s (placed_ends b) offset v → EnclosesValue s b offset v r
encloses-value (Plane d a) b offset v r e p ok h = subst (λ t. ValueInside (Plane d a) t p offset v) (sym e) (inside-value (Plane d a) b offset v p h)
encloses-value (Axis d a) b offset v r e p ok h = subst (λ t. ValueInside (Axis d a) t p offset v) (sym e) (inside-value (Axis d a) b offset v p h)
encloses-value (Ball a) b offset v r e p ok h = subst (λ t. ValueInside (Ball a) t p offset v) (sym e) (inside-value (Ball a) b offset v p h)
