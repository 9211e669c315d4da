-- A cylinder about an axis holds a point exactly where a point of the axis lies within half its diameter of it.
use Rattle.std.proofs.Common.{◌≡◌, refl, sym, subst, ℕ, ◌≤◌, [], ◌∷◌, arith}
use Rattle.std.proofs.lemmas.Int.{ints}
use Rattle.std.specs.Prelude.{ℤ, pos, negsuc, ◌+ℤ◌, ◌*ℤ◌, ◌≤ℤ◌, ◌<ℤ◌}
use Rattle.gd_axis.specs.Axes.{Axis, IsInCylinder, from_axis}
use Rattle.gd_axis.specs.Zones.{CylinderIsNear, HasNearPoint}
use Rattle.gd_int.proofs.Integers.{mul_le_left, mul_le_out, mul_pos, square_nonneg, ≤ℤ_trans}
use Rattle.gd_quat.proofs.Polynomials.{Poly, var, num, ◌⊕◌, ◌⊖◌, ◌⊗◌, equal}
use Rattle.gd_quat.specs.Placements.{times}
use Rattle.gd_vec.specs.Vector.{difference, dot_of, norm2_of}
use Rattle.gd_vec.specs.declared.vector.V3.{V3}
use Rattle.gd_zone.specs.Conditions.{cross}

-- v z less u n
abbrev left : ℤ → ℤ → V3 → V3 → V3
left v u z n = difference (times v z) (times u n)

-- ---- n is var 0 to 2, z is var 3 to 5, v is var 6 and u is var 7
abbrev squares : Poly → Poly → Poly → Poly
squares a b c = a ⊗ a ⊕ b ⊗ b ⊕ c ⊗ c

abbrev length2 : Poly
length2 = squares (var 0) (var 1) (var 2)

abbrev along : Poly
along = var 0 ⊗ var 3 ⊕ var 1 ⊗ var 4 ⊕ var 2 ⊗ var 5

abbrev normal2 : Poly
normal2 = squares (var 1 ⊗ var 5 ⊖ var 2 ⊗ var 4) (var 2 ⊗ var 3 ⊖ var 0 ⊗ var 5) (var 0 ⊗ var 4 ⊖ var 1 ⊗ var 3)

-- what is left of |n|^2 z after its part along n has the squared length |n|^2 |n x z|^2
foot : (n z : V3) → norm2_of (left (norm2_of n) (dot_of n z) z n) ≡ norm2_of n *ℤ norm2_of (cross n z)
foot n z =
    equal (n.x ∷ n.y ∷ n.z ∷ z.x ∷ z.y ∷ z.z ∷ [])
    (squares (length2 ⊗ var 3 ⊖ along ⊗ var 0) (length2 ⊗ var 4 ⊖ along ⊗ var 1) (length2 ⊗ var 5 ⊖ along ⊗ var 2)) (length2 ⊗ normal2) refl

-- |n|^2 |z|^2 is |n x z|^2 and the square of n . z
lagrange : (n z : V3) → norm2_of n *ℤ norm2_of z ≡ norm2_of (cross n z) +ℤ dot_of n z *ℤ dot_of n z
lagrange n z =
    equal (n.x ∷ n.y ∷ n.z ∷ z.x ∷ z.y ∷ z.z ∷ []) (length2 ⊗ squares (var 3) (var 4) (var 5)) (normal2 ⊕ along ⊗ along) refl

-- a part along n doesn't count in a product with n
normal-left : (n z : V3) (v u : ℤ) → norm2_of (cross n (left v u z n)) ≡ (v *ℤ v) *ℤ norm2_of (cross n z)
normal-left n z v u =
    equal (n.x ∷ n.y ∷ n.z ∷ z.x ∷ z.y ∷ z.z ∷ v ∷ u ∷ [])
    (squares (var 1 ⊗ (var 6 ⊗ var 5 ⊖ var 7 ⊗ var 2) ⊖ var 2 ⊗ (var 6 ⊗ var 4 ⊖ var 7 ⊗ var 1))
    (var 2 ⊗ (var 6 ⊗ var 3 ⊖ var 7 ⊗ var 0) ⊖ var 0 ⊗ (var 6 ⊗ var 5 ⊖ var 7 ⊗ var 2))
    (var 0 ⊗ (var 6 ⊗ var 4 ⊖ var 7 ⊗ var 1) ⊖ var 1 ⊗ (var 6 ⊗ var 3 ⊖ var 7 ⊗ var 0))) ((var 6 ⊗ var 6) ⊗ normal2) refl

-- ---- the square of t times that of s k, and of s under a direction of squared length k
moved : (t s k : ℤ) → k *ℤ ((t *ℤ t) *ℤ ((s *ℤ s) *ℤ k)) ≡ (t *ℤ t) *ℤ ((s *ℤ k) *ℤ (s *ℤ k))
moved t s k = equal (t ∷ s ∷ k ∷ []) (var 2 ⊗ ((var 0 ⊗ var 0) ⊗ ((var 1 ⊗ var 1) ⊗ var 2))) ((var 0 ⊗ var 0) ⊗ ((var 1 ⊗ var 2) ⊗ (var 1 ⊗ var 2))) refl

parted : (t s k v : ℤ) → k *ℤ ((t *ℤ t) *ℤ ((s *ℤ v) *ℤ (s *ℤ v))) ≡ ((t *ℤ t) *ℤ ((s *ℤ s) *ℤ k)) *ℤ (v *ℤ v)
parted t s k v = equal (t ∷ s ∷ k ∷ v ∷ []) (var 2 ⊗ ((var 0 ⊗ var 0) ⊗ ((var 1 ⊗ var 3) ⊗ (var 1 ⊗ var 3)))) (((var 0 ⊗ var 0) ⊗ ((var 1 ⊗ var 1) ⊗ var 2)) ⊗ (var 3 ⊗ var 3)) refl

four-in : (k d : ℤ) → pos 4 *ℤ (k *ℤ d) ≡ k *ℤ (pos 4 *ℤ d)
four-in k d = equal (k ∷ d ∷ []) (num (pos 4) ⊗ (var 0 ⊗ var 1)) (var 0 ⊗ (num (pos 4) ⊗ var 1)) refl

four-out : (d k : ℤ) → pos 4 *ℤ (k *ℤ d) ≡ (pos 4 *ℤ d) *ℤ k
four-out d k = equal (k ∷ d ∷ []) (num (pos 4) ⊗ (var 0 ⊗ var 1)) ((num (pos 4) ⊗ var 1) ⊗ var 0) refl

-- ---- from the cylinder: the foot of the point on the axis is near
near-foot : (t s k : ℤ) (n z : V3) → k ≡ norm2_of n → pos 0 ≤ℤ k → (pos 4 *ℤ norm2_of (cross n z)) ≤ℤ ((t *ℤ t) *ℤ ((s *ℤ s) *ℤ norm2_of n))
    → (pos 4 *ℤ norm2_of (left k (dot_of n z) z n)) ≤ℤ ((t *ℤ t) *ℤ ((s *ℤ k) *ℤ (s *ℤ k)))
near-foot t s k n z e k0 h =
    let d : ℤ = norm2_of (cross n z) in
    let f : norm2_of (left k (dot_of n z) z n) ≡ k *ℤ d = subst (λ w. norm2_of (left w (dot_of n z) z n) ≡ w *ℤ d) (sym e) (foot n z) in
    let g : (pos 4 *ℤ d) ≤ℤ ((t *ℤ t) *ℤ ((s *ℤ s) *ℤ k)) = subst (λ w. (pos 4 *ℤ d) ≤ℤ ((t *ℤ t) *ℤ ((s *ℤ s) *ℤ w))) (sym e) h in
    let m : (k *ℤ (pos 4 *ℤ d)) ≤ℤ (k *ℤ ((t *ℤ t) *ℤ ((s *ℤ s) *ℤ k))) = mul_le_left (pos 4 *ℤ d) ((t *ℤ t) *ℤ ((s *ℤ s) *ℤ k)) k g k0 in
    subst (λ w. (pos 4 *ℤ w) ≤ℤ ((t *ℤ t) *ℤ ((s *ℤ k) *ℤ (s *ℤ k)))) (sym f)
    (subst (λ w. w ≤ℤ ((t *ℤ t) *ℤ ((s *ℤ k) *ℤ (s *ℤ k)))) (sym (four-in k d)) (subst (λ w. (k *ℤ (pos 4 *ℤ d)) ≤ℤ w) (moved t s k) m))

near-point : (t : ℕ) (x : Axis) (a p : V3) (k : ℤ) → k ≡ norm2_of x.direction → pos 0 <ℤ k → IsInCylinder t x a p → HasNearPoint t x a p
near-point t x a p (pos m) e k0 h = record {
  steps = dot_of x.direction (from_axis x a p);
  under = m;
  counts = omega (arith, ints, k0);
  near = near-foot (pos t) (pos x.scale) (pos m) x.direction (from_axis x a p) e (omega (arith, ints)) h;
}
near-point t x a p (negsuc m) e k0 h = absurd (omega (arith, ints, k0))

-- ---- and back: what is normal to the axis is no longer than the whole
no-longer : (n w : V3) → norm2_of (cross n w) ≤ℤ (norm2_of n *ℤ norm2_of w)
no-longer n w = let e = lagrange n w in let f = square_nonneg (dot_of n w) in below (norm2_of n *ℤ norm2_of w) (norm2_of (cross n w)) (dot_of n w *ℤ dot_of n w) e f
  where
    below : (u v r : ℤ) → u ≡ v +ℤ r → pos 0 ≤ℤ r → v ≤ℤ u
    below u v r e f = omega (arith, ints, e, f)

from-near : (t s v u : ℤ) (n z : V3) → pos 0 <ℤ v → pos 0 ≤ℤ norm2_of n → (pos 4 *ℤ norm2_of (left v u z n)) ≤ℤ ((t *ℤ t) *ℤ ((s *ℤ v) *ℤ (s *ℤ v)))
    → (pos 4 *ℤ norm2_of (cross n z)) ≤ℤ ((t *ℤ t) *ℤ ((s *ℤ s) *ℤ norm2_of n))
from-near t s v u n z v0 n0 h =
    let k : ℤ = norm2_of n in
    let d : ℤ = norm2_of (cross n z) in
    let w : ℤ = norm2_of (left v u z n) in
    let bound : ℤ = (t *ℤ t) *ℤ ((s *ℤ v) *ℤ (s *ℤ v)) in
    let a : ((v *ℤ v) *ℤ d) ≤ℤ (k *ℤ w) = subst (λ q. q ≤ℤ (k *ℤ w)) (normal-left n z v u) (no-longer n (left v u z n)) in
    let b : (k *ℤ (pos 4 *ℤ w)) ≤ℤ (k *ℤ bound) = mul_le_left (pos 4 *ℤ w) bound k h n0 in
    let c : (pos 4 *ℤ ((v *ℤ v) *ℤ d)) ≤ℤ (pos 4 *ℤ (k *ℤ w)) = mul_le_left ((v *ℤ v) *ℤ d) (k *ℤ w) (pos 4) a (omega (arith, ints)) in
    let l : ((pos 4 *ℤ d) *ℤ (v *ℤ v)) ≤ℤ (k *ℤ (pos 4 *ℤ w)) = subst (λ q. q ≤ℤ (k *ℤ (pos 4 *ℤ w))) (four-out d (v *ℤ v)) (subst (λ q. (pos 4 *ℤ ((v *ℤ v) *ℤ d)) ≤ℤ q) (four-in k w) c) in
    let r : (k *ℤ (pos 4 *ℤ w)) ≤ℤ (((t *ℤ t) *ℤ ((s *ℤ s) *ℤ k)) *ℤ (v *ℤ v)) = subst (λ q. (k *ℤ (pos 4 *ℤ w)) ≤ℤ q) (parted t s k v) b in
    mul_le_out (pos 4 *ℤ d) ((t *ℤ t) *ℤ ((s *ℤ s) *ℤ k)) (v *ℤ v) (mul_pos v v v0 v0) (≤ℤ_trans ((pos 4 *ℤ d) *ℤ (v *ℤ v)) (k *ℤ (pos 4 *ℤ w)) (((t *ℤ t) *ℤ ((s *ℤ s) *ℤ k)) *ℤ (v *ℤ v)) l r)

in-cylinder : (t : ℕ) (x : Axis) (a p : V3) → pos 0 <ℤ norm2_of x.direction → HasNearPoint t x a p → IsInCylinder t x a p
in-cylinder t x a p n0 h =
    from-near (pos t) (pos x.scale) (pos h.under) h.steps x.direction (from_axis x a p) (positive h.under h.counts) (weaker (norm2_of x.direction) n0) h.near
  where
    positive : (u : ℕ) → 1 ≤ u → pos 0 <ℤ pos u
    positive u c = omega (arith, ints, c)

    weaker : (k : ℤ) → pos 0 <ℤ k → pos 0 ≤ℤ k
    weaker k c = omega (arith, ints, c)

pub cylinder-is-near : CylinderIsNear
cylinder-is-near t x a p n0 = (λ h. near-point t x a p (norm2_of x.direction) refl n0 h, λ h. in-cylinder t x a p n0 h)
