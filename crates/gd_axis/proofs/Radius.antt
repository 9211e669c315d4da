-- A radius exists exactly where the greatest distance less the least is at most the tolerance.
use Rattle.std.proofs.Common.{◌≡◌, sym, subst, ◌∙◌, ℕ, ◌<◌, List, [], ◌∷◌, length, get_or, map, arith}
use Rattle.std.proofs.lemmas.Int.{ints}
use Rattle.std.proofs.lemmas.List.{get_or-map, length-map}
use Rattle.std.proofs.lemmas.List.Elements.{All-nil}
use Rattle.std.specs.Prelude.{ℤ, pos, ◌*ℤ◌, ◌≤ℤ◌}
use Rattle.gd_axis.specs.Axes.{Axis, HasRing, distance2, square_of}
use Rattle.gd_flat.specs.FlatTests.{least, place_of}
use Rattle.gd_axis.specs.Laws.AxisHeld.{distance2-nonneg}
use Rattle.gd_flat.specs.Laws.Firsts.{above_least, least_at_place, least_inside}
use Rattle.gd_axis.specs.Zones.{HasRadius, RingHasRadius}
use Rattle.gd_int.proofs.Comparisons.{RootAtMost-first}
use Rattle.gd_int.proofs.Integers.{mul_nonneg, square_nonneg}
use Rattle.gd_int.specs.Comparisons.{RootAtMost}
use Rattle.gd_vec.specs.Vector.{norm2_of}
use Rattle.gd_vec.specs.declared.vector.V3.{V3}
use Rattle.gd_zone.proofs.Ordered.{norm2-nonneg}

pub square-nonneg : (t : ℕ) (x : Axis) → pos 0 ≤ℤ square_of t x
square-nonneg t x =
    mul_nonneg (pos t *ℤ pos t) ((pos x.scale *ℤ pos x.scale) *ℤ norm2_of x.direction) (square_nonneg (pos t))
    (mul_nonneg (pos x.scale *ℤ pos x.scale) (norm2_of x.direction) (square_nonneg (pos x.scale)) (norm2-nonneg x.direction))

-- the least distance is the inner radius
with-radius : (points : List V3) (t : ℕ) (x : Axis) (a : V3) → HasRing points t x a → HasRadius points t x a
with-radius [] t x a ring = record {
  inner2 = pos 0;
  positive = omega (arith, ints);
  outside = All-nil (λ (p : V3). pos 0 ≤ℤ distance2 x a p);
  inside = All-nil (λ (p : V3). RootAtMost (distance2 x a p) (pos 0) (square_of t x));
}
with-radius (p ∷ points) t x a ring =
    let f : V3 → ℤ = λ (q : V3). distance2 x a q in
    let all : List V3 = p ∷ points in
    let ds : List ℤ = map f all in
    let some : 0 < length ds = omega arith in
    let k : ℕ = place_of (least ds) ds in
    let here : k < length all = rw length-map at (least_inside ds some) in
    let e : distance2 x a (get_or all k p) ≡ least ds = sym (get_or-map f all k p (pos 0) here) ∙ least_at_place ds (pos 0) some in
    record {
      inner2 = least ds;
      positive = subst (λ z. pos 0 ≤ℤ z) e (distance2-nonneg x a (get_or all k p));
      outside = λ i d lt. subst (λ z. least ds ≤ℤ z) (get_or-map f all i d (pos 0) lt) (above_least ds i (pos 0) (rw length-map lt));
      inside = λ i d lt. subst (λ z. RootAtMost (distance2 x a (get_or all i d)) z (square_of t x)) e (ring i d lt k p here);
    }

from-radius : (points : List V3) (t : ℕ) (x : Axis) (a : V3) → HasRadius points t x a → HasRing points t x a
from-radius points t x a h = λ i d p j e q.
    RootAtMost-first (distance2 x a (get_or points i d)) h.inner2 (distance2 x a (get_or points j e)) (square_of t x) (square-nonneg t x) (h.outside j e q) (h.inside i d p)

pub ring-has-radius : RingHasRadius
ring-has-radius points t x a = (λ h. with-radius points t x a h, λ h. from-radius points t x a h)
