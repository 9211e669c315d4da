-- What the written tests of the forms about an axis mean for the axes that a box holds.
use Rattle.std.proofs.Common.{◌≡◌, refl, sym, subst, ap, ◌∙◌, ℕ, zero, suc, ◌-◌, ◌*◌, ◌<◌, ◌≤◌, List, [], ◌∷◌, length}
use Rattle.std.proofs.Common.{get_or, map, Bool, true, false, ◌&&◌, ◌||◌, arith, nat_eq, nat_le, inl, inr, ⊎_elim}
use Rattle.std.proofs.lemmas.Bool.Decides.{nat_tests}
use Rattle.std.proofs.lemmas.Float.{T_from_true}
use Rattle.std.proofs.lemmas.Int.{ints}
use Rattle.std.proofs.lemmas.List.{get_or-map, length-map}
use Rattle.std.proofs.Math.Nat.{mul-pos}
use Rattle.std.specs.List.{All, list_all, list_any}
use Rattle.std.specs.Prelude.{ℤ, pos, ◌-ℤ◌, ◌*ℤ◌, ◌≤ℤ◌, ◌<ℤ◌, ◌⊎◌, int_le, int_lt}
use Rattle.gd_cells.specs.declared.cell.Evidence.{Evidence}
use Rattle.gd_dir.specs.declared.shape.DirBox.{DirBox}
use Rattle.gd_dir.specs.declared.shape.FormShape.{FormShape}
use Rattle.gd_axis.specs.Laws.AxisHeld.{distance2-nonneg, length-inside, length-sign, length-top, value-inside}
use Rattle.gd_axis.specs.Laws.AxisHeld.{value-sign}
use Rattle.gd_axis.specs.Laws.Pairs.{pair-holds, pair-out, point-holds, point-out}
use Rattle.gd_axis.specs.Axes.{IsInCylinder, IsNoFurther, distance2}
use Rattle.gd_axis.specs.AxisLaws.{LineHoldsIsSound, LineRefutedIsEmpty, RingHoldsIsSound, RingRefutedIsEmpty}
use Rattle.gd_axis.specs.AxisLaws.{points_at}
use Rattle.gd_axis.specs.AxisTests.{far_ends, is_inside, is_judged, is_outside, length2_of, lower_ends, near_ends}
use Rattle.gd_axis.specs.AxisTests.{ring_parts, upper_ends, value_at, value_of}
use Rattle.gd_flat.specs.FlatTests.{greatest, least, point_at}
use Rattle.gd_flat.specs.Laws.Evidences.{greater_refuses}
use Rattle.gd_flat.specs.Laws.Firsts.{above_least, below_greatest}
use Rattle.gd_int.proofs.Comparisons.{AtMost-below}
use Rattle.gd_int.proofs.Orders.{at_most_from_cmp}
use Rattle.gd_int.specs.Comparisons.{AtMost}
use Rattle.gd_points.specs.declared.table.Row.{Row}
use Rattle.gd_quat.specs.Formulas.{Ends}
use Rattle.gd_vec.specs.Vector.{norm2_of}
use Rattle.gd_vec.specs.declared.vector.V3.{V3}
use Rattle.gd_zone.proofs.Comparisons.{ceil-root_sign, farthest-above, floor-root_sign, nearest-below}
use Rattle.gd_zone.specs.Tests.{ceil_root, floor_root}

-- ---- tests
le-true : (a b : ℤ) → int_le a b ≡ true → a ≤ℤ b
le-true a b h = record { le = T_from_true (int_le a b) h }

lt-true : (a b : ℤ) → int_lt a b ≡ true → a <ℤ b
lt-true a b h = record { lt = T_from_true (int_lt a b) h }

pub and-left : (a b : Bool) → (a && b) ≡ true → a ≡ true
and-left true b h = refl
and-left false b h = h

pub and-right : (a b : Bool) → (a && b) ≡ true → b ≡ true
and-right true b h = h
and-right false b h = cc

or-cases : (a b : Bool) → (a || b) ≡ true → (a ≡ true) ⊎ (b ≡ true)
or-cases true b h = inl refl
or-cases false b h = inr h

pub equal-places : (a b : ℕ) → nat_eq a b ≡ true → a ≡ b
equal-places a b h = grind (arith, nat_tests)

-- ---- a number of some is at a place among them
pub record Place (judged : List ℕ) (n : ℕ) : Type 0 where
  pub at : ℕ
  pub inside : at < length judged
  pub there : get_or judged at 0 ≡ n

pub place-of : (judged : List ℕ) (n : ℕ) → list_any (λ (m : ℕ). nat_eq m n) judged ≡ true → Place judged n
place-of [] n h = cc
place-of (i ∷ judged) n h =
    ⊎_elim (λ e. record { at = 0; inside = omega arith; there = equal-places i n e }) (λ r. later (place-of judged n r))
    (or-cases (nat_eq i n) (list_any (λ (m : ℕ). nat_eq m n) judged) h)
  where
    later : Place judged n → Place (i ∷ judged) n
    later p = record { at = suc p.at; inside = omega (arith, p.inside); there = p.there }

all-at : (f : ℕ → Bool) (judged : List ℕ) (k : ℕ) → list_all f judged ≡ true → k < length judged
    → f (get_or judged k 0) ≡ true
all-at f [] k h lt = absurd (omega (arith, lt))
all-at f (i ∷ judged) zero h lt = and-left (f i) (list_all f judged) h
all-at f (i ∷ judged) (suc k) h lt = all-at f judged k (and-right (f i) (list_all f judged) h) (omega (arith, lt))

-- a fact of every point that is judged, by the places
all-points : (P : V3 → Type 0) (rows : List Row) (judged : List ℕ)
    → ((k : ℕ) → k < length judged → P (point_at rows (get_or judged k 0))) → All P (points_at rows judged)
all-points P rows judged f = λ k d lt.
    let at : ℕ → V3 = λ (i : ℕ). point_at rows i in
    let inside : k < length judged = rw length-map at lt in
    subst P (sym (get_or-map at judged k 0 d inside)) (f k inside)

pub one-point : (P : V3 → Type 0) (rows : List Row) (judged : List ℕ) (k : ℕ) → All P (points_at rows judged)
    → k < length judged → P (point_at rows (get_or judged k 0))
one-point P rows judged k h inside =
    let at : ℕ → V3 = λ (i : ℕ). point_at rows i in
    let lt : k < length (map at judged) = rw length-map inside in
    let d : V3 = record { x = pos 0; y = pos 0; z = pos 0 } in
    subst P (get_or-map at judged k 0 d inside) (h k d lt)

-- ---- straightness
pub line-holds-is-sound : LineHoldsIsSound
line-holds-is-sound shape rows judged t b a x h holds =
    let m : ℤ = (length2_of shape b).lo in
    all-points (λ (p : V3). IsInCylinder t x a p) rows judged (λ k inside.
    let p : V3 = point_at rows (get_or judged k 0) in
    let v : Ends = value_of shape b a p in
    let test : is_inside t m v ≡ true =
    all-at (λ (i : ℕ). is_inside t m (value_at shape b a rows i)) judged k holds inside in
    point-holds t x.scale h.lead v.hi m (distance2 x a p) (norm2_of x.direction) (value-inside shape b a p x h).1
    (length-inside shape b x h).0 (le-true (pos 4 *ℤ v.hi) ((pos t *ℤ pos t) *ℤ m) test))

denominator : (k s : ℕ) → 1 ≤ k → 1 ≤ s → pos 0 <ℤ pos (k * s)
denominator k s h i = let p : 1 ≤ k * s = mul-pos h i in omega (arith, ints, p)

beyond : (u v : ℤ) → u <ℤ v → v ≤ℤ u → ⊥
beyond u v h k = absurd (omega (arith, ints, h, k))

pub line-refuted-is-empty : LineRefutedIsEmpty
line-refuted-is-empty shape rows judged t b a x e h refuted zone =
    let m : ℤ = (length2_of shape b).hi in
    let rest = and-right (nat_eq e.condition 1) (is_judged judged e.a
    && (nat_eq e.b 0 && is_outside t m (value_at shape b a rows (e.a - 1)))) refuted in
    let named = and-right (nat_le 1 e.a) (list_any (λ (n : ℕ). nat_eq n (e.a - 1)) judged)
    (and-left (is_judged judged e.a) (nat_eq e.b 0 && is_outside t m (value_at shape b a rows (e.a - 1))) rest) in
    let test = and-right (nat_eq e.b 0) (is_outside t m (value_at shape b a rows (e.a - 1)))
    (and-right (is_judged judged e.a) (nat_eq e.b 0 && is_outside t m (value_at shape b a rows (e.a - 1))) rest) in
    let place : Place judged (e.a - 1) = place-of judged (e.a - 1) named in
    let p : V3 = point_at rows (e.a - 1) in
    let v : Ends = value_of shape b a p in
    let in-zone : IsInCylinder t x a p =
    subst (λ n. IsInCylinder t x a (point_at rows n)) place.there
    (one-point (λ (q : V3). IsInCylinder t x a q) rows judged place.at zone place.inside) in
    beyond ((pos t *ℤ pos t) *ℤ m) (pos 4 *ℤ v.lo) (lt-true ((pos t *ℤ pos t) *ℤ m) (pos 4 *ℤ v.lo) test)
    (point-out t x.scale h.lead v.lo m (distance2 x a p) (norm2_of x.direction)
    (denominator h.lead x.scale h.leads h.scale) (value-inside shape b a p x h).0
    (length-inside shape b x h).1 in-zone)

-- ---- circularity and cylindricity
pub near-at : (shape : FormShape) (b : DirBox) (a : V3) (rows : List Row) (judged : List ℕ) (k : ℕ) → k < length judged
    → get_or (near_ends shape b a rows judged) k (pos 0) ≡ floor_root (value_at shape b a rows (get_or judged k 0)).lo
near-at shape b a rows judged k h =
    let g : ℕ → ℤ = λ (i : ℕ). (value_at shape b a rows i).lo in
    get_or-map floor_root (map g judged) k (pos 0) (pos 0) (rw length-map h) ∙ ap floor_root
    (get_or-map g judged k 0 (pos 0) h)

pub far-at : (shape : FormShape) (b : DirBox) (a : V3) (rows : List Row) (judged : List ℕ) (k : ℕ) → k < length judged
    → get_or (far_ends shape b a rows judged) k (pos 0) ≡ ceil_root (value_at shape b a rows (get_or judged k 0)).hi
far-at shape b a rows judged k h =
    let g : ℕ → ℤ = λ (i : ℕ). (value_at shape b a rows i).hi in
    get_or-map ceil_root (map g judged) k (pos 0) (pos 0) (rw length-map h) ∙ ap ceil_root
    (get_or-map g judged k 0 (pos 0) h)

pub near-length : (shape : FormShape) (b : DirBox) (a : V3) (rows : List Row) (judged : List ℕ)
    → length (near_ends shape b a rows judged) ≡ length judged
near-length shape b a rows judged =
    length-map (lower_ends shape b a rows judged) floor_root ∙ length-map judged
    (λ (i : ℕ). (value_at shape b a rows i).lo)

pub far-length : (shape : FormShape) (b : DirBox) (a : V3) (rows : List Row) (judged : List ℕ)
    → length (far_ends shape b a rows judged) ≡ length judged
far-length shape b a rows judged =
    length-map (upper_ends shape b a rows judged) ceil_root ∙ length-map judged
    (λ (i : ℕ). (value_at shape b a rows i).hi)

pub ring-holds-is-sound : RingHoldsIsSound
ring-holds-is-sound shape rows judged t b a x h holds =
    let m : ℤ = (length2_of shape b).lo in
    let far : List ℤ = far_ends shape b a rows judged in
    let near : List ℤ = near_ends shape b a rows judged in
    let most : AtMost (greatest far -ℤ least near) (pos t) m =
    (at_most_from_cmp (greatest far -ℤ least near) (pos t) m).0 holds in
    all-points (λ (p : V3). All (λ (q : V3). IsNoFurther t x a p q) (points_at rows judged)) rows judged (λ i iin.
    all-points (λ (q : V3). IsNoFurther t x a (point_at rows (get_or judged i 0)) q) rows judged (λ j jin.
    let p : V3 = point_at rows (get_or judged i 0) in
    let q : V3 = point_at rows (get_or judged j 0) in
    let u : Ends = value_of shape b a p in
    let v : Ends = value_of shape b a q in
    let up : ceil_root u.hi ≤ℤ greatest far =
    subst (λ z. z ≤ℤ greatest far) (far-at shape b a rows judged i iin)
    (below_greatest far i (pos 0) (rw (far-length shape b a rows judged) iin)) in
    let down : least near ≤ℤ floor_root v.lo =
    subst (λ z. least near ≤ℤ z) (near-at shape b a rows judged j jin)
    (above_least near j (pos 0) (rw (near-length shape b a rows judged) jin)) in
    let two : AtMost (ceil_root u.hi -ℤ floor_root v.lo) (pos t) m =
    AtMost-below (greatest far -ℤ least near) (ceil_root u.hi -ℤ floor_root v.lo) (pos t) m
    (less (ceil_root u.hi) (greatest far) (least near) (floor_root v.lo) up down) most in
    pair-holds t x.scale h.lead u.hi v.lo (ceil_root u.hi) (floor_root v.lo) m (distance2 x a p) (distance2 x a q)
    (norm2_of x.direction) (distance2-nonneg x a q) (length-sign shape b x h) (ceil-root_sign u.hi)
    (floor-root_sign v.lo)
    (value-inside shape b a p x h).1 (value-inside shape b a q x h).0 (length-inside shape b x h).0 (farthest-above u)
    (nearest-below v (value-sign shape b a q)) two))
  where
    less : (u g l v : ℤ) → u ≤ℤ g → l ≤ℤ v → (u -ℤ v) ≤ℤ (g -ℤ l)
    less u g l v h i = omega (arith, ints, h, i)

-- what two named points that part a box say
pub record Parted (shape : FormShape) (rows : List Row) (judged : List ℕ) (t : ℕ) (b : DirBox) (a : V3)
    (e : Evidence) : Type 0 where
  pub far : Place judged (e.a - 1)
  pub near : Place judged (e.b - 1)
  pub parts : ring_parts shape rows t b a (e.a - 1) (e.b - 1) ≡ true

pub parted : (shape : FormShape) (rows : List Row) (judged : List ℕ) (t : ℕ) (b : DirBox) (a : V3) (e : Evidence)
    → nat_eq e.condition 1 && (is_judged judged e.a
    && (is_judged judged e.b && ring_parts shape rows t b a (e.a - 1) (e.b - 1))) ≡ true
    → Parted shape rows judged t b a e
parted shape rows judged t b a e h =
    let ab : Bool = ring_parts shape rows t b a (e.a - 1) (e.b - 1) in
    let rest = and-right (nat_eq e.condition 1) (is_judged judged e.a && (is_judged judged e.b && ab)) h in
    let last = and-right (is_judged judged e.a) (is_judged judged e.b && ab) rest in
    record {
      far = place-of judged (e.a - 1) (and-right (nat_le 1 e.a) (list_any (λ (n : ℕ). nat_eq n (e.a - 1)) judged)
          (and-left (is_judged judged e.a) (is_judged judged e.b && ab) rest));
      near = place-of judged (e.b - 1) (and-right (nat_le 1 e.b) (list_any (λ (n : ℕ). nat_eq n (e.b - 1)) judged)
          (and-left (is_judged judged e.b) ab last));
      parts = and-right (is_judged judged e.b) ab last;
    }

pub ring-refuted-is-empty : RingRefutedIsEmpty
ring-refuted-is-empty shape rows judged t b a x e h refuted zone =
    let m : ℤ = (length2_of shape b).hi in
    let two = parted shape rows judged t b a e refuted in
    let p : V3 = point_at rows (e.a - 1) in
    let q : V3 = point_at rows (e.b - 1) in
    let u : Ends = value_of shape b a p in
    let v : Ends = value_of shape b a q in
    let first = one-point (λ (p : V3). All (λ (q : V3). IsNoFurther t x a p q) (points_at rows judged)) rows judged
    two.far.at zone two.far.inside in
    let second = one-point (λ (q : V3). IsNoFurther t x a (point_at rows (get_or judged two.far.at 0)) q) rows judged
    two.near.at first two.near.inside in
    let both : IsNoFurther t x a p q =
    subst (λ n. IsNoFurther t x a p (point_at rows n)) two.near.there
    (subst (λ n. IsNoFurther t x a (point_at rows n) (point_at rows (get_or judged two.near.at 0))) two.far.there
    second) in
    let m0 : pos 0 ≤ℤ m = length-top shape b x h in
    greater_refuses (floor_root u.lo -ℤ ceil_root v.hi) (pos t) m two.parts
    (pair-out t x.scale h.lead u.lo v.hi (floor_root u.lo) (ceil_root v.hi) m (distance2 x a p) (distance2 x a q)
    (norm2_of x.direction) (denominator h.lead x.scale h.leads h.scale) (distance2-nonneg x a q) m0
    (floor-root_sign u.lo) (ceil-root_sign v.hi)
    (value-inside shape b a p x h).0 (value-inside shape b a q x h).1 (length-inside shape b x h).1
    (nearest-below u (value-sign shape b a p)) (farthest-above v) both)
