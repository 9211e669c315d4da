-- The first evidence of a form about an axis refutes, and where there is none, nothing refutes.
use Rattle.std.proofs.Common.{◌≡◌, refl, sym, subst, ap, ◌∙◌, ℕ, zero, suc, ◌+◌, ◌-◌, ◌<◌, List, [], ◌∷◌, length}
use Rattle.std.proofs.Common.{get_or, Bool, true, false, cond, ◌&&◌, ◌||◌, Option, Some, None, arith, nat_eq, nat_le}
use Rattle.std.proofs.lemmas.Bool.{false≢true}
use Rattle.std.proofs.lemmas.Bool.Decides.{nat_tests}
use Rattle.std.proofs.lemmas.Int.{ints}
use Rattle.std.specs.List.{find, list_any}
use Rattle.std.specs.Ordering.{is_gt}
use Rattle.std.specs.Prelude.{ℤ, pos, ◌-ℤ◌, ◌≤ℤ◌, option_map}
use Rattle.gd_cells.specs.declared.cell.Evidence.{Evidence}
use Rattle.gd_dir.specs.declared.shape.DirBox.{DirBox}
use Rattle.gd_dir.specs.declared.shape.FormShape.{FormShape}
use Rattle.gd_axis.specs.Laws.AxisSound.{Parted, Place, and-left, and-right, far-at, far-length, near-at, near-length}
use Rattle.gd_axis.specs.Laws.AxisSound.{parted, place-of}
use Rattle.gd_axis.specs.AxisLaws.{LineEvidenceRefutes, LineNoneRefutes, RingEvidenceRefutes, RingNoneRefutes}
use Rattle.gd_axis.specs.AxisTests.{far_ends, farthest_point, is_judged, is_outside, length2_of, line_refuted}
use Rattle.gd_axis.specs.AxisTests.{near_ends, nearest_point, point_evidence, ring_parts, ring_refuted, value_at}
use Rattle.gd_flat.specs.FlatTests.{evidence_of, greatest, least, place_of}
use Rattle.gd_flat.specs.Laws.Evidences.{at_most_from_not, not_greater}
use Rattle.gd_flat.specs.Laws.Firsts.{above_least, below_greatest, greatest_at_place, greatest_inside, least_at_place}
use Rattle.gd_flat.specs.Laws.Firsts.{least_inside}
use Rattle.gd_int.proofs.Comparisons.{AtMost-below}
use Rattle.gd_int.specs.Comparisons.{AtMost}
use Rattle.gd_int.specs.Roots.{cmp_root_of}
use Rattle.gd_points.specs.declared.table.Row.{Row}
use Rattle.gd_vec.specs.declared.vector.V3.{V3}
use Rattle.gd_zone.specs.Tests.{ceil_root, floor_root}

-- ---- tests
not-true : (b : Bool) → (b ≡ true → ⊥) → b ≡ false
not-true true h = absurd (h refl)
not-true false h = refl

or-left : (a b : Bool) → a ≡ true → (a || b) ≡ true
or-left true b h = refl
or-left false b h = absurd (false≢true h)

or-right : (a b : Bool) → b ≡ true → (a || b) ≡ true
or-right true b h = refl
or-right false b h = h

and-both : (a b : Bool) → a ≡ true → b ≡ true → (a && b) ≡ true
and-both true b h k = k
and-both false b h k = absurd (false≢true h)

same-place : (i : ℕ) → nat_eq i i ≡ true
same-place i = grind (arith, nat_tests)

-- ---- a number at a place is one of them
pub is-one : (judged : List ℕ) (k : ℕ) → k < length judged
    → list_any (λ (n : ℕ). nat_eq n (get_or judged k 0)) judged ≡ true
is-one [] k h = absurd (omega (arith, h))
is-one (i ∷ judged) zero h = or-left (nat_eq i i) (list_any (λ (n : ℕ). nat_eq n i) judged) (same-place i)
is-one (i ∷ judged) (suc k) h =
    or-right (nat_eq i (get_or judged k 0)) (list_any (λ (n : ℕ). nat_eq n (get_or judged k 0)) judged)
    (is-one judged k (omega (arith, h)))

pub is-named : (judged : List ℕ) (n : ℕ) → list_any (λ (m : ℕ). nat_eq m n) judged ≡ true
    → is_judged judged (n + 1) ≡ true
is-named judged n h =
    let e : n + 1 - 1 ≡ n = omega arith in
    and-both (nat_le 1 (n + 1)) (list_any (λ (m : ℕ). nat_eq m (n + 1 - 1)) judged) (grind (arith, nat_tests))
    (subst (λ k. list_any (λ (m : ℕ). nat_eq m k) judged ≡ true) (sym e) h)

-- ---- straightness
pub found : (f : ℕ → Bool) (judged : List ℕ) (i : ℕ) → find f judged ≡ Some i
    → (list_any (λ (n : ℕ). nat_eq n i) judged ≡ true) × (f i ≡ true)
found f [] i h = absurd (cc)
found f (j ∷ judged) i h = by (f j) refl h (λ g. found f judged i g)
  where
    by : (b : Bool) → f j ≡ b → cond b (Some j) (find f judged) ≡ Some i
        → (find f judged ≡ Some i → (list_any (λ (n : ℕ). nat_eq n i) judged ≡ true) × (f i ≡ true))
        → (list_any (λ (n : ℕ). nat_eq n i) (j ∷ judged) ≡ true) × (f i ≡ true)
    by true e g later =
        let same : j ≡ i = cc in (
          or-left (nat_eq j i) (list_any (λ (n : ℕ). nat_eq n i) judged)
              (subst (λ n. nat_eq n i ≡ true) (sym same) (same-place i)),
          subst (λ n. f n ≡ true) same e,
        )
    by false e g later = let r = later g in (or-right (nat_eq j i) (list_any (λ (n : ℕ). nat_eq n i) judged) r.0, r.1)

not-found : (f : ℕ → Bool) (judged : List ℕ) (k : ℕ) → find f judged ≡ None → k < length judged
    → f (get_or judged k 0) ≡ false
not-found f [] k h lt = absurd (omega (arith, lt))
not-found f (j ∷ judged) k h lt = by (f j) refl h k lt (λ m g l. not-found f judged m g l)
  where
    by : (b : Bool) → f j ≡ b → cond b (Some j) (find f judged) ≡ None → (k : ℕ) → k < length (j ∷ judged)
        → ((m : ℕ) → find f judged ≡ None → m < length judged → f (get_or judged m 0) ≡ false)
        → f (get_or (j ∷ judged) k 0) ≡ false
    by true e g k lt later = absurd (cc)
    by false e g zero lt later = e
    by false e g (suc k) lt later = later k g (omega (arith, lt))

pub mapped : (o : Option ℕ) (e : Evidence) → option_map point_evidence o ≡ Some e → (i : ℕ) × (o ≡ Some i)
    × (point_evidence i ≡ e)
mapped (Some i) e h = (i, refl, cc)
mapped None e h = absurd (cc)

unmapped : (o : Option ℕ) → option_map point_evidence o ≡ None → o ≡ None
unmapped (Some i) h = absurd (cc)
unmapped None h = refl

pub line-evidence-refutes : LineEvidenceRefutes
line-evidence-refutes shape rows judged t b a e h =
    let f : ℕ → Bool = λ (i : ℕ). is_outside t (length2_of shape b).hi (value_at shape b a rows i) in
    let m = mapped (find f judged) e h in
    let i : ℕ = m.0 in
    let g = found f judged i m.1 in
    let back : i + 1 - 1 ≡ i = omega arith in
    subst (λ v. line_refuted shape rows judged t b a v ≡ true) m.2
    (and-both (is_judged judged (i + 1)) (f (i + 1 - 1)) (is-named judged i g.0)
    (subst (λ n. f n ≡ true) (sym back) g.1))

pub line-none-refutes : LineNoneRefutes
line-none-refutes shape rows judged t b a e h =
    let f : ℕ → Bool = λ (i : ℕ). is_outside t (length2_of shape b).hi (value_at shape b a rows i) in
    let none : find f judged ≡ None = unmapped (find f judged) h in
    not-true (line_refuted shape rows judged t b a e) (λ r.
    let rest = and-right (nat_eq e.condition 1) (is_judged judged e.a && (nat_eq e.b 0 && f (e.a - 1))) r in
    let place : Place judged (e.a - 1) =
    place-of judged (e.a - 1) (and-right (nat_le 1 e.a) (list_any (λ (n : ℕ). nat_eq n (e.a - 1)) judged)
    (and-left (is_judged judged e.a) (nat_eq e.b 0 && f (e.a - 1)) rest)) in
    let out : f (e.a - 1) ≡ true =
    and-right (nat_eq e.b 0) (f (e.a - 1)) (and-right (is_judged judged e.a) (nat_eq e.b 0 && f (e.a - 1)) rest) in
    let in-all : f (e.a - 1) ≡ false =
    subst (λ n. f n ≡ false) place.there (not-found f judged place.at none place.inside) in
    false≢true (sym in-all ∙ out))

-- ---- circularity and cylindricity: the farthest and the nearest point decide
module _ (shape : FormShape) (rows : List Row) (judged : List ℕ) (t : ℕ) (b : DirBox) (a : V3) where
  pub farthest-inside : 0 < length judged → place_of (greatest (near_ends shape b a rows judged))
      (near_ends shape b a rows judged) < length judged
  farthest-inside some =
      rw (near-length shape b a rows judged) at (greatest_inside (near_ends shape b a rows judged)
      (rw (near-length shape b a rows judged) some))

  pub nearest-inside : 0 < length judged → place_of (least (far_ends shape b a rows judged))
      (far_ends shape b a rows judged) < length judged
  nearest-inside some =
      rw (far-length shape b a rows judged) at (least_inside (far_ends shape b a rows judged)
      (rw (far-length shape b a rows judged) some))

  pub extremes-part : 0 < length judged → ring_parts shape rows t b a (farthest_point shape rows judged b a)
      (nearest_point shape rows judged b a)
      ≡ is_gt (cmp_root_of (greatest (near_ends shape b a rows judged) -ℤ least (far_ends shape b a rows judged))
      (pos t) (length2_of shape b).hi)
  extremes-part some =
      let xs : List ℤ = near_ends shape b a rows judged in
      let ys : List ℤ = far_ends shape b a rows judged in
      let m : ℤ = (length2_of shape b).hi in
      let g : floor_root (value_at shape b a rows (farthest_point shape rows judged b a)).lo ≡ greatest xs =
      sym (near-at shape b a rows judged (place_of (greatest xs) xs) (farthest-inside some)) ∙ greatest_at_place xs
      (pos 0) (rw (near-length shape b a rows judged) some) in
      let l : ceil_root (value_at shape b a rows (nearest_point shape rows judged b a)).hi ≡ least ys =
      sym (far-at shape b a rows judged (place_of (least ys) ys) (nearest-inside some)) ∙ least_at_place ys (pos 0)
      (rw (far-length shape b a rows judged) some) in
      ap (λ z. is_gt (cmp_root_of (z -ℤ ceil_root (value_at shape b a rows (nearest_point shape rows judged b a)).hi)
      (pos t) m)) g
      ∙ ap (λ z. is_gt (cmp_root_of (greatest xs -ℤ z) (pos t) m)) l

  no-others-part : (e : Evidence) → ring_parts shape rows t b a (farthest_point shape rows judged b a)
      (nearest_point shape rows judged b a) ≡ false → Parted shape rows judged t b a e → ⊥
  no-others-part e none two =
      let xs : List ℤ = near_ends shape b a rows judged in
      let ys : List ℤ = far_ends shape b a rows judged in
      let m : ℤ = (length2_of shape b).hi in
      let some : 0 < length judged = omega (arith, two.far.inside) in
      let most : AtMost (greatest xs -ℤ least ys) (pos t) m =
      at_most_from_not (greatest xs -ℤ least ys) (pos t) m (sym (extremes-part some) ∙ none) in
      let u : ℤ = floor_root (value_at shape b a rows (e.a - 1)).lo in
      let v : ℤ = ceil_root (value_at shape b a rows (e.b - 1)).hi in
      let up : u ≤ℤ greatest xs =
      subst (λ n. floor_root (value_at shape b a rows n).lo ≤ℤ greatest xs) two.far.there
      (subst (λ z. z ≤ℤ greatest xs) (near-at shape b a rows judged two.far.at two.far.inside)
      (below_greatest xs two.far.at (pos 0) (rw (near-length shape b a rows judged) two.far.inside))) in
      let down : least ys ≤ℤ v =
      subst (λ n. least ys ≤ℤ ceil_root (value_at shape b a rows n).hi) two.near.there
      (subst (λ z. least ys ≤ℤ z) (far-at shape b a rows judged two.near.at two.near.inside)
      (above_least ys two.near.at (pos 0) (rw (far-length shape b a rows judged) two.near.inside))) in
      let few : is_gt (cmp_root_of (u -ℤ v) (pos t) m) ≡ false =
      not_greater (u -ℤ v) (pos t) m (AtMost-below (greatest xs -ℤ least ys) (u -ℤ v) (pos t) m
      (less u (greatest xs) (least ys) v up down) most) in
      false≢true (sym few ∙ two.parts)
    where
      less : (u g l v : ℤ) → u ≤ℤ g → l ≤ℤ v → (u -ℤ v) ≤ℤ (g -ℤ l)
      less u g l v h i = omega (arith, ints, h, i)

pub chosen : (t : Bool) (e d : Evidence) → cond t (Some e) None ≡ Some d → (t ≡ true) × (e ≡ d)
chosen true e d h = (refl, cc)
chosen false e d h = absurd (cc)

not-chosen : (t : Bool) (e : Evidence) → cond t (Some e) None ≡ None → t ≡ false
not-chosen true e h = absurd (cc)
not-chosen false e h = refl

pub ring-evidence-refutes : RingEvidenceRefutes
ring-evidence-refutes shape rows judged t b a e some h =
    let i : ℕ = farthest_point shape rows judged b a in
    let j : ℕ = nearest_point shape rows judged b a in
    let c = chosen (ring_parts shape rows t b a i j) (evidence_of i j) e h in
    let xs = near_ends shape b a rows judged in
    let ys = far_ends shape b a rows judged in
    let first : is_judged judged (i + 1) ≡ true =
    is-named judged i (is-one judged (place_of (greatest xs) xs) (farthest-inside shape rows judged t b a some)) in
    let second : is_judged judged (j + 1) ≡ true =
    is-named judged j (is-one judged (place_of (least ys) ys) (nearest-inside shape rows judged t b a some)) in
    let ei : i + 1 - 1 ≡ i = omega arith in
    let ej : j + 1 - 1 ≡ j = omega arith in
    let parts : ring_parts shape rows t b a (i + 1 - 1) (j + 1 - 1) ≡ true =
    subst (λ n. ring_parts shape rows t b a n (j + 1 - 1) ≡ true) (sym ei)
    (subst (λ n. ring_parts shape rows t b a i n ≡ true) (sym ej) c.0) in
    subst (λ v. ring_refuted shape rows judged t b a v ≡ true) c.1
    (and-both (is_judged judged (i + 1)) (is_judged judged (j + 1)
    && ring_parts shape rows t b a (i + 1 - 1) (j + 1 - 1)) first
    (and-both (is_judged judged (j + 1)) (ring_parts shape rows t b a (i + 1 - 1) (j + 1 - 1)) second parts))

pub ring-none-refutes : RingNoneRefutes
ring-none-refutes shape rows judged t b a e h =
    let i : ℕ = farthest_point shape rows judged b a in
    let j : ℕ = nearest_point shape rows judged b a in
    let none : ring_parts shape rows t b a i j ≡ false =
    not-chosen (ring_parts shape rows t b a i j) (evidence_of i j) h in
    not-true (ring_refuted shape rows judged t b a e)
    (λ r. no-others-part shape rows judged t b a e none (parted shape rows judged t b a e r))
