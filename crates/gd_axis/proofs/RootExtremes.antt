-- The extremes of distances by those of their squares.
use Rattle.std.proofs.Common.{◌≡◌, refl, sym, subst, ap, ◌∙◌, ℕ, zero, suc, ◌*◌, ◌^◌, ◌<◌, ◌≤◌, List, length, get_or, map, Bool, true, false, arith, unsigned_abs}
use Rattle.std.proofs.lemmas.Bool.{false≢true}
use Rattle.std.proofs.lemmas.Float.{T_from_true}
use Rattle.std.proofs.lemmas.Int.{ints}
use Rattle.std.proofs.lemmas.List.{get_or-map, length-map}
use Rattle.std.specs.Cmp.{signed_Decides}
use Rattle.std.specs.Ordering.{int_eq}
use Rattle.std.specs.Prelude.{ℤ, pos, negsuc, ◌-ℤ◌, ◌*ℤ◌, ◌≤ℤ◌, ◌<ℤ◌, int_le}
use Rattle.gd_dir.specs.declared.shape.DirBox.{DirBox}
use Rattle.gd_dir.specs.declared.shape.FormShape.{FormShape}
use Rattle.gd_axis.specs.Laws.AxisHeld.{value-sign, value-top}
use Rattle.gd_axis.proofs.AxisSizes.{distance2-size, kept-large}
use Rattle.gd_axis.specs.Laws.AxisSound.{far-length, near-length}
use Rattle.gd_flat.proofs.Sizes.{kept_wide}
use Rattle.gd_flat.proofs.Blocks.{NoneBefore, before_place}
use Rattle.gd_axis.proofs.Roots.{ceil-root-grows, ceil-root-is, floor-root-grows, floor-root-is}
use Rattle.gd_axis.specs.AxisBoxes.{IsDistance, IsDistance2}
use Rattle.gd_axis.specs.AxisTests.{far_ends, lower_ends, near_ends, upper_ends, value_at}
use Rattle.gd_flat.specs.FlatTests.{evidence_of, greatest, least, place_of, point_at}
use Rattle.gd_flat.specs.Laws.Firsts.{above_least, below_greatest, greatest_at_place, greatest_inside, least_at_place, least_inside}
use Rattle.gd_int.proofs.Integers.{le_antisym_ℤ}
use Rattle.gd_int.specs.Roots.{cmp_root_of}
use Rattle.gd_interval.proofs.RootOrder.{above_grows, below_grows}
use Rattle.gd_interval.specs.Formulas.{IsRootAbove, IsRootBelow}
use Rattle.gd_points.specs.declared.table.Row.{Row}
use Rattle.gd_vec.specs.declared.vector.V3.{V3}
use Rattle.gd_zone.specs.Tests.{ceil_root, floor_root}

-- ---- a function that grows takes the greatest to the greatest, and the least to the least
abbrev Grows : (ℤ → ℤ) → Type 0
Grows f = (x y : ℤ) → pos 0 ≤ℤ x → x ≤ℤ y → f x ≤ℤ f y

abbrev pub AreDistances2 : List ℤ → Type 0
AreDistances2 xs = (k : ℕ) → k < length xs → pos 0 ≤ℤ get_or xs k (pos 0)

greatest-map : (f : ℤ → ℤ) (xs : List ℤ) → Grows f → AreDistances2 xs → 0 < length xs → greatest (map f xs) ≡ f (greatest xs)
greatest-map f xs grows positive some =
    let ys : List ℤ = map f xs in
    let more : 0 < length ys = rw length-map some in
    let k : ℕ = place_of (greatest xs) xs in
    let kin : k < length xs = greatest_inside xs some in
    let up : f (greatest xs) ≤ℤ greatest ys =
    subst (λ z. z ≤ℤ greatest ys) (get_or-map f xs k (pos 0) (pos 0) kin ∙ ap f (greatest_at_place xs (pos 0) some)) (below_greatest ys k (pos 0) (rw length-map kin)) in
    let j : ℕ = place_of (greatest ys) ys in
    let jin : j < length xs = rw length-map at (greatest_inside ys more) in
    let down : greatest ys ≤ℤ f (greatest xs) =
    subst (λ z. z ≤ℤ f (greatest xs)) (sym (get_or-map f xs j (pos 0) (pos 0) jin) ∙ greatest_at_place ys (pos 0) more) (grows (get_or xs j (pos 0)) (greatest xs) (positive j jin) (below_greatest xs j (pos 0) jin)) in
    le_antisym_ℤ (greatest ys) (f (greatest xs)) down up

least-map : (f : ℤ → ℤ) (xs : List ℤ) → Grows f → AreDistances2 xs → 0 < length xs → least (map f xs) ≡ f (least xs)
least-map f xs grows positive some =
    let ys : List ℤ = map f xs in
    let more : 0 < length ys = rw length-map some in
    let k : ℕ = place_of (least xs) xs in
    let kin : k < length xs = least_inside xs some in
    let e : get_or xs k (pos 0) ≡ least xs = least_at_place xs (pos 0) some in
    let down : least ys ≤ℤ f (least xs) = subst (λ z. least ys ≤ℤ z) (get_or-map f xs k (pos 0) (pos 0) kin ∙ ap f e) (above_least ys k (pos 0) (rw length-map kin)) in
    let j : ℕ = place_of (least ys) ys in
    let jin : j < length xs = rw length-map at (least_inside ys more) in
    let up : f (least xs) ≤ℤ least ys =
    subst (λ z. f (least xs) ≤ℤ z) (sym (get_or-map f xs j (pos 0) (pos 0) jin) ∙ least_at_place ys (pos 0) more)
    (grows (least xs) (get_or xs j (pos 0)) (subst (λ z. pos 0 ≤ℤ z) e (positive k kin)) (above_least xs j (pos 0) jin)) in
    le_antisym_ℤ (least ys) (f (least xs)) down up

-- ---- roots against squares
pub square-root : (r : ℤ) → pos 0 ≤ℤ r → IsRootBelow r (r *ℤ r)
square-root (pos n) h = (omega (arith, ints), omega (arith, ints), omega (arith, ints))
square-root (negsuc n) h = absurd (omega (arith, ints, h))

pub square-ceil : (r : ℤ) → pos 0 ≤ℤ r → IsRootAbove r (r *ℤ r)
square-ceil (pos zero) h = (omega (arith, ints), omega (arith, ints), λ p. absurd (omega (arith, ints, p)))
square-ceil (pos (suc n)) h = (omega (arith, ints), omega (arith, ints), λ p. let e : pos (suc n) -ℤ pos 1 ≡ pos n = omega (arith, ints) in subst (λ z. (z *ℤ z) <ℤ (pos (suc n) *ℤ pos (suc n))) (sym e) (omega (arith, ints)))
square-ceil (negsuc n) h = absurd (omega (arith, ints, h))

reached : (r z : ℤ) → pos 0 ≤ℤ r → pos 0 ≤ℤ z → (r *ℤ r) ≤ℤ z → r ≤ℤ floor_root z
reached r z h k l = below_grows (r *ℤ r) z r (floor_root z) l (square-root r h) (floor-root-is z k)

kept-within : (r z : ℤ) → pos 0 ≤ℤ r → pos 0 ≤ℤ z → z ≤ℤ (r *ℤ r) → ceil_root z ≤ℤ r
kept-within r z h k l = above_grows z (r *ℤ r) (ceil_root z) r l (ceil-root-is z k) (square-ceil r h)

le-true : (a b : ℤ) → int_le a b ≡ true → a ≤ℤ b
le-true a b h = record { le = T_from_true (int_le a b) h }

-- ---- what a test that fails shows
not-le : (p q : ℤ) → int_le p q ≡ false → p ≤ℤ q → ⊥
not-le p q h l = absurd (omega (arith, ints, h, l))

differ : (x y : ℤ) → (x ≡ y → ⊥) → int_eq x y ≡ false
differ x y h = by (int_eq x y) refl
  where
    by : (t : Bool) → int_eq x y ≡ t → t ≡ false
    by true e = absurd (h ((signed_Decides x y).0 e))
    by false e = refl

-- ---- the values of judged points
module _ (shape : FormShape) (b : DirBox) (a : V3) (rows : List Row) (judged : List ℕ) where
  pub lower-length : length (lower_ends shape b a rows judged) ≡ length judged
  lower-length = length-map judged (λ (i : ℕ). (value_at shape b a rows i).lo)

  pub upper-length : length (upper_ends shape b a rows judged) ≡ length judged
  upper-length = length-map judged (λ (i : ℕ). (value_at shape b a rows i).hi)

  pub lower-sign : AreDistances2 (lower_ends shape b a rows judged)
  lower-sign k h =
      let g : ℕ → ℤ = λ (i : ℕ). (value_at shape b a rows i).lo in
      let inside : k < length judged = rw lower-length at h in
      subst (λ z. pos 0 ≤ℤ z) (sym (get_or-map g judged k 0 (pos 0) inside)) (value-sign shape b a (point_at rows (get_or judged k 0)))

  pub upper-sign : AreDistances2 (upper_ends shape b a rows judged)
  upper-sign k h =
      let g : ℕ → ℤ = λ (i : ℕ). (value_at shape b a rows i).hi in
      let inside : k < length judged = rw upper-length at h in
      subst (λ z. pos 0 ≤ℤ z) (sym (get_or-map g judged k 0 (pos 0) inside)) (value-top shape b a (point_at rows (get_or judged k 0)))

  pub greatest-near : 0 < length judged → greatest (near_ends shape b a rows judged) ≡ floor_root (greatest (lower_ends shape b a rows judged))
  greatest-near some = greatest-map floor_root (lower_ends shape b a rows judged) floor-root-grows lower-sign (rw lower-length some)

  pub least-near : 0 < length judged → least (near_ends shape b a rows judged) ≡ floor_root (least (lower_ends shape b a rows judged))
  least-near some = least-map floor_root (lower_ends shape b a rows judged) floor-root-grows lower-sign (rw lower-length some)

  pub greatest-far : 0 < length judged → greatest (far_ends shape b a rows judged) ≡ ceil_root (greatest (upper_ends shape b a rows judged))
  greatest-far some = greatest-map ceil_root (upper_ends shape b a rows judged) ceil-root-grows upper-sign (rw upper-length some)

  pub least-far : 0 < length judged → least (far_ends shape b a rows judged) ≡ ceil_root (least (upper_ends shape b a rows judged))
  least-far some = least-map ceil_root (upper_ends shape b a rows judged) ceil-root-grows upper-sign (rw upper-length some)

  -- a point whose value reaches the square of the greatest least distance has it, and no other has
  pub far-hit : (r : ℤ) (k : ℕ) → r ≡ greatest (near_ends shape b a rows judged) → pos 0 ≤ℤ r → k < length judged → int_le (r *ℤ r) (get_or (lower_ends shape b a rows judged) k (pos 0)) ≡ true
      → get_or (near_ends shape b a rows judged) k (pos 0) ≡ r
  far-hit r k e r0 kin h =
      let xs : List ℤ = lower_ends shape b a rows judged in
      let z : ℤ = get_or xs k (pos 0) in
      let lin : k < length xs = rw lower-length kin in
      let n : get_or (near_ends shape b a rows judged) k (pos 0) ≡ floor_root z = get_or-map floor_root xs k (pos 0) (pos 0) lin in
      let up : r ≤ℤ floor_root z = reached r z r0 (lower-sign k lin) (le-true (r *ℤ r) z h) in
      let most : get_or (near_ends shape b a rows judged) k (pos 0) ≤ℤ greatest (near_ends shape b a rows judged) = below_greatest (near_ends shape b a rows judged) k (pos 0) (rw (near-length shape b a rows judged) kin) in
      le_antisym_ℤ (get_or (near_ends shape b a rows judged) k (pos 0)) r (subst (λ q. get_or (near_ends shape b a rows judged) k (pos 0) ≤ℤ q) (sym e) most) (subst (λ q. r ≤ℤ q) (sym n) up)

  pub far-miss : (r : ℤ) (k : ℕ) → k < length judged → int_le (r *ℤ r) (get_or (lower_ends shape b a rows judged) k (pos 0)) ≡ false → int_eq r (get_or (near_ends shape b a rows judged) k (pos 0)) ≡ false
  far-miss r k kin h =
      let xs : List ℤ = lower_ends shape b a rows judged in
      let z : ℤ = get_or xs k (pos 0) in
      let lin : k < length xs = rw lower-length kin in
      let n : get_or (near_ends shape b a rows judged) k (pos 0) ≡ floor_root z = get_or-map floor_root xs k (pos 0) (pos 0) lin in
      differ r (get_or (near_ends shape b a rows judged) k (pos 0)) (λ e. below r z h ((floor-root-is z (lower-sign k lin)).1) (e ∙ n))
    where
      below : (r z : ℤ) → int_le (r *ℤ r) z ≡ false → (floor_root z *ℤ floor_root z) ≤ℤ z → r ≡ floor_root z → ⊥
      below r z h l e = not-le (r *ℤ r) z h (subst (λ q. (q *ℤ q) ≤ℤ z) (sym e) l)

  pub far-found : (r : ℤ) (n : ℕ) → r ≡ greatest (near_ends shape b a rows judged) → 0 < length judged → NoneBefore r n (near_ends shape b a rows judged) → n ≡ length judged → ⊥
  far-found r n e some none end =
      let xs : List ℤ = near_ends shape b a rows judged in
      let len : length xs ≡ length judged = near-length shape b a rows judged in
      let more : 0 < length xs = rw len some in
      let k : ℕ = place_of (greatest xs) xs in
      let kin : k < length xs = greatest_inside xs more in
      let miss : int_eq r (get_or xs k (pos 0)) ≡ false = before_place r n xs none (omega (arith, end, len)) k (omega (arith, kin, len, end)) in
      let hit : int_eq r (get_or xs k (pos 0)) ≡ true = (signed_Decides r (get_or xs k (pos 0))).1 (e ∙ sym (greatest_at_place xs (pos 0) more)) in
      false≢true (sym miss ∙ hit)

  -- the same of the least greatest distance
  pub near-hit : (r : ℤ) (k : ℕ) → r ≡ least (far_ends shape b a rows judged) → pos 0 ≤ℤ r → k < length judged → int_le (get_or (upper_ends shape b a rows judged) k (pos 0)) (r *ℤ r) ≡ true
      → get_or (far_ends shape b a rows judged) k (pos 0) ≡ r
  near-hit r k e r0 kin h =
      let xs : List ℤ = upper_ends shape b a rows judged in
      let ys : List ℤ = far_ends shape b a rows judged in
      let z : ℤ = get_or xs k (pos 0) in
      let lin : k < length xs = rw upper-length kin in
      let n : get_or ys k (pos 0) ≡ ceil_root z = get_or-map ceil_root xs k (pos 0) (pos 0) lin in
      let down : ceil_root z ≤ℤ r = kept-within r z r0 (upper-sign k lin) (le-true z (r *ℤ r) h) in
      let most : least ys ≤ℤ get_or ys k (pos 0) = above_least ys k (pos 0) (rw (far-length shape b a rows judged) kin) in
      le_antisym_ℤ (get_or ys k (pos 0)) r (subst (λ q. q ≤ℤ r) (sym n) down) (subst (λ q. q ≤ℤ get_or ys k (pos 0)) (sym e) most)

  pub near-miss : (r : ℤ) (k : ℕ) → k < length judged → int_le (get_or (upper_ends shape b a rows judged) k (pos 0)) (r *ℤ r) ≡ false → int_eq r (get_or (far_ends shape b a rows judged) k (pos 0)) ≡ false
  near-miss r k kin h =
      let xs : List ℤ = upper_ends shape b a rows judged in
      let z : ℤ = get_or xs k (pos 0) in
      let lin : k < length xs = rw upper-length kin in
      let n : get_or (far_ends shape b a rows judged) k (pos 0) ≡ ceil_root z = get_or-map ceil_root xs k (pos 0) (pos 0) lin in
      differ r (get_or (far_ends shape b a rows judged) k (pos 0)) (λ e. above r z h ((ceil-root-is z (upper-sign k lin)).1) (e ∙ n))
    where
      above : (r z : ℤ) → int_le z (r *ℤ r) ≡ false → z ≤ℤ (ceil_root z *ℤ ceil_root z) → r ≡ ceil_root z → ⊥
      above r z h l e = not-le z (r *ℤ r) h (subst (λ q. z ≤ℤ (q *ℤ q)) (sym e) l)

  pub near-found : (r : ℤ) (n : ℕ) → r ≡ least (far_ends shape b a rows judged) → 0 < length judged → NoneBefore r n (far_ends shape b a rows judged) → n ≡ length judged → ⊥
  near-found r n e some none end =
      let xs : List ℤ = far_ends shape b a rows judged in
      let len : length xs ≡ length judged = far-length shape b a rows judged in
      let more : 0 < length xs = rw len some in
      let k : ℕ = place_of (least xs) xs in
      let kin : k < length xs = least_inside xs more in
      let miss : int_eq r (get_or xs k (pos 0)) ≡ false = before_place r n xs none (omega (arith, end, len)) k (omega (arith, kin, len, end)) in
      let hit : int_eq r (get_or xs k (pos 0)) ≡ true = (signed_Decides r (get_or xs k (pos 0))).1 (e ∙ sym (least_at_place xs (pos 0) more)) in
      false≢true (sym miss ∙ hit)

-- ---- sizes of roots
pub root-below-size : (r z : ℤ) → IsDistance2 z → IsRootBelow r z → IsDistance r
root-below-size r z h k = (k.0, below_grows z (pos (2 ^ 57) *ℤ pos (2 ^ 57)) r (pos (2 ^ 57)) (within z h.1) k (square-root (pos (2 ^ 57)) (omega (arith, ints))))
  where
    within : (z : ℤ) → z ≤ℤ pos (3 * 2 ^ 112) → z ≤ℤ (pos (2 ^ 57) *ℤ pos (2 ^ 57))
    within z h = omega (arith, ints, h)

pub root-above-size : (r z : ℤ) → IsDistance2 z → IsRootAbove r z → IsDistance r
root-above-size r z h k = (k.0, above_grows z (pos (2 ^ 57) *ℤ pos (2 ^ 57)) r (pos (2 ^ 57)) (within z h.1) k (square-ceil (pos (2 ^ 57)) (omega (arith, ints))))
  where
    within : (z : ℤ) → z ≤ℤ pos (3 * 2 ^ 112) → z ≤ℤ (pos (2 ^ 57) *ℤ pos (2 ^ 57))
    within z h = omega (arith, ints, h)

-- ---- numbers as a test reads them
pub told : (t r : Bool) (d v d' v' : ℤ) → r ≡ int_le (d' *ℤ d') v' → d' ≡ d → v' ≡ v → r ≡ t → int_le (d *ℤ d) v ≡ t
told t r d v d' v' e f g h = subst (λ x. int_le (x *ℤ x) v ≡ t) f (subst (λ y. int_le (d' *ℤ d') y ≡ t) g (sym e ∙ h))

pub told-within : (t r : Bool) (d v d' v' : ℤ) → r ≡ int_le v' (d' *ℤ d') → d' ≡ d → v' ≡ v → r ≡ t → int_le v (d *ℤ d) ≡ t
told-within t r d v d' v' e f g h = subst (λ x. int_le v (x *ℤ x) ≡ t) f (subst (λ y. int_le y (d' *ℤ d') ≡ t) g (sym e ∙ h))

pub compared-as : (t f n m f' n' m' : ℤ) → f' ≡ f → n' ≡ n → m' ≡ m → cmp_root_of (f' -ℤ n') t m' ≡ cmp_root_of (f -ℤ n) t m
compared-as t f n m f' n' m' d e g = ap (λ z. cmp_root_of (z -ℤ n') t m') d ∙ ap (λ z. cmp_root_of (f -ℤ z) t m') e ∙ ap (λ z. cmp_root_of (f -ℤ n) t z) g

pub distance-kept : (z : ℤ) → IsDistance z → kept_wide z ≡ z
distance-kept z h = kept-large z (bound z h.0 h.1)
  where
    bound : (z : ℤ) → pos 0 ≤ℤ z → z ≤ℤ pos (2 ^ 57) → unsigned_abs z ≤ 2 ^ 120
    bound z h k = omega (arith, ints, h, k)

pub distance2-kept : (z : ℤ) → IsDistance2 z → kept_wide z ≡ z
distance2-kept z h = kept-large z (distance2-size z h)

pub evidence-is : (i j p q : ℕ) → i ≡ p → j ≡ q → evidence_of i j ≡ evidence_of p q
evidence-is i j p q e f = ap (λ k. evidence_of k j) e ∙ ap (λ k. evidence_of p k) f
