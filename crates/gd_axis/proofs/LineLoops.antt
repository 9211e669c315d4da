-- Loops over the points that are judged.
use Rattle.std.proofs.Common.{◌≡◌, refl, sym, subst, ap, ◌∙◌, ℕ, zero, suc, ◌+◌, ◌-◌, ◌<◌, List, [], ◌∷◌, length, get_or, Bool, true, false, cond, ◌&&◌, Option, Some, None, arith, nat_eq, nat_le, inl, inr, unsigned_abs, ◌^◌, ◌≤◌}
use Rattle.std.proofs.lemmas.Bool.{cases_lt}
use Rattle.std.proofs.lemmas.Int.{ints}
use Rattle.std.specs.List.{All, find, list_all, list_any}
use Rattle.std.specs.Prelude.{ℤ, pos, ◌*ℤ◌, int_le, int_lt, option_map}
use Rattle.gd_axis.specs.Laws.AxisSound.{Place, and-right, place-of}
use Rattle.gd_axis.proofs.AxisSizes.{kept-large}
use Rattle.gd_flat.proofs.Sizes.{kept_wide}
use Rattle.gd_axis.specs.AxisTests.{is_inside, is_judged, is_outside, length2_of, line_evidence, line_holds, lower_ends, point_evidence, square_times, upper_ends, value_at}
use Rattle.gd_dir.specs.declared.shape.DirBox.{DirBox}
use Rattle.gd_dir.specs.declared.shape.FormShape.{FormShape}
use Rattle.gd_points.specs.declared.table.Row.{Row}
use Rattle.gd_vec.specs.declared.vector.V3.{V3}
use Rattle.std.proofs.lemmas.List.{get_or-map}

-- ---- a judged point has a place in the table
pub judged-inside : (judged : List ℕ) (count number : ℕ) → All (λ (n : ℕ). n < count) judged → is_judged judged number ≡ true → number - 1 < count
judged-inside judged count number below h =
    let p : Place judged (number - 1) = place-of judged (number - 1) (and-right (nat_le 1 number) (list_any (λ (n : ℕ). nat_eq n (number - 1)) judged) h) in
    subst (λ n. n < count) p.there (below p.at 0 p.inside)

-- ---- no value before a place is more
abbrev pub NoneMore : ℤ → ℕ → List ℤ → Type 0
NoneMore most n xs = (k : ℕ) → k < n → int_lt most (pos 4 *ℤ get_or xs k (pos 0)) ≡ false

pub no-more : (most : ℤ) (n : ℕ) (xs : List ℤ) → NoneMore most n xs → int_lt most (pos 4 *ℤ get_or xs n (pos 0)) ≡ false → NoneMore most (n + 1) xs
no-more most n xs h here = λ k lt. elim (cases_lt k n) as (λ _. int_lt most (pos 4 *ℤ get_or xs k (pos 0)) ≡ false) [
  | inl l ↦ h k l
  | inr l ↦ let e : n ≡ k = omega (arith, l, lt) in subst (λ j. int_lt most (pos 4 *ℤ get_or xs j (pos 0)) ≡ false) e here
]

-- ---- the first that passes a test
find-step : (f : ℕ → Bool) (i : ℕ) (judged : List ℕ) (r : Option ℕ) → f i ≡ false → find f judged ≡ r → find f (i ∷ judged) ≡ r
find-step f i judged r e h = ap (λ b. cond b (Some i) (find f judged)) e ∙ h

pub find-at : (f : ℕ → Bool) (judged : List ℕ) (k : ℕ) → k < length judged → ((j : ℕ) → j < k → f (get_or judged j 0) ≡ false) → f (get_or judged k 0) ≡ true → find f judged ≡ Some (get_or judged k 0)
find-at f [] k lt none here = absurd (omega (arith, lt))
find-at f (i ∷ judged) zero lt none here = ap (λ b. cond b (Some i) (find f judged)) here
find-at f (i ∷ judged) (suc k) lt none here = find-step f i judged (Some (get_or judged k 0)) (none 0 (omega arith)) (find-at f judged k (omega (arith, lt)) (λ j l. none (suc j) (omega (arith, l))) here)

pub find-none : (f : ℕ → Bool) (judged : List ℕ) → ((j : ℕ) → j < length judged → f (get_or judged j 0) ≡ false) → find f judged ≡ None
find-none f [] none = refl
find-none f (i ∷ judged) none = find-step f i judged None (none 0 (omega arith)) (find-none f judged (λ j l. none (suc j) (omega (arith, l))))

-- ---- all that pass a test
pub all-from : (f : ℕ → Bool) (judged : List ℕ) → ((j : ℕ) → j < length judged → f (get_or judged j 0) ≡ true) → list_all f judged ≡ true
all-from f [] each = refl
all-from f (i ∷ judged) each = ap (λ b. b && list_all f judged) (each 0 (omega arith)) ∙ all-from f judged (λ j l. each (suc j) (omega (arith, l)))

pub all-not : (f : ℕ → Bool) (judged : List ℕ) (k : ℕ) → k < length judged → f (get_or judged k 0) ≡ false → list_all f judged ≡ false
all-not f [] k lt here = absurd (omega (arith, lt))
all-not f (i ∷ judged) zero lt here = ap (λ b. b && list_all f judged) here
all-not f (i ∷ judged) (suc k) lt here = after (f i) (list_all f judged) (all-not f judged k (omega (arith, lt)) here)
  where
    after : (a b : Bool) → b ≡ false → (a && b) ≡ false
    after true b h = h
    after false b h = refl

-- ---- at most, or more
pub not-more : (a b : ℤ) → int_lt a b ≡ false → int_le b a ≡ true
not-more a b h = by (int_le b a) refl
  where
    by : (t : Bool) → int_le b a ≡ t → t ≡ true
    by true e = refl
    by false e = absurd (omega (arith, ints, h, e))

pub more : (a b : ℤ) → int_lt a b ≡ true → int_le b a ≡ false
more a b h = by (int_le b a) refl
  where
    by : (t : Bool) → int_le b a ≡ t → t ≡ false
    by true e = absurd (omega (arith, ints, h, e))
    by false e = refl

pub told-more : (t r : Bool) (m v m' v' : ℤ) → r ≡ int_lt m' (pos 4 *ℤ v') → m' ≡ m → v' ≡ v → r ≡ t → int_lt m (pos 4 *ℤ v) ≡ t
told-more t r m v m' v' e f g h = subst (λ x. int_lt x (pos 4 *ℤ v) ≡ t) f (subst (λ y. int_lt m' (pos 4 *ℤ y) ≡ t) g (sym e ∙ h))

pub more-kept : (z : ℤ) → unsigned_abs z ≤ 2 ^ 102 → kept_wide z ≡ z
more-kept z h = kept-large z (omega (arith, h))

-- ---- the ends of values by places
pub lower-at : (shape : FormShape) (b : DirBox) (a : V3) (rows : List Row) (judged : List ℕ) (k : ℕ) → k < length judged → get_or (lower_ends shape b a rows judged) k (pos 0) ≡ (value_at shape b a rows (get_or judged k 0)).lo
lower-at shape b a rows judged k h = get_or-map (λ (i : ℕ). (value_at shape b a rows i).lo) judged k 0 (pos 0) h

pub upper-at : (shape : FormShape) (b : DirBox) (a : V3) (rows : List Row) (judged : List ℕ) (k : ℕ) → k < length judged → get_or (upper_ends shape b a rows judged) k (pos 0) ≡ (value_at shape b a rows (get_or judged k 0)).hi
upper-at shape b a rows judged k h = get_or-map (λ (i : ℕ). (value_at shape b a rows i).hi) judged k 0 (pos 0) h

-- ---- what the loops say
module _ (shape : FormShape) (b : DirBox) (a : V3) (rows : List Row) (judged : List ℕ) (t : ℕ) where
  pub some-outside : (k : ℕ) → k < length judged → int_lt (square_times t (length2_of shape b).lo) (pos 4 *ℤ get_or (upper_ends shape b a rows judged) k (pos 0)) ≡ true → line_holds shape rows judged t b a ≡ false
  some-outside k lt h =
      let m : ℤ = square_times t (length2_of shape b).lo in
      all-not (λ (i : ℕ). is_inside t (length2_of shape b).lo (value_at shape b a rows i)) judged k lt
      (more m (pos 4 *ℤ (value_at shape b a rows (get_or judged k 0)).hi) (subst (λ v. int_lt m (pos 4 *ℤ v) ≡ true) (upper-at shape b a rows judged k lt) h))

  pub all-inside : (n : ℕ) → NoneMore (square_times t (length2_of shape b).lo) n (upper_ends shape b a rows judged) → n ≡ length judged → line_holds shape rows judged t b a ≡ true
  all-inside n h end =
      let m : ℤ = square_times t (length2_of shape b).lo in
      all-from (λ (i : ℕ). is_inside t (length2_of shape b).lo (value_at shape b a rows i)) judged (λ j l.
      not-more m (pos 4 *ℤ (value_at shape b a rows (get_or judged j 0)).hi) (subst (λ v. int_lt m (pos 4 *ℤ v) ≡ false) (upper-at shape b a rows judged j l) (h j (omega (arith, l, end)))))

  pub first-outside : (k : ℕ) → k < length judged → NoneMore (square_times t (length2_of shape b).hi) k (lower_ends shape b a rows judged) → int_lt (square_times t (length2_of shape b).hi) (pos 4 *ℤ get_or (lower_ends shape b a rows judged) k (pos 0)) ≡ true
      → line_evidence shape rows judged t b a ≡ Some (point_evidence (get_or judged k 0))
  first-outside k lt none h =
      let m : ℤ = square_times t (length2_of shape b).hi in
      ap (option_map point_evidence) (find-at (λ (i : ℕ). is_outside t (length2_of shape b).hi (value_at shape b a rows i)) judged k lt
      (λ j l. subst (λ v. int_lt m (pos 4 *ℤ v) ≡ false) (lower-at shape b a rows judged j (omega (arith, l, lt))) (none j l))
      (subst (λ v. int_lt m (pos 4 *ℤ v) ≡ true) (lower-at shape b a rows judged k lt) h))

  pub none-outside : (n : ℕ) → NoneMore (square_times t (length2_of shape b).hi) n (lower_ends shape b a rows judged) → n ≡ length judged → line_evidence shape rows judged t b a ≡ None
  none-outside n none end =
      let m : ℤ = square_times t (length2_of shape b).hi in
      ap (option_map point_evidence) (find-none (λ (i : ℕ). is_outside t (length2_of shape b).hi (value_at shape b a rows i)) judged
      (λ j l. subst (λ v. int_lt m (pos 4 *ℤ v) ≡ false) (lower-at shape b a rows judged j l) (none j (omega (arith, l, end)))))
