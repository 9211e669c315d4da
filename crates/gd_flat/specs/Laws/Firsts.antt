-- The greatest and the least of some numbers, and the first places at which they stand.
use Rattle.std.proofs.Common.{arith, ◌≡◌, refl, sym, ◌∙◌, suc, ◌<◌, ℤ, ◌≤ℤ◌, true, false, ◌⊎◌, inl, inr, List, [], ◌∷◌}
use Rattle.std.proofs.Common.{length, get_or}
use Rattle.std.proofs.lemmas.Bool.{cases_lt, false≢true}
use Rattle.std.proofs.lemmas.Int.{fold-int_max_bounds, fold-int_max_reached, fold-int_min_bounds, fold-int_min_reached}
use Rattle.std.proofs.lemmas.List.Elements.{All-cons}
use Rattle.std.proofs.lemmas.List.Sums.{fails_before_first, passes_at_first}
use Rattle.std.specs.Cmp.{signed_Decides}
use Rattle.std.specs.Int.{int_max, int_min}
use Rattle.std.specs.List.{All, Contains, fold}
use Rattle.std.specs.Ordering.{int_eq}
use Rattle.gd_flat.specs.FlatTests.{greatest, least, place_of}

-- a number of the list stands at a place in it
pub place_inside : (x : ℤ) (xs : List ℤ) → Contains xs x → place_of x xs < length xs
place_inside x xs c = elim (cases_lt (place_of x xs) (length xs)) as (λ _. place_of x xs < length xs) [
  | inl l ↦ l
  | inr l ↦
      let passes : int_eq x (get_or xs c.0 x) ≡ true = (signed_Decides x (get_or xs c.0 x)).1 (sym c.2) in
      let fails : int_eq x (get_or xs c.0 x) ≡ false = fails_before_first (int_eq x) xs c.0 x (omega (arith, c.1)) in
      absurd (false≢true (sym fails ∙ passes))
]

-- the number that a fold answers stands in the list
pub reached_of : (v : ℤ) (vs : List ℤ) (r : ℤ) → (r ≡ v) ⊎ Contains vs r → Contains (v ∷ vs) r
reached_of v vs r (inl e) = (0, omega arith, sym e)
reached_of v vs r (inr c) = (suc c.0, omega (arith, c.1), c.2)

-- ---- their places are places of the list
pub greatest_inside : (xs : List ℤ) → 0 < length xs → place_of (greatest xs) xs < length xs
greatest_inside [] h = absurd (omega arith)
greatest_inside (v ∷ vs) h =
    place_inside (fold int_max v vs) (v ∷ vs) (reached_of v vs (fold int_max v vs)
    (fold-int_max_reached v vs (fold int_max v vs) refl))

pub least_inside : (xs : List ℤ) → 0 < length xs → place_of (least xs) xs < length xs
least_inside [] h = absurd (omega arith)
least_inside (v ∷ vs) h =
    place_inside (fold int_min v vs) (v ∷ vs) (reached_of v vs (fold int_min v vs)
    (fold-int_min_reached v vs (fold int_min v vs) refl))

-- ---- the number at the place is the greatest, or the least
value_at_place : (x : ℤ) (xs : List ℤ) (d : ℤ) → place_of x xs < length xs → get_or xs (place_of x xs) d ≡ x
value_at_place x xs d h = sym ((signed_Decides x (get_or xs (place_of x xs) d)).0 (passes_at_first (int_eq x) xs d h))

pub greatest_at_place : (xs : List ℤ) (d : ℤ) → 0 < length xs → get_or xs (place_of (greatest xs) xs) d ≡ greatest xs
greatest_at_place xs d h = value_at_place (greatest xs) xs d (greatest_inside xs h)

pub least_at_place : (xs : List ℤ) (d : ℤ) → 0 < length xs → get_or xs (place_of (least xs) xs) d ≡ least xs
least_at_place xs d h = value_at_place (least xs) xs d (least_inside xs h)

-- ---- they bound all numbers
pub below_greatest : (xs : List ℤ) → All (λ y. y ≤ℤ greatest xs) xs
below_greatest [] = λ k d h. absurd (omega arith)
below_greatest (v ∷ vs) =
    let h = fold-int_max_bounds v vs (fold int_max v vs) refl in
    All-cons (λ y. y ≤ℤ fold int_max v vs) v vs h.0 h.1

pub above_least : (xs : List ℤ) → All (λ y. least xs ≤ℤ y) xs
above_least [] = λ k d h. absurd (omega arith)
above_least (v ∷ vs) =
    let h = fold-int_min_bounds v vs (fold int_min v vs) refl in
    All-cons (λ y. fold int_min v vs ≤ℤ y) v vs h.0 h.1
