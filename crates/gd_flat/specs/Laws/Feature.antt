-- The laws of flatness of the points at some places of a table.
use Rattle.std.proofs.Common.{arith, ◌≡◌, refl, sym, ap, ◌∙◌, subst, ℕ, suc, ◌+◌, ◌-◌, ◌<◌, ◌≤◌, ℤ, pos, Bool, true}
use Rattle.std.proofs.Common.{false, nat_eq, Option, Some, None, List, length, get_or, inl, inr}
use Rattle.std.proofs.lemmas.Bool.{cases_lt, false≢true}
use Rattle.std.proofs.lemmas.Bool.Decides.{nat_tests}
use Rattle.std.proofs.lemmas.List.{get_or-map, length-map}
use Rattle.std.proofs.lemmas.List.Sums.{fails_before_first, passes_at_first}
use Rattle.std.specs.List.{All, position_or_len}
use Rattle.std.specs.Prelude.{◌^◌, map, option_map}
use Rattle.gd_base.specs.Limits.{POINTS}
use Rattle.gd_cells.specs.Laws.{IsShort, Laws}
use Rattle.gd_cells.specs.declared.cell.Evidence.{Evidence}
use Rattle.gd_dir.specs.Boxes.{box_of}
use Rattle.gd_dir.specs.declared.shape.DirBox.{DirBox}
use Rattle.gd_flat.specs.FlatFeature.{by_numbers, by_places, feature_questions, is_refuted_among, number_of, place_in}
use Rattle.gd_flat.specs.FlatTask.{IsFeasible, IsInside, assignment_of, direction_at}
use Rattle.gd_flat.specs.FlatTests.{evidence_of, farthest, first_evidence, first_point, high_along, highs, is_refuted}
use Rattle.gd_flat.specs.FlatTests.{low_along, lows, nearest, parts}
use Rattle.gd_flat.specs.Judged.{judged_rows}
use Rattle.gd_flat.specs.Laws.Evidences.{first_some, refutes_with}
use Rattle.gd_flat.specs.Laws.Firsts.{greatest_inside, least_inside}
use Rattle.gd_flat.specs.Laws.Task.{flat_laws}
use Rattle.gd_points.specs.Index.{row_at}
use Rattle.gd_points.specs.declared.table.Row.{Row}
use Rattle.gd_vec.specs.Vector.{difference}

-- ---- an option under a function
pub record Came (f : Evidence → Evidence) (o : Option Evidence) (e : Evidence) : Type 0 where
  pub from : Evidence
  pub is : o ≡ Some from
  pub gives : f from ≡ e

came : (f : Evidence → Evidence) (o : Option Evidence) (e : Evidence) → option_map f o ≡ Some e → Came f o e
came f None e h = absurd (cc)
came f (Some d) e h = record { from = d; is = refl; gives = cc }

none_came : (f : Evidence → Evidence) (o : Option Evidence) → option_map f o ≡ None → o ≡ None
none_came f None h = refl
none_came f (Some d) h = absurd (cc)

-- ---- the first place of the point at a place
equal_is : (a n : ℕ) → nat_eq a n ≡ true → a ≡ n
equal_is a n h = grind (arith, nat_tests)

first_place : List ℕ → ℕ → ℕ
first_place judged i = position_or_len (nat_eq (get_or judged i 0)) judged

place_inside : (judged : List ℕ) (i : ℕ) → i < length judged → first_place judged i < length judged
unfolding first_place
place_inside judged i h =
    let n : ℕ = get_or judged i 0 in
    let here : nat_eq n n ≡ true = grind (arith, nat_tests) in
    elim (cases_lt i (first_place judged i)) as (λ _. first_place judged i < length judged) [
      | inl before ↦ absurd (false≢true (sym (fails_before_first (nat_eq n) judged i 0 before) ∙ here))
      | inr past ↦ omega (arith, past, h)
    ]

place_same : (judged : List ℕ) (i : ℕ) → i < length judged → get_or judged (first_place judged i) 0 ≡ get_or judged i 0
unfolding first_place
place_same judged i h =
    sym (equal_is (get_or judged i 0) (get_or judged (first_place judged i) 0)
    (passes_at_first (nat_eq (get_or judged i 0)) judged 0 (place_inside judged i h)))

-- by its number the point at a place is found at the first place that it has
found_again : (judged : List ℕ) (i : ℕ) → place_in judged (number_of judged (i + 1)) ≡ first_place judged i + 1
unfolding first_place
found_again judged i =
    let back : i + 1 - 1 ≡ i = omega arith in
    let next : get_or judged i 0 + 1 ≡ suc (get_or judged i 0) = omega arith in
    ap (λ k. place_in judged (get_or judged k 0 + 1)) back ∙ ap (place_in judged) next

-- ---- points with one number have one value
row_there : (rows : List Row) (judged : List ℕ) (d : Row) (k : ℕ) → k < length judged
    → get_or (judged_rows rows judged) k d ≡ row_at rows (get_or judged k 0)
row_there rows judged d k h = get_or-map (row_at rows) judged k 0 d h

same_row : (rows : List Row) (judged : List ℕ) (d : Row) (i : ℕ) → i < length judged
    → get_or (judged_rows rows judged) (first_place judged i) d ≡ get_or (judged_rows rows judged) i d
same_row rows judged d i h =
    row_there rows judged d (first_place judged i) (place_inside judged i h) ∙ ap (row_at rows)
    (place_same judged i h) ∙ sym (row_there rows judged d i h)

same_value : (rows : List Row) (judged : List ℕ) (f : Row → ℤ) (i : ℕ) → i < length judged
    → get_or (map f (judged_rows rows judged)) (first_place judged i) (pos 0) ≡ get_or
    (map f (judged_rows rows judged)) i (pos 0)
same_value rows judged f i h =
    let d : Row = record { feature = 0; group = 0; at = record { x = pos 0; y = pos 0; z = pos 0 } } in
    let js : List Row = judged_rows rows judged in
    let inside : i < length js = rw length-map h in
    let there : first_place judged i < length js = rw length-map (place_inside judged i h) in
    get_or-map f js (first_place judged i) d (pos 0) there ∙ ap f (same_row rows judged d i h) ∙ sym
    (get_or-map f js i d (pos 0) inside)

same_parts : (rows : List Row) (judged : List ℕ) (t : ℕ) (b : DirBox) (i j : ℕ) → i < length judged → j < length judged
    → parts (judged_rows rows judged) t b (first_place judged i) (first_place judged j) ≡ parts
    (judged_rows rows judged) t b i j
same_parts rows judged t b i j h k =
    let js : List Row = judged_rows rows judged in
    let lo = same_value rows judged (λ (row : Row). low_along b (difference row.at (first_point js))) i h in
    let hi = same_value rows judged (λ (row : Row). high_along b (difference row.at (first_point js))) j k in
    rw (lo, hi) refl

-- ---- evidence by numbers
again : (rows : List Row) (judged : List ℕ) (t : ℕ) (b : DirBox) (i j : ℕ) → i < length judged → j < length judged
    → parts (judged_rows rows judged) t b i j ≡ true
    → is_refuted_among rows judged t b (by_numbers judged (evidence_of i j)) ≡ true
again rows judged t b i j h k p =
    let js : List Row = judged_rows rows judged in
    let x : ℕ = first_place judged i in
    let y : ℕ = first_place judged j in
    let there : x < length js = rw length-map (place_inside judged i h) in
    let near : y < length js = rw length-map (place_inside judged j k) in
    let r : is_refuted js t b (evidence_of x y) ≡ true =
    refutes_with js t b x y there near (same_parts rows judged t b i j h k ∙ p) in
    ap (λ n. is_refuted js t b (record { condition = 1; a = n; b = place_in judged (number_of judged (j + 1)) }))
    (found_again judged i)
    ∙ ap (λ n. is_refuted js t b (record { condition = 1; a = x + 1; b = n })) (found_again judged j) ∙ r

among_refutes : (rows : List Row) (judged : List ℕ) (t : ℕ) (b : DirBox) (e : Evidence) → 0 < length judged
    → option_map (by_numbers judged) (first_evidence (judged_rows rows judged) t b) ≡ Some e
    → is_refuted_among rows judged t b e ≡ true
among_refutes rows judged t b e some h =
    let js : List Row = judged_rows rows judged in
    let m = came (by_numbers judged) (first_evidence js t b) e h in
    let f = first_some js t b (parts js t b (farthest b js) (nearest b js)) m.from m.is in
    let many : 0 < length js = rw length-map some in
    let i : farthest b js < length judged =
    rw length-map at (rw length-map at (greatest_inside (lows b js) (rw length-map many))) in
    let j : nearest b js < length judged =
    rw length-map at (rw length-map at (least_inside (highs b js) (rw length-map many))) in
    subst (λ x. is_refuted_among rows judged t b x ≡ true) (ap (by_numbers judged) f.1 ∙ m.gives)
    (again rows judged t b (farthest b js) (nearest b js) i j f.0)

number_small : (rows : List Row) (judged : List ℕ) (k : ℕ) → All (λ (n : ℕ). n < length rows) judged
    → length rows ≤ POINTS → k < length judged → number_of judged (k + 1) < 2 ^ 32
number_small rows judged k below few h =
    let back : k + 1 - 1 ≡ k = omega arith in
    let small : get_or judged k 0 < length rows = below k 0 h in
    subst (λ n. get_or judged n 0 + 1 < 2 ^ 32) (sym back) (omega (arith, small, few))

among_is_short : (rows : List Row) (judged : List ℕ) (t : ℕ) (b : DirBox) (e : Evidence) → 0 < length judged
    → All (λ (n : ℕ). n < length rows) judged → length rows ≤ POINTS
    → option_map (by_numbers judged) (first_evidence (judged_rows rows judged) t b) ≡ Some e → IsShort e
among_is_short rows judged t b e some below few h =
    let js : List Row = judged_rows rows judged in
    let m = came (by_numbers judged) (first_evidence js t b) e h in
    let f = first_some js t b (parts js t b (farthest b js) (nearest b js)) m.from m.is in
    let many : 0 < length js = rw length-map some in
    let i : farthest b js < length judged =
    rw length-map at (rw length-map at (greatest_inside (lows b js) (rw length-map many))) in
    let j : nearest b js < length judged =
    rw length-map at (rw length-map at (least_inside (highs b js) (rw length-map many))) in
    subst IsShort (ap (by_numbers judged) f.1 ∙ m.gives)
    (record {
      condition = omega arith;
      a = number_small rows judged (farthest b js) below few i;
      b = number_small rows judged (nearest b js) below few j;
    })

-- ---- all of them
pub feature_laws : (rows : List Row) (judged : List ℕ) (t : ℕ) → 0 < length judged → length judged ≤ POINTS
    → All (λ (n : ℕ). n < length rows) judged → length rows ≤ POINTS
    → Laws (feature_questions rows judged t) (IsFeasible (judged_rows rows judged) t) IsInside
    (λ w. assignment_of w.root (direction_at w))
feature_laws rows judged t some small below few =
    let js : List Row = judged_rows rows judged in
    let l = flat_laws js t (rw length-map some) (rw length-map small) in
    record {
      is_grid = l.is_grid;
      roots_cover = l.roots_cover;
      halves_cover = l.halves_cover;
      first_refutes = λ c e cell h. among_refutes rows judged t (box_of c) e some h;
      none_refutes = λ c e cell h. l.none_refutes c (by_places judged e) cell
          (none_came (by_numbers judged) (first_evidence js t (box_of c)) h);
      first_is_short = λ c e cell h. among_is_short rows judged t (box_of c) e some below few h;
      refuted_is_empty = λ c e a cell refuted lies feasible. l.refuted_is_empty c
          (by_places judged e) a cell refuted lies feasible;
      centre_in_range = l.centre_in_range;
      holds_is_feasible = l.holds_is_feasible;
      centre_names_place = l.centre_names_place;
    }
