-- The rows of a level: its cells, in order, with what their bounding finds.
use Rattle.std.proofs.Common.{Option, find, Some, None, option_map, get_or, ◌<◌, ℕ, zero, suc, ◌+◌, ◌≡◌, refl, ap, true, false, ◌&&◌, cond, List, [], ◌∷◌, ◌++◌, map, filter, arith, length, subst}
use Rattle.std.specs.List.{All, flat_map}
use Rattle.std.proofs.lemmas.List.{map-append}
use Rattle.std.proofs.lemmas.Option.{same_Some}
use Rattle.std.proofs.lemmas.List.Elements.{All-get_or, All-map}
use Rattle.gd_cells.specs.Grid.{IsCell, count_from}
use Rattle.gd_cells.specs.Halves.{halves}
use Rattle.gd_cells.specs.Meaning.{Questions}
use Rattle.gd_cells.specs.declared.cell.Cell.{Cell}
use Rattle.gd_search.specs.Rows.{fresh, is_open, judged, rows_below}
use Rattle.gd_search.specs.declared.row.Row.{Row}
use Rattle.gd_verdict.proofs.Levels.{IsAt, both_halves, halves_left, is_left}
use Rattle.gd_verdict.proofs.Lists.{found_kept}

pub cell_of_row : (q : Questions) (rows : List Row) (i : ℕ) (d : Row) → i < length rows → All (λ row. IsCell q.grid row.cell) rows → IsCell q.grid (get_or rows i d).cell
cell_of_row q rows i d h all = All-get_or (λ row. IsCell q.grid row.cell) rows i d h all

pub above_of_row : (q : Questions) (rows : List Row) (i : ℕ) (d : Row) → i < length rows → All (λ row. row.cell.level < q.grid.finest) rows → (get_or rows i d).cell.level < q.grid.finest
above_of_row q rows i d h all = All-get_or (λ row. row.cell.level < q.grid.finest) rows i d h all

held_in : (q : Questions) (rows : List Row) (c : Cell) → All (λ (row : Row). IsCell q.grid row.cell) rows → (o : Option Row) → find (λ row. row.holds) rows ≡ o → option_map (λ (row : Row). row.cell) o ≡ Some c → IsCell q.grid c
held_in q rows c all None is e = cc
held_in q rows c all (Some row) is e = subst (IsCell q.grid) (same_Some row.cell c e) (found_kept (λ (r : Row). IsCell q.grid r.cell) (λ r. r.holds) row rows all is)

pub held_cell : (q : Questions) (rows : List Row) (c : Cell) → All (λ (row : Row). IsCell q.grid row.cell) rows → option_map (λ (row : Row). row.cell) (find (λ row. row.holds) rows) ≡ Some c → IsCell q.grid c
held_cell q rows c all e = held_in q rows c all (find (λ row. row.holds) rows) refl e

count_from-more : (a n : ℕ) → count_from a (n + 1) ≡ count_from a n ++ (a + n) ∷ []
count_from-more a zero = let e : a + 0 ≡ a = omega arith in rw e refl
count_from-more a (suc n) = let e : suc n + 1 ≡ suc (n + 1) = omega arith in let f : a + suc n ≡ a + 1 + n = omega arith in rw (e, f) (ap (λ xs. a ∷ xs) (count_from-more (a + 1) n))

pub roots_more : {X : Type 0} (f : ℕ → X) (n : ℕ) → map f (count_from 1 (n + 1)) ≡ map f (count_from 1 n) ++ f (n + 1) ∷ []
roots_more f n = let e : 1 + n ≡ n + 1 = omega arith in rw (count_from-more 1 n, map-append, e) refl

pub levels_more : {X : Type 0} (f : ℕ → X) (n : ℕ) → map f (count_from 0 (n + 1)) ≡ map f (count_from 0 n) ++ f n ∷ []
levels_more f n = let e : 0 + n ≡ n = omega arith in rw (count_from-more 0 n, map-append, e) refl

-- ---- the rows of a level
pub found_are : (q : Questions) (cs : List Cell) → map (λ (row : Row). row.found) (map (judged q) (map fresh cs)) ≡ map q.tests.first cs
found_are q [] = refl
found_are q (c ∷ cs) = ap (λ xs. q.tests.first c ∷ xs) (found_are q cs)

pub open_counted : (q : Questions) (cs : List Cell) → length (filter is_open (map (judged q) (map fresh cs))) ≡ length (filter (is_left q) cs)
open_counted q [] = refl
open_counted q (c ∷ cs) =
    elim (is_left q c) as (λ v. length (cond v (judged q (fresh c) ∷ filter is_open (map (judged q) (map fresh cs))) (filter is_open (map (judged q) (map fresh cs)))) ≡ length (cond v (c ∷ filter (is_left q) cs) (filter (is_left q) cs)))
    [ true ↦ ap suc (open_counted q cs) | false ↦ open_counted q cs ]

pub first_is : (q : Questions) (cs : List Cell) → option_map (λ (row : Row). q.tests.centre row.cell) (find (λ row. row.holds) (map (judged q) (map fresh cs))) ≡ find q.tests.holds (map q.tests.centre (filter (is_left q) cs))
first_is q [] = refl
first_is q (c ∷ cs) =
    elim (is_left q c) as (λ v. option_map (λ (row : Row). q.tests.centre row.cell) (cond (v && q.tests.holds (q.tests.centre c)) (Some (judged q (fresh c))) (find (λ row. row.holds) (map (judged q) (map fresh cs)))) ≡ find q.tests.holds (map q.tests.centre (cond v (c ∷ filter (is_left q) cs) (filter (is_left q) cs)))) [
      | true ↦ elim (q.tests.holds (q.tests.centre c)) as (λ v. option_map (λ (row : Row). q.tests.centre row.cell) (cond v (Some (judged q (fresh c))) (find (λ row. row.holds) (map (judged q) (map fresh cs)))) ≡ cond v (Some (q.tests.centre c)) (find q.tests.holds (map q.tests.centre (filter (is_left q) cs))))
          [ true ↦ refl | false ↦ first_is q cs ]
      | false ↦ first_is q cs
    ]

pub next_are : (q : Questions) (cs : List Cell) → flat_map (rows_below q) (map (judged q) (map fresh cs)) ≡ map fresh (flat_map (halves_left q) cs)
next_are q [] = refl
next_are q (c ∷ cs) =
    elim (is_left q c) as (λ v. cond v (fresh (halves q.grid c).0 ∷ fresh (halves q.grid c).1 ∷ []) [] ++ flat_map (rows_below q) (map (judged q) (map fresh cs)) ≡ map fresh (cond v (both_halves q c) [] ++ flat_map (halves_left q) cs))
    [ true ↦ ap (λ rows. fresh (halves q.grid c).0 ∷ fresh (halves q.grid c).1 ∷ rows) (next_are q cs) | false ↦ next_are q cs ]

pub cells_of_fresh : (q : Questions) (l : ℕ) (cs : List Cell) → All (IsAt q l) cs → All (λ (row : Row). IsCell q.grid row.cell) (map fresh cs)
cells_of_fresh q l cs all = All-map (λ (row : Row). IsCell q.grid row.cell) fresh cs (λ k d h. (all k d h).0)

pub cells_of_judged : (q : Questions) (l : ℕ) (cs : List Cell) → All (IsAt q l) cs → All (λ (row : Row). IsCell q.grid row.cell) (map (judged q) (map fresh cs))
cells_of_judged q l cs all = All-map (λ (row : Row). IsCell q.grid row.cell) (judged q) (map fresh cs) (cells_of_fresh q l cs all)

pub above_of_judged : (q : Questions) (l : ℕ) (cs : List Cell) → l < q.grid.finest → All (IsAt q l) cs → All (λ (row : Row). row.cell.level < q.grid.finest) (map (judged q) (map fresh cs))
above_of_judged q l cs above all = All-map (λ (row : Row). row.cell.level < q.grid.finest) (judged q) (map fresh cs) (All-map (λ (row : Row). row.cell.level < q.grid.finest) fresh cs (λ k d h. let e = (all k d h).1 in omega (arith, e)))
