-- One level of the search.
use Rattle.std.proofs.Common.{arith, ◌≡◌, refl, sym, ap, ◌∙◌, ℕ, ◌+◌, ◌≤◌, add-one, Option, option_map, find, Result, Ok, Err, IfOk, List, [], ◌∷◌, ◌++◌, length, filter, map}
use Rattle.gd_cells.specs.Laws.{IsGrid}
use Rattle.gd_cells.specs.Meaning.{Questions}
use Rattle.gd_cells.specs.declared.cell.Witness.{Witness}
use Rattle.gd_verdict.proofs.Counted.{leaves_counted}
use Rattle.gd_search.proofs.Forest.{kept, spells_tree}
use Rattle.gd_verdict.proofs.Levels.{candidates, centres_are, undecided_counted}
use Rattle.gd_search.proofs.Rows.{first_is, found_are, levels_more, open_counted}
use Rattle.gd_search.specs.Lines.{Found, written_roots}
use Rattle.gd_search.specs.Rows.{fresh, is_open, judged}
use Rattle.gd_verdict.specs.Trees.{leaves_of, tree}
use Rattle.gd_verdict.specs.Verdict.{centres, end_at, end_with, spent, undecided}
use Rattle.gd_search.specs.declared.row.Row.{Row}

-- the rows of a level after their bounding
abbrev pub bounded : Questions → ℕ → List Row
bounded q l = map (judged q) (map fresh (candidates q l))

pub if_ok : {X E : Type 0} (P Q : X → Type 0) → ((x : X) → P x → Q x) → (r : Result X E) → IfOk r P → IfOk r Q
if_ok P Q f (Ok x) h = f x h
if_ok P Q f (Err e) h = tt

pub undecided_there : (q : Questions) → IsGrid q.grid → (l : ℕ) → l ≤ q.grid.finest → (rows : List Row) → rows ≡ bounded q l → length (filter is_open rows) ≡ length (undecided q l)
undecided_there q grid l low rows is = ap (λ rows. length (filter is_open rows)) is ∙ open_counted q (candidates q l) ∙ sym (undecided_counted q grid l low)

pub kept_there : (q : Questions) (l : ℕ) (rows : List Row) (old new : List (List Found)) → rows ≡ bounded q l → old ≡ kept q l → new ≡ old ++ map (λ (row : Row). row.found) rows ∷ [] → new ≡ kept q (l + 1)
kept_there q l rows old new is before now =
    now
    ∙ ap (λ xss. xss ++ map (λ (row : Row). row.found) rows ∷ []) before
    ∙ ap (λ xs. kept q l ++ xs ∷ []) (ap (map (λ (row : Row). row.found)) is ∙ found_are q (candidates q l))
    ∙ sym (levels_more (λ j. map q.tests.first (candidates q j)) l)

tree_there : (q : Questions) → IsGrid q.grid → (l : ℕ) → l ≤ q.grid.finest → (lists : List (List Found)) (roots size : ℕ) → lists ≡ kept q (l + 1) → roots ≡ q.grid.roots → size ≡ l + 1 → written_roots roots size lists ≡ tree q l
tree_there q grid l low lists roots size has r n = rw (has, r, n, add-one) (spells_tree q grid l low)

pub end_there : (q : Questions) → IsGrid q.grid → (budget l : ℕ) → l ≤ q.grid.finest → (rows : List Row) → rows ≡ bounded q l → (lists : List (List Found)) → lists ≡ kept q (l + 1) →
    (holding : Option Witness) → holding ≡ option_map (λ (row : Row). q.tests.centre row.cell) (find (λ row. row.holds) rows) →
    (u s roots finest size : ℕ) → u ≡ length (filter is_open rows) → s ≡ spent q l → roots ≡ q.grid.roots → finest ≡ q.grid.finest → size ≡ l + 1 →
    end_with holding (written_roots roots size lists) l u s roots finest budget ≡ end_at q budget l
unfolding end_at
end_there q grid budget l low rows is lists has holding held u s roots finest size counts before r f n =
    let h : holding ≡ find q.tests.holds (centres q l) =
    held ∙ ap (λ rows. option_map (λ (row : Row). q.tests.centre row.cell) (find (λ row. row.holds) rows)) is ∙ first_is q (candidates q l) ∙ ap (find q.tests.holds) (sym (centres_are q grid l low)) in
    rw (tree_there q grid l low lists roots size has r n, h, counts, undecided_there q grid l low rows is, before, r, f) refl

pub leaves_there : (q : Questions) → IsGrid q.grid → (l : ℕ) → l ≤ q.grid.finest → (rows : List Row) → rows ≡ bounded q l → (lists : List (List Found)) → lists ≡ kept q (l + 1) →
    (u s roots size : ℕ) → u ≡ length (filter is_open rows) → s ≡ spent q l → roots ≡ q.grid.roots → size ≡ l + 1 → u ≡ 0 → leaves_of (written_roots roots size lists) ≡ s + roots
leaves_there q grid l low rows is lists has u s roots size counts before r n none =
    omega (arith, ap leaves_of (tree_there q grid l low lists roots size has r n), leaves_counted q grid l low, undecided_there q grid l low rows is, counts, before, r, none)

pub spent_there : (q : Questions) → IsGrid q.grid → (l : ℕ) → l ≤ q.grid.finest → (rows : List Row) → rows ≡ bounded q l → (u s : ℕ) → u ≡ length (filter is_open rows) → s ≡ spent q l → s + u ≡ spent q (l + 1)
spent_there q grid l low rows is u s counts before = rw add-one (omega (arith, undecided_there q grid l low rows is, counts, before))
