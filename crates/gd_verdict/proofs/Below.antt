-- The cells that a level bounds, by the roots that they lie below.
use Rattle.std.proofs.Common.{arith, ◌≡◌, refl, sym, ap, ◌∙◌, ℕ, zero, suc, ◌+◌, ◌*◌, ◌<◌, ◌≤◌, cond, true, false, List, [], ◌∷◌, ◌++◌, map}
use Rattle.std.proofs.lemmas.Grind.{flat_map-append}
use Rattle.std.specs.List.{flat_map}
use Rattle.gd_cells.proofs.Cells.{halves_at, root_at}
use Rattle.gd_cells.specs.Grid.{cell_of, count_from}
use Rattle.gd_cells.specs.Halves.{halves, whole_root}
use Rattle.gd_cells.specs.Laws.{IsGrid}
use Rattle.gd_cells.specs.Meaning.{Questions}
use Rattle.gd_cells.specs.declared.cell.Cell.{Cell}
use Rattle.gd_verdict.proofs.Levels.{candidates, halves_left, is_left}

-- the cells so many levels below a cell that no refuted cell is above
abbrev pub cells_below : Questions → ℕ → ℕ → ℕ → ℕ → List Cell
cells_below q zero r l p = cell_of q.grid r l p ∷ []
cells_below q (suc j) r l p = cond (is_left q (cell_of q.grid r l p)) (cells_below q j r (suc l) (2 * p) ++ cells_below q j r (suc l) (2 * p + 1)) []

next_below : (q : Questions) → IsGrid q.grid → (j r l p : ℕ) → l + j < q.grid.finest → flat_map (halves_left q) (cells_below q j r l p) ≡ cells_below q (suc j) r l p
next_below q grid zero r l p low =
    elim (is_left q (cell_of q.grid r l p)) as (λ v. cond v ((halves q.grid (cell_of q.grid r l p)).0 ∷ (halves q.grid (cell_of q.grid r l p)).1 ∷ []) [] ++ [] ≡ cond v (cell_of q.grid r (suc l) (2 * p) ∷ cell_of q.grid r (suc l) (2 * p + 1) ∷ []) []) [
      | true ↦ ap (λ (h : Cell × Cell). h.0 ∷ h.1 ∷ []) (halves_at q.grid grid r l p (omega arith))
      | false ↦ refl
    ]
next_below q grid (suc j) r l p low =
    elim (is_left q (cell_of q.grid r l p)) as (λ v. flat_map (halves_left q) (cond v (cells_below q j r (suc l) (2 * p) ++ cells_below q j r (suc l) (2 * p + 1)) []) ≡ cond v (cells_below q (suc j) r (suc l) (2 * p) ++ cells_below q (suc j) r (suc l) (2 * p + 1)) []) [
      | true ↦ flat_map-append (halves_left q) (cells_below q j r (suc l) (2 * p)) (cells_below q j r (suc l) (2 * p + 1))
          ∙ ap (λ cs. cs ++ flat_map (halves_left q) (cells_below q j r (suc l) (2 * p + 1))) (next_below q grid j r (suc l) (2 * p) (omega arith))
          ∙ ap (λ cs. cells_below q (suc j) r (suc l) (2 * p) ++ cs) (next_below q grid j r (suc l) (2 * p + 1) (omega arith))
      | false ↦ refl
    ]

next_roots : (q : Questions) → IsGrid q.grid → (j a n : ℕ) → j < q.grid.finest → flat_map (halves_left q) (flat_map (λ r. cells_below q j r 0 0) (count_from a n)) ≡ flat_map (λ r. cells_below q (suc j) r 0 0) (count_from a n)
next_roots q grid j a zero low = refl
next_roots q grid j a (suc n) low =
    flat_map-append (halves_left q) (cells_below q j a 0 0) (flat_map (λ r. cells_below q j r 0 0) (count_from (a + 1) n))
    ∙ ap (λ cs. cs ++ flat_map (halves_left q) (flat_map (λ r. cells_below q j r 0 0) (count_from (a + 1) n))) (next_below q grid j a 0 0 (omega arith))
    ∙ ap (λ cs. cells_below q (suc j) a 0 0 ++ cs) (next_roots q grid j (a + 1) n low)

whole_roots : (q : Questions) → IsGrid q.grid → (a n : ℕ) → map whole_root (count_from a n) ≡ flat_map (λ r. cell_of q.grid r 0 0 ∷ []) (count_from a n)
whole_roots q grid a zero = refl
whole_roots q grid a (suc n) = ap (λ cs. whole_root a ∷ cs) (whole_roots q grid (a + 1) n) ∙ ap (λ c. c ∷ flat_map (λ r. cell_of q.grid r 0 0 ∷ []) (count_from (a + 1) n)) (sym (root_at q.grid grid a))

pub candidates_by_roots : (q : Questions) → IsGrid q.grid → (j : ℕ) → j ≤ q.grid.finest → candidates q j ≡ flat_map (λ r. cells_below q j r 0 0) (count_from 1 q.grid.roots)
unfolding candidates
candidates_by_roots q grid zero low = whole_roots q grid 1 q.grid.roots
candidates_by_roots q grid (suc j) low = ap (flat_map (halves_left q)) (candidates_by_roots q grid j (omega arith)) ∙ next_roots q grid j 1 q.grid.roots (omega arith)
