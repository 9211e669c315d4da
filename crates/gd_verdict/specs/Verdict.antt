-- The verdict of a task at a budget, over all cells of each level.
use Rattle.std.specs.Prelude.{ℕ, zero, suc, ◌+◌, ◌/◌, ◌^◌, ◌<◌, ◌≡◌, Bool, ◌&&◌, Option, Some, None, is_none, nat_lt, nat_eq, List, length, map, filter, find, cond}
use Rattle.std.specs.List.{flat_map}
use Rattle.gd_base.specs.declared.verdict.Counts.{Counts}
use Rattle.gd_base.specs.declared.verdict.Reason.{Reason}
use Rattle.gd_base.specs.declared.verdict.Reason.TheVariants as reason
use Rattle.gd_cells.specs.Grid.{Grid, cell_of, count_from}
use Rattle.gd_cells.specs.Meaning.{Questions}
use Rattle.gd_cells.specs.declared.cell.Witness.{Witness}
use Rattle.gd_cells.specs.declared.node.Node.{Node}
use Rattle.gd_verdict.specs.Trees.{tree}

-- how a search ends
pub data End : Type 0 where
  -- a witness, and its level
  Accepted : Witness → ℕ → End
  -- how many cells were refuted, and the tree
  Rejected : ℕ → List Node → End
  -- the tree, and the level, its undecided cells, the cells that were split before, and why the search stopped
  Open : List Node → Counts → End

abbrev pub counts_of : ℕ → ℕ → ℕ → Reason → Counts
counts_of level undecided spent why = record { level = level; undecided = undecided; spent = spent; reason = why }

-- all cells of a level, by root and path: the roots in order, and under each its paths in order
unfoldable pub cells : Grid → ℕ → List (ℕ × ℕ)
cells g l = flat_map (λ r. map (λ p. (r, p)) (count_from 0 (2 ^ l))) (count_from 1 g.roots)

-- nothing refutes the cell, nor any cell that it was halved from
abbrev pub is_undecided : Questions → ℕ → ℕ → ℕ → Bool
is_undecided q r zero p = is_none (q.tests.first (cell_of q.grid r 0 p))
is_undecided q r (suc l) p = is_undecided q r l (p / 2) && is_none (q.tests.first (cell_of q.grid r (suc l) p))

-- the undecided cells of a level, in order
unfoldable pub undecided : Questions → ℕ → List (ℕ × ℕ)
undecided q l = filter (λ c. is_undecided q c.0 l c.1) (cells q.grid l)

-- their centres
unfoldable pub centres : Questions → ℕ → List Witness
centres q l = map (λ c. q.tests.centre (cell_of q.grid c.0 l c.1)) (undecided q l)

-- how many cells were split before a level: all undecided cells of the levels above it
abbrev pub spent : Questions → ℕ → ℕ
spent q zero = 0
spent q (suc l) = spent q l + length (undecided q l)

-- whether the search ends at a level, by four rules in this order: the centre of an undecided cell holds; no cell is
-- undecided; the grid ends; to split the undecided cells would pass the budget
abbrev pub end_with : Option Witness → List Node → ℕ → ℕ → ℕ → ℕ → ℕ → ℕ → Option End
end_with (Some w) lines l u s roots finest budget = Some (Accepted w l)
end_with None lines l u s roots finest budget =
    cond (nat_eq u 0) (Some (Rejected (s + roots) lines))
    (cond (nat_eq l finest) (Some (Open lines (counts_of l u s reason.Floor)))
    (cond (nat_lt budget (s + u)) (Some (Open lines (counts_of l u s reason.Budget))) None))

unfoldable pub end_at : Questions → ℕ → ℕ → Option End
end_at q budget l =
    end_with (find q.tests.holds (centres q l)) (tree q l) l (length (undecided q l)) (spent q l) q.grid.roots q.grid.finest budget

-- the verdict is how the search ends at the first level at which it does
abbrev pub IsVerdict : Questions → ℕ → End → Type 0
IsVerdict q budget e = (l : ℕ) × ((m : ℕ) → m < l → end_at q budget m ≡ None) × (end_at q budget l ≡ Some e)
