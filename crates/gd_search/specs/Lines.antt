-- The lines that the lists of the levels spell: each list has what was found in the cells of a level that are not
-- written yet.
use Rattle.std.specs.Prelude.{ℕ, zero, suc, Option, Some, None, List, [], ◌∷◌, ◌++◌, map, drop}
use Rattle.gd_cells.specs.declared.cell.Evidence.{Evidence}
use Rattle.gd_verdict.specs.Trees.{last_line}
use Rattle.gd_cells.specs.declared.node.Node.{Node}
use Rattle.gd_cells.specs.declared.node.Node.TheVariants.{Refuted, Split}
use Rattle.gd_search.specs.declared.tree.Level.{Level}

abbrev pub Found : Type 0
Found = Option Evidence

-- lines, and what is left of the lists
pub record Written : Type 0 where
  pub lines : List Node
  pub rest : List (List Found)

-- the lines of the next cell of the first of so many lists, and of the cells below it
abbrev pub written : ℕ → List (List Found) → Written
written zero lists = record { lines = []; rest = lists }
written (suc n) [] = record { lines = []; rest = [] }
written (suc n) ([] ∷ lists) = record { lines = []; rest = [] ∷ lists }
written (suc n) ((Some e ∷ found) ∷ lists) = record { lines = Refuted e ∷ []; rest = found ∷ lists }
written (suc zero) ((None ∷ found) ∷ lists) = record { lines = last_line None ∷ []; rest = found ∷ lists }
written (suc (suc n)) ((None ∷ found) ∷ lists) =
    let lower : Written = written (suc n) lists in
    let upper : Written = written (suc n) lower.rest in
    record { lines = Split ∷ (lower.lines ++ upper.lines); rest = found ∷ upper.rest }

-- what is left of the lists of the levels
abbrev pub left_of : List Level → List (List Found)
left_of levels = map (λ (level : Level). drop level.next level.found.items) levels

-- the lines of so many cells of the first list, one after the other
abbrev pub written_roots : ℕ → ℕ → List (List Found) → List Node
written_roots zero size lists = []
written_roots (suc n) size lists = (written size lists).lines ++ written_roots n size (written size lists).rest
