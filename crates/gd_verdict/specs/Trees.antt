-- The tree of a verdict down to a level: the lines of its cells in preorder.
use Rattle.std.specs.Prelude.{ℕ, zero, suc, ◌+◌, ◌*◌, Option, Some, None, List, [], ◌∷◌, ◌++◌, filter, length}
use Rattle.std.specs.List.{flat_map}
use Rattle.gd_cells.specs.Grid.{cell_of, count_from}
use Rattle.gd_cells.specs.Meaning.{Questions}
use Rattle.gd_cells.specs.Nodes.{is_refuted}
use Rattle.gd_cells.specs.declared.cell.Evidence.{Evidence}
use Rattle.gd_cells.specs.declared.node.Node.{Node}
use Rattle.gd_cells.specs.declared.node.Node.TheVariants.{Split, Refuted, Left}

-- the line of a cell at the level to which the tree goes: refuted, or left undecided
abbrev pub last_line : Option Evidence → Node
last_line (Some e) = Refuted e
last_line None = Left

-- the lines of a cell above that level: refuted, or split with the lines of its halves
abbrev pub with_halves : Option Evidence → List Node → List Node
with_halves (Some e) below = Refuted e ∷ []
with_halves None below = Split ∷ below

-- the lines of a cell, by its root, level and path, and of the cells below it, so many levels deep
abbrev pub tree_below : Questions → ℕ → ℕ → ℕ → ℕ → List Node
tree_below q zero r l p = last_line (q.tests.first (cell_of q.grid r l p)) ∷ []
tree_below q (suc depth) r l p =
    with_halves (q.tests.first (cell_of q.grid r l p))
    (tree_below q depth r (suc l) (2 * p) ++ tree_below q depth r (suc l) (2 * p + 1))

-- the tree down to a level: all roots, in order
unfoldable pub tree : Questions → ℕ → List Node
tree q level = flat_map (λ r. tree_below q level r 0 0) (count_from 1 q.grid.roots)

-- how many cells of a tree are refuted
abbrev pub leaves_of : List Node → ℕ
leaves_of lines = length (filter is_refuted lines)
