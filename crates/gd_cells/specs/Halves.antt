-- The halves of a cell, and the cell of a root, on the cell's own numbers.
use Rattle.std.specs.Prelude.{ℕ, ◌+◌, ◌*◌, replicate, get_or, slice_set}
use Rattle.gd_cells.specs.Grid.{Grid, MOST_DIMS}
use Rattle.gd_cells.specs.declared.cell.Cell.{Cell}

-- the half of a cell on one side of a coordinate: side 0 is the lower half, side 1 the upper one
unfoldable pub half : ℕ → ℕ → Cell → Cell
half coordinate side c =
    record { root = c.root; level = c.level + 1; index = slice_set c.index coordinate (2 * get_or c.index coordinate 0 + side) }

-- both halves of a cell, along the coordinate that the step of its level halves
abbrev pub halves : Grid → Cell → Cell × Cell
halves g c = (half (g.steps c.level) 0 c, half (g.steps c.level) 1 c)

-- a whole root: no coordinate of it was halved
abbrev pub whole_root : ℕ → Cell
whole_root root = record { root = root; level = 0; index = replicate MOST_DIMS 0 }
