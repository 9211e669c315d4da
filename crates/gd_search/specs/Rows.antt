-- The rows of a level: its cells, with what their bounding finds.
use Rattle.std.specs.Prelude.{Bool, false, ◌&&◌, cond, None, is_none, List, [], ◌∷◌}
use Rattle.gd_cells.specs.Halves.{halves}
use Rattle.gd_cells.specs.Meaning.{Questions}
use Rattle.gd_cells.specs.declared.cell.Cell.{Cell}
use Rattle.gd_search.specs.declared.row.Row.{Row}

-- the row of a cell before its bounding
abbrev pub fresh : Cell → Row
fresh c = record { cell = c; found = None; holds = false }

-- the row with the first evidence that refutes its cell, and, where none does, whether the centre of the cell holds
abbrev pub judged : Questions → Row → Row
judged q row = record {
  cell = row.cell;
  found = q.tests.first row.cell;
  holds = is_none (q.tests.first row.cell) && q.tests.holds (q.tests.centre row.cell);
}

-- nothing refutes the cell of a row
abbrev pub is_open : Row → Bool
is_open row = is_none row.found

-- the rows below a row: those of both halves where nothing refutes its cell, and none where something does
abbrev pub rows_below : Questions → Row → List Row
rows_below q row = cond (is_open row) (fresh (halves q.grid row.cell).0 ∷ fresh (halves q.grid row.cell).1 ∷ []) []
