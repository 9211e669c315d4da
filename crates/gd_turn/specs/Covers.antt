-- The cells of ranges cover the placements that are in range.
use Rattle.std.specs.Prelude.{ℕ, suc, ◌+◌, ◌*◌, ◌≤◌, ◌<◌, ◌≡◌, ◌⊎◌, true}
use Rattle.gd_cells.specs.Grid.{IsCell, cell_of}
use Rattle.gd_cells.specs.Laws.{IsGrid}
use Rattle.gd_cells.specs.declared.cell.Cell.{Cell}
use Rattle.gd_grid.specs.Cells.{centre_of, is_in_range}
use Rattle.gd_quat.specs.Placements.{IsPlacement, Placement}
use Rattle.gd_turn.specs.Boxes.{IsBoxOf, IsPart}
use Rattle.gd_turn.specs.Ranges.{AreRanges, IsInRange, LiesIn, cells_of, coordinates_of, roots_of}
use Rattle.gd_turn.specs.declared.ranges.CellBox.{CellBox}
use Rattle.gd_turn.specs.declared.ranges.Ranges.{Ranges}

-- the cell of ranges by its root, its level and its path
abbrev pub turn_cell : Ranges → ℕ → ℕ → ℕ → Cell
turn_cell r root level path = cell_of (cells_of r) root level path

-- a placement that is in range lies in a root
pub record HasRoot (r : Ranges) (p : Placement) : Type 0 where
  pub root : ℕ
  pub first : 1 ≤ root
  pub last : root ≤ roots_of r.turn
  pub lies : LiesIn r (turn_cell r root 0 0) p

abbrev pub RootsCover : Type 0
RootsCover = (r : Ranges) (p : Placement) → AreRanges r → IsPlacement p → IsInRange r p → HasRoot r p

-- a placement that lies in a cell lies in one of its halves
abbrev pub HalvesCover : Type 0
HalvesCover = (r : Ranges) (p : Placement) (root level path : ℕ) → AreRanges r → level < (cells_of r).finest
    → LiesIn r (turn_cell r root level path) p
    → (LiesIn r (turn_cell r root (suc level) (2 * path)) p)
    ⊎ (LiesIn r (turn_cell r root (suc level) (2 * path + 1)) p)

-- the boxes of both halves of a cell lie in the cell's box
abbrev pub BoxesNest : Type 0
BoxesNest = (r : Ranges) (root level path side : ℕ) (a b : CellBox) → AreRanges r → 1 ≤ root → root ≤ roots_of r.turn
    → level < (cells_of r).finest → side < 2
    → IsBoxOf r (turn_cell r root (suc level) (2 * path + side)) a
    → IsBoxOf r (turn_cell r root level path) b → IsPart a b

-- the cells are those of a grid, and the centre of each is in range
abbrev pub CellsMakeGrid : Type 0
CellsMakeGrid = (r : Ranges) → AreRanges r → IsGrid (cells_of r)

abbrev pub CentresAreInRange : Type 0
CentresAreInRange = (r : Ranges) (c : Cell) → AreRanges r → IsCell (cells_of r) c
    → is_in_range (roots_of r.turn) (coordinates_of r) (centre_of (cells_of r) (coordinates_of r) c) ≡ true
