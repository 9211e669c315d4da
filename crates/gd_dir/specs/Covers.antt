-- The cells of three faces cover every direction, and the boxes of halves lie in those of their cells.
use Rattle.std.specs.Prelude.{ℕ, suc, ◌+◌, ◌*◌, ◌≤◌, ◌<◌, ◌⊎◌}
use Rattle.gd_cells.specs.Grid.{cell_of, IsCell}
use Rattle.gd_cells.specs.declared.cell.Cell.{Cell}
use Rattle.gd_dir.specs.Boxes.{IsBelow, box_of}
use Rattle.gd_dir.specs.Directions.{LeadsAlong, LiesIn}
use Rattle.gd_dir.specs.Faces.{IsFaceCell, faces}
use Rattle.gd_dir.specs.declared.shape.DirBox.{DirBox}
use Rattle.gd_vec.specs.declared.vector.V3.{V3}

-- the cell of a root, a level and a path
abbrev pub face_cell : ℕ → ℕ → ℕ → Cell
face_cell root level path = cell_of faces root level path

-- the grid's cells are cells of the three faces
abbrev pub GridHasFaceCells : Type 0
GridHasFaceCells = (c : Cell) → IsCell faces c → IsFaceCell c

-- a direction that leads along an axis lies in the whole face of that axis
abbrev pub FacesCover : Type 0
FacesCover = (axis : ℕ) (n : V3) → 1 ≤ axis → axis ≤ 3 → LeadsAlong axis n → LiesIn (face_cell axis 0 0) axis n

-- a direction that lies in a cell lies in one of its halves
abbrev pub HalvesCover : Type 0
HalvesCover = (root level path axis : ℕ) (n : V3) → level < 60 → LiesIn (face_cell root level path) axis n
    → (LiesIn (face_cell root (suc level) (2 * path)) axis n)
    ⊎ (LiesIn (face_cell root (suc level) (2 * path + 1)) axis n)

-- a box lies in another
pub record IsPart (a b : DirBox) : Type 0 where
  pub lo : IsBelow b.lo a.lo
  pub hi : IsBelow a.hi b.hi
  pub offset_lo : IsBelow b.offset_lo a.offset_lo
  pub offset_hi : IsBelow a.offset_hi b.offset_hi

-- the boxes of both halves of a cell lie in the cell's box
abbrev pub BoxesNest : Type 0
BoxesNest = (root level path side : ℕ) → 1 ≤ root → root ≤ 3 → level < 60 → side < 2
    → IsPart (box_of (face_cell root (suc level) (2 * path + side))) (box_of (face_cell root level path))
