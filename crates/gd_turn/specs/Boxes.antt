-- Boxes of the placements of a cell, and what they hold.
use Rattle.std.specs.Prelude.{ℕ, pos, ◌+◌, ◌*◌, ◌^◌, ◌≡◌, ◌-ℤ◌, ◌*ℤ◌, ◌≤ℤ◌, nat_le, if◌then◌else◌}
use Rattle.gd_base.specs.Scales.{FINE}
use Rattle.gd_cells.specs.declared.cell.Cell.{Cell}
use Rattle.gd_grid.specs.Cells.{high_in, low_in}
use Rattle.gd_quat.specs.Boxes.{HoldsRotation, HoldsVector, IsRotationBox, VectorFits, width_of}
use Rattle.gd_quat.specs.Formulas.{Ends, RotationEnds, VectorEnds, leading_ends, point_ends, rotation_ends, vector_ends}
use Rattle.gd_quat.specs.Laws.{RotationInside, VectorInside}
use Rattle.gd_quat.specs.Placements.{IsPlacement, Placement, times}
use Rattle.gd_quat.specs.declared.shape.VecBox.{VecBox}
use Rattle.gd_turn.specs.Ranges.{LENGTH_SIZE, LiesIn, ORIGIN, coordinates_of, face_of}
use Rattle.gd_turn.specs.declared.ranges.CellBox.{CellBox}
use Rattle.gd_turn.specs.declared.ranges.Ranges.{Ranges}
use Rattle.gd_vec.specs.Vector.{norm_sum_of}
use Rattle.gd_vec.specs.declared.vector.V3.{V3}

-- ---- ends
-- the ends of a cell's box of the coordinate with a number, and of three coordinates from it on
abbrev pub ends_in : Ranges → Cell → ℕ → Ends
ends_in r c n = record { lo = low_in (coordinates_of r) n c; hi = high_in (coordinates_of r) n c }

abbrev pub three_from : Ranges → Cell → ℕ → VectorEnds
three_from r c n = record { x = ends_in r c n; y = ends_in r c (n + 1); z = ends_in r c (n + 2) }

-- an offset that the ranges don't have is 0
abbrev pub offset_ends : Ranges → Cell → ℕ → VectorEnds
offset_ends r c number = if nat_le number r.offsets then three_from r c (3 * number + 3) else point_ends ORIGIN

-- the component that leads is 1
abbrev pub turn_ends_in : Ranges → Cell → RotationEnds
turn_ends_in r c = leading_ends (face_of r.turn c.root) (ends_in r c 0) (ends_in r c 1) (ends_in r c 2)

-- the box of a cell, by its ends
pub record IsBoxOf (r : Ranges) (c : Cell) (b : CellBox) : Type 0 where
  pub turn : rotation_ends b.turn ≡ turn_ends_in r c
  pub shift : vector_ends b.shift ≡ three_from r c 3
  pub first : vector_ends b.first ≡ offset_ends r c 1
  pub second : vector_ends b.second ≡ offset_ends r c 2

-- one component is 1 and none is larger, and no translation or offset is too large
pub record IsCellBox (b : CellBox) : Type 0 where
  pub turn : IsRotationBox b.turn
  pub shift : VectorFits LENGTH_SIZE b.shift
  pub first : VectorFits LENGTH_SIZE b.first
  pub second : VectorFits LENGTH_SIZE b.second

-- ---- what a box holds
pub record HoldsPlacement (b : CellBox) (p : Placement) : Type 0 where
  pub turn : HoldsRotation b.turn p.turn
  pub shift : HoldsVector b.shift p.scale (times (pos FINE) p.shift)
  pub first : HoldsVector b.first p.scale (times (pos FINE) p.first)
  pub second : HoldsVector b.second p.scale (times (pos FINE) p.second)

-- the box holds every placement that lies in the cell
abbrev pub EnclosesPlacements : Ranges → Cell → CellBox → Type 0
EnclosesPlacements r c b = (p : Placement) → IsPlacement p → LiesIn r c p → HoldsPlacement b p

-- a box lies in another
pub record IsPart (a b : CellBox) : Type 0 where
  pub turn : RotationInside a.turn b.turn
  pub shift : VectorInside a.shift b.shift
  pub first : VectorInside a.first b.first
  pub second : VectorInside a.second b.second

-- an entry of an image, less the width of the translation's entry and 2 for the rounding, is at most as wide as 12 w
-- + 2 times the sum of v's sizes over 2^14
pub record ImageWidth (w : ℕ) (v : V3) (shift r : VecBox) : Type 0 where
  pub x : ((width_of r.x -ℤ width_of shift.x -ℤ pos 2) *ℤ pos (2 ^ 14)) ≤ℤ (pos (12 * w + 2) *ℤ norm_sum_of v)
  pub y : ((width_of r.y -ℤ width_of shift.y -ℤ pos 2) *ℤ pos (2 ^ 14)) ≤ℤ (pos (12 * w + 2) *ℤ norm_sum_of v)
  pub z : ((width_of r.z -ℤ width_of shift.z -ℤ pos 2) *ℤ pos (2 ^ 14)) ≤ℤ (pos (12 * w + 2) *ℤ norm_sum_of v)
