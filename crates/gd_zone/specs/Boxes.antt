-- Boxes of placements: the matrix, the translation and both offsets, and what they hold.
use Rattle.std.specs.Prelude.{pos, ◌^◌}
use Rattle.gd_base.specs.Scales.{FINE, ONE}
use Rattle.gd_quat.specs.Boxes.{HoldsMatrix, HoldsVector, MatrixFits, VectorFits, matrix_times}
use Rattle.gd_quat.specs.Formulas.{MatrixEnds, VectorEnds, grid_ends, matrix_ends, matrix_formula}
use Rattle.gd_quat.specs.Formulas.{point_ends, vector_ends}
use Rattle.gd_quat.specs.Placements.{Placement, times}
use Rattle.gd_quat.specs.Rotations.{matrix_of, norm_of}
use Rattle.gd_quat.specs.declared.shape.Assignment.{Assignment}
use Rattle.gd_zone.specs.declared.placed.Placed.{Placed}

-- a box holds a placement
pub record HoldsPlacement (b : Placed) (p : Placement) : Type 0 where
  pub matrix : HoldsMatrix b.matrix (norm_of p.turn) (matrix_times (pos ONE) (matrix_of p.turn))
  pub shift : HoldsVector b.shift p.scale (times (pos FINE) p.shift)
  pub first : HoldsVector b.first p.scale (times (pos FINE) p.first)
  pub second : HoldsVector b.second p.scale (times (pos FINE) p.second)

-- its entries are those of a rotation, and translations and offsets lie within 2^29 units
pub record IsPlaced (b : Placed) : Type 0 where
  pub matrix : MatrixFits (2 ^ 32) b.matrix
  pub shift : VectorFits (2 ^ 45) b.shift
  pub first : VectorFits (2 ^ 45) b.first
  pub second : VectorFits (2 ^ 45) b.second

-- its ends
pub record PlacedEnds : Type 0 where
  pub matrix : MatrixEnds
  pub shift : VectorEnds
  pub first : VectorEnds
  pub second : VectorEnds

abbrev pub placed_ends : Placed → PlacedEnds
placed_ends b = record {
  matrix = matrix_ends b.matrix;
  shift = vector_ends b.shift;
  first = vector_ends b.first;
  second = vector_ends b.second;
}

-- the ends of the box of a placement of the grid
unfoldable pub grid_placed : Assignment → PlacedEnds
grid_placed a = record {
  matrix = matrix_formula (grid_ends a.face a.ratios);
  shift = point_ends a.shift;
  first = point_ends a.first;
  second = point_ends a.second;
}
