-- The placements that the witnesses of ranges stand for.
use Rattle.std.specs.Prelude.{ℕ, ◌+◌, ◌≡◌, true}
use Rattle.gd_cells.specs.declared.cell.Witness.{Witness}
use Rattle.gd_grid.specs.Cells.{is_in_range, number_at}
use Rattle.gd_quat.specs.Placements.{IsOnGrid, placement_of}
use Rattle.gd_quat.specs.declared.shape.Assignment.{Assignment}
use Rattle.gd_turn.specs.Ranges.{AreRanges, IsInRange, LENGTH_SIZE, coordinates_of, face_of, roots_of}
use Rattle.gd_turn.specs.declared.ranges.Ranges.{Ranges}
use Rattle.gd_vec.specs.Vector.{IsWithin}
use Rattle.gd_vec.specs.declared.vector.V3.{V3}

-- three numbers of a witness, from one on
abbrev pub vector_at : ℕ → Witness → V3
vector_at n w = record { x = number_at n w; y = number_at (n + 1) w; z = number_at (n + 2) w }

-- the root names the component that leads; then come three ratios, the shift and both offsets
abbrev pub assignment_at : Ranges → Witness → Assignment
assignment_at r w = record {
  face = face_of r.turn w.root;
  ratios = record { first = number_at 0 w; second = number_at 1 w; third = number_at 2 w };
  shift = vector_at 3 w;
  first = vector_at 6 w;
  second = vector_at 9 w;
}

-- an assignment of the grid whose placement is in range
pub record IsAssignmentIn (r : Ranges) (a : Assignment) : Type 0 where
  pub grid : IsOnGrid a
  pub range : IsInRange r (placement_of a)
  pub shift : IsWithin LENGTH_SIZE a.shift
  pub first : IsWithin LENGTH_SIZE a.first
  pub second : IsWithin LENGTH_SIZE a.second

-- a witness that is in range stands for such a one
abbrev pub WitnessesArePlacements : Type 0
WitnessesArePlacements = (r : Ranges) (w : Witness) → AreRanges r
    → is_in_range (roots_of r.turn) (coordinates_of r) w ≡ true → IsAssignmentIn r (assignment_at r w)
