-- The witnesses of a form, and the candidates that they stand for.
use Rattle.std.specs.Prelude.{ℕ, pos, ◌≡◌, true, List, [], ◌∷◌}
use Rattle.gd_base.specs.Scales.{FINE}
use Rattle.gd_cells.specs.declared.cell.Witness.{Witness}
use Rattle.gd_dir.specs.Boxes.{ORIGIN, direction_of}
use Rattle.gd_dir.specs.FormBoxes.{offset_at}
use Rattle.gd_dir.specs.Forms.{IsCandidate, IsNear, coordinates_of, leading_axis, offset, ratio, roots_of}
use Rattle.gd_dir.specs.declared.shape.FormShape.{FormShape}
use Rattle.gd_dir.specs.declared.shape.FormShape.TheVariants.{Flat, Line, Circle, Cylinder}
use Rattle.gd_grid.specs.Cells.{is_in_range, number_at}
use Rattle.gd_grid.specs.declared.coordinate.Coordinate.{Coordinate}
use Rattle.gd_vec.specs.declared.vector.V3.{V3}

-- how many coordinates a form has: they are the first of four
abbrev pub dims_of : FormShape → ℕ
dims_of Flat = 2
dims_of Line = 4
dims_of Circle = 2
dims_of Cylinder = 4

abbrev pub four_coordinates : FormShape → ℕ → List Coordinate
four_coordinates Flat shift = ratio ∷ ratio ∷ offset shift ∷ offset shift ∷ []
four_coordinates Line shift = ratio ∷ ratio ∷ offset shift ∷ offset shift ∷ []
four_coordinates Circle shift = offset shift ∷ offset shift ∷ ratio ∷ ratio ∷ []
four_coordinates Cylinder shift = ratio ∷ ratio ∷ offset shift ∷ offset shift ∷ []

-- the axis of a witness is its root, but a circle's is that of its direction
abbrev pub axis_at : FormShape → V3 → Witness → ℕ
axis_at Flat d w = w.root
axis_at Line d w = w.root
axis_at Circle d w = leading_axis d
axis_at Cylinder d w = w.root

-- its direction, from two ratios in 2^-30
abbrev pub direction_at : FormShape → V3 → Witness → V3
direction_at Flat d w = direction_of w.root (number_at 0 w) (number_at 1 w)
direction_at Line d w = direction_of w.root (number_at 0 w) (number_at 1 w)
direction_at Circle d w = d
direction_at Cylinder d w = direction_of w.root (number_at 0 w) (number_at 1 w)

-- its offset, in fine units of 2^-16
abbrev pub offset_of : FormShape → V3 → Witness → V3
offset_of Flat d w = ORIGIN
offset_of Line d w = offset_at w.root (number_at 2 w) (number_at 3 w)
offset_of Circle d w = offset_at (leading_axis d) (number_at 0 w) (number_at 1 w)
offset_of Cylinder d w = offset_at w.root (number_at 2 w) (number_at 3 w)

-- a witness that is in range stands for a candidate, over 2^16, whose offset is in range
abbrev pub WitnessesAreCandidates : Type 0
WitnessesAreCandidates = (shape : FormShape) (d : V3) (shift : ℕ) (w : Witness)
    → is_in_range (roots_of shape) (coordinates_of shape shift) w ≡ true
    → IsCandidate shape d (axis_at shape d w) (direction_at shape d w) (pos FINE) (offset_of shape d w)
    × IsNear shift (pos FINE) (offset_of shape d w)
