-- Flatness as a task over the cells of three faces.
use Rattle.std.specs.Prelude.{ℕ, ℤ, pos, Bool, ◌&&◌, nat_le, List, [], ◌∷◌, get_or, unsigned_abs}
use Rattle.gd_base.specs.Scales.{ONE}
use Rattle.gd_cells.specs.Witnesses.{witness_of, zeros_behind}
use Rattle.gd_cells.specs.Meaning.{Questions}
use Rattle.gd_cells.specs.declared.cell.Cell.{Cell}
use Rattle.gd_cells.specs.declared.cell.Witness.{Witness}
use Rattle.gd_dir.specs.Boxes.{box_of, direction_of}
use Rattle.gd_dir.specs.Directions.{LiesIn}
use Rattle.gd_dir.specs.Faces.{faces, middle}
use Rattle.gd_flat.specs.FlatTests.{first_evidence, is_refuted, is_within}
use Rattle.gd_flat.specs.Flatness.{IsFlatAlong}
use Rattle.gd_points.specs.declared.table.Row.{Row}
use Rattle.gd_vec.specs.declared.vector.V3.{V3}

-- ---- assignments: the number of an axis, and the entries of a direction that leads along it
abbrev pub assignment_of : ℕ → V3 → List ℤ
assignment_of axis n = pos axis ∷ n.x ∷ n.y ∷ n.z ∷ []

abbrev pub axis_of : List ℤ → ℕ
axis_of a = unsigned_abs (get_or a 0 (pos 0))

abbrev pub vector_of : List ℤ → V3
vector_of a = record { x = get_or a 1 (pos 0); y = get_or a 2 (pos 0); z = get_or a 3 (pos 0) }

-- the points are flat across the direction
abbrev pub IsFeasible : List Row → ℕ → List ℤ → Type 0
IsFeasible rows tolerance a = IsFlatAlong rows tolerance (axis_of a) (vector_of a)

-- the direction lies in the cell
abbrev pub IsInside : List ℤ → Cell → Type 0
IsInside a c = LiesIn c (axis_of a) (vector_of a)

-- ---- witnesses: a root and two ratios
abbrev pub centre_of : Cell → Witness
centre_of c = witness_of c.root (middle 0 c ∷ middle 1 c ∷ [])

abbrev pub ratio_at : ℕ → Witness → ℤ
ratio_at ratio w = get_or w.at ratio (pos 0)

-- a root from 1 to 3, two ratios from -1 to 1, and 0 after them
abbrev pub is_in_range : Witness → Bool
is_in_range w =
    nat_le 1 w.root && (nat_le w.root 3
    && (nat_le (unsigned_abs (ratio_at 0 w)) ONE && (nat_le (unsigned_abs (ratio_at 1 w)) ONE && zeros_behind 2 w)))

-- the direction of a witness
abbrev pub direction_at : Witness → V3
direction_at w = direction_of w.root (ratio_at 0 w) (ratio_at 1 w)

-- ---- the task
abbrev pub questions_of : List Row → ℕ → Questions
questions_of rows tolerance = record {
  grid = faces;
  tests = record {
    first = λ c. first_evidence rows tolerance (box_of c);
    refuted = λ c e. is_refuted rows tolerance (box_of c) e;
    centre = centre_of;
    in_range = is_in_range;
    holds = λ w. is_within rows tolerance (direction_at w);
  };
}
