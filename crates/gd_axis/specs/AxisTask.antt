-- A form about an axis as a task over the cells of directions and offsets.
use Rattle.std.specs.Prelude.{ℕ, ℤ, pos, ◌^◌, ◌<◌, ◌≤◌, ◌≡◌, Bool, false, List, [], ◌∷◌, Option, None, get_or, length}
use Rattle.std.specs.Prelude.{unsigned_abs}
use Rattle.std.specs.List.{All}
use Rattle.gd_base.specs.Limits.{POINTS}
use Rattle.gd_base.specs.Scales.{FINE}
use Rattle.gd_cells.specs.Meaning.{Questions}
use Rattle.gd_cells.specs.declared.cell.Cell.{Cell}
use Rattle.gd_cells.specs.declared.cell.Evidence.{Evidence}
use Rattle.gd_cells.specs.declared.cell.Witness.{Witness}
use Rattle.gd_dir.specs.Boxes.{ORIGIN, direction_of}
use Rattle.gd_dir.specs.FormBoxes.{form_box, offset_at}
use Rattle.gd_dir.specs.Forms.{FormLiesIn, cells_of, coordinates_of, leading_axis, roots_of}
use Rattle.gd_dir.specs.declared.shape.DirBox.{DirBox}
use Rattle.gd_dir.specs.declared.shape.FormShape.{FormShape}
use Rattle.gd_dir.specs.declared.shape.FormShape.TheVariants.{Flat, Line, Circle, Cylinder}
use Rattle.gd_axis.specs.Axes.{Axis, IsMetAbout}
use Rattle.gd_axis.specs.AxisLaws.{points_at}
use Rattle.gd_axis.specs.AxisTests.{line_evidence, line_holds, line_refuted, ring_evidence, ring_holds, ring_refuted}
use Rattle.gd_flat.specs.FlatTests.{point_at}
use Rattle.gd_grid.specs.Cells.{centre_of, is_in_range}
use Rattle.gd_points.specs.declared.table.Row.{Row}
use Rattle.gd_vec.specs.declared.vector.V3.{V3}

-- what is asked: a shape, the direction of a circle's section, the form's own point, how far to each side its axis may
-- lie from that, in powers of two of units, a tolerance, and the places of the judged points in a table
pub record Asked : Type 0 where
  pub shape : FormShape
  pub direction : V3
  pub own : V3
  pub shift : ℕ
  pub tolerance : ℕ
  pub rows : List Row
  pub judged : List ℕ

abbrev pub asked_of : FormShape → V3 → V3 → ℕ → ℕ → List Row → List ℕ → Asked
asked_of shape direction own shift tolerance rows judged =
    record {
      shape = shape;
      direction = direction;
      own = own;
      shift = shift;
      tolerance = tolerance;
      rows = rows;
      judged = judged;
    }

-- ---- assignments: the number of an axis, a direction, a scale and an offset
abbrev pub numbers_of_axis : ℕ → V3 → ℕ → V3 → List ℤ
numbers_of_axis axis n s o = pos axis ∷ n.x ∷ n.y ∷ n.z ∷ pos s ∷ o.x ∷ o.y ∷ o.z ∷ []

abbrev pub lead_in : List ℤ → ℕ
lead_in a = unsigned_abs (get_or a 0 (pos 0))

abbrev pub axis_in : List ℤ → Axis
axis_in a = record {
  direction = record { x = get_or a 1 (pos 0); y = get_or a 2 (pos 0); z = get_or a 3 (pos 0) };
  scale = unsigned_abs (get_or a 4 (pos 0));
  offset = record { x = get_or a 5 (pos 0); y = get_or a 6 (pos 0); z = get_or a 7 (pos 0) };
}

-- the form is met about the axis
abbrev pub MeetsForm : Asked → List ℤ → Type 0
MeetsForm q a = IsMetAbout q.shape (points_at q.rows q.judged) q.tolerance q.shift q.direction q.own (lead_in a)
    (axis_in a)

-- the axis lies in the cell
abbrev pub AxisLiesIn : Asked → List ℤ → Cell → Type 0
AxisLiesIn q a c = FormLiesIn q.shape q.shift c (lead_in a) (axis_in a).direction (pos (axis_in a).scale)
    (axis_in a).offset

-- ---- the tests by the shape. Flatness has no axis, and is another task
abbrev pub form_evidence : FormShape → List Row → List ℕ → ℕ → DirBox → V3 → Option Evidence
form_evidence Flat rows judged t b a = None
form_evidence Line rows judged t b a = line_evidence Line rows judged t b a
form_evidence Circle rows judged t b a = ring_evidence Circle rows judged t b a
form_evidence Cylinder rows judged t b a = ring_evidence Cylinder rows judged t b a

abbrev pub form_refuted : FormShape → List Row → List ℕ → ℕ → DirBox → V3 → Evidence → Bool
form_refuted Flat rows judged t b a e = false
form_refuted Line rows judged t b a e = line_refuted Line rows judged t b a e
form_refuted Circle rows judged t b a e = ring_refuted Circle rows judged t b a e
form_refuted Cylinder rows judged t b a e = ring_refuted Cylinder rows judged t b a e

abbrev pub form_holds : FormShape → List Row → List ℕ → ℕ → DirBox → V3 → Bool
form_holds Flat rows judged t b a = false
form_holds Line rows judged t b a = line_holds Line rows judged t b a
form_holds Circle rows judged t b a = ring_holds Circle rows judged t b a
form_holds Cylinder rows judged t b a = ring_holds Cylinder rows judged t b a

-- ---- witnesses: a root, then two ratios and two offsets; a circle has two offsets alone
abbrev pub number_of : Witness → ℕ → ℤ
number_of w n = get_or w.at n (pos 0)

abbrev pub lead_at : FormShape → V3 → Witness → ℕ
lead_at Flat d w = w.root
lead_at Line d w = w.root
lead_at Circle d w = leading_axis d
lead_at Cylinder d w = w.root

abbrev pub direction_at : FormShape → V3 → Witness → V3
direction_at Flat d w = direction_of w.root (number_of w 0) (number_of w 1)
direction_at Line d w = direction_of w.root (number_of w 0) (number_of w 1)
direction_at Circle d w = d
direction_at Cylinder d w = direction_of w.root (number_of w 0) (number_of w 1)

abbrev pub offset_in : FormShape → V3 → Witness → V3
offset_in Flat d w = ORIGIN
offset_in Line d w = offset_at w.root (number_of w 2) (number_of w 3)
offset_in Circle d w = offset_at (leading_axis d) (number_of w 0) (number_of w 1)
offset_in Cylinder d w = offset_at w.root (number_of w 2) (number_of w 3)

-- the box of a witness alone
abbrev pub place_box : FormShape → V3 → Witness → DirBox
place_box shape d w = record {
  lead = lead_at shape d w;
  lo = direction_at shape d w;
  hi = direction_at shape d w;
  offset_lo = offset_in shape d w;
  offset_hi = offset_in shape d w;
}

-- its axis
abbrev pub axis_at : Asked → Witness → List ℤ
axis_at q w = numbers_of_axis (lead_at q.shape q.direction w) (direction_at q.shape q.direction w) FINE
    (offset_in q.shape q.direction w)

-- ---- the task
abbrev pub axis_questions : Asked → Questions
axis_questions q = record {
  grid = cells_of q.shape q.shift;
  tests = record {
    first = λ c. form_evidence q.shape q.rows q.judged q.tolerance (form_box q.shape q.direction q.shift c) q.own;
    refuted = λ c e. form_refuted q.shape q.rows q.judged q.tolerance (form_box q.shape q.direction q.shift c) q.own e;
    centre = centre_of (cells_of q.shape q.shift) (coordinates_of q.shape q.shift);
    in_range = is_in_range (roots_of q.shape) (coordinates_of q.shape q.shift);
    holds = λ w. form_holds q.shape q.rows q.judged q.tolerance (place_box q.shape q.direction w) q.own;
  };
}

-- what a task may rest on: a line's own point is the first that is judged, and its axis is looked for within the
-- tolerance of that
pub record IsAsked (q : Asked) : Type 0 where
  pub near : q.shift ≤ 28
  pub line_shift : q.shape ≡ Line → q.tolerance ≤ 2 ^ q.shift
  pub line_own : q.shape ≡ Line → q.own ≡ point_at q.rows (get_or q.judged 0 0)
  pub some : 0 < length q.judged
  pub below : All (λ (n : ℕ). n < length q.rows) q.judged
  pub few : length q.rows ≤ POINTS
