-- The four forms as one: what is asked of some points, when it is met, and the written tests, by the shape.
use Rattle.std.specs.Prelude.{ℤ, List}
use Rattle.gd_axis.specs.Axes.{IsMetAbout}
use Rattle.gd_axis.specs.AxisLaws.{points_at}
use Rattle.gd_axis.specs.AxisTask.{Asked, AxisLiesIn, axis_at, axis_in, axis_questions, lead_in}
use Rattle.gd_cells.specs.Meaning.{Questions}
use Rattle.gd_cells.specs.declared.cell.Cell.{Cell}
use Rattle.gd_cells.specs.declared.cell.Witness.{Witness}
use Rattle.gd_dir.specs.declared.shape.FormShape.{FormShape}
use Rattle.gd_dir.specs.declared.shape.FormShape.TheVariants.{Flat, Line, Circle, Cylinder}
use Rattle.gd_flat.specs.FlatFeature.{feature_questions}
use Rattle.gd_flat.specs.FlatTask.{IsInside, assignment_of, axis_of, direction_at, vector_of}
use Rattle.gd_flat.specs.Flatness.{IsFlatAlong}
use Rattle.gd_flat.specs.Judged.{judged_rows}

-- the form of a shape is met: along a direction two planes hold the judged points between them, or about an axis its
-- zone holds them
abbrev pub IsMet : FormShape → Asked → List ℤ → Type 0
IsMet Flat q a = IsFlatAlong (judged_rows q.rows q.judged) q.tolerance (axis_of a) (vector_of a)
IsMet Line q a = IsMetAbout Line (points_at q.rows q.judged) q.tolerance q.shift q.direction q.own (lead_in a)
    (axis_in a)
IsMet Circle q a = IsMetAbout Circle (points_at q.rows q.judged) q.tolerance q.shift q.direction q.own (lead_in a)
    (axis_in a)
IsMet Cylinder q a = IsMetAbout Cylinder (points_at q.rows q.judged) q.tolerance q.shift q.direction q.own (lead_in a)
    (axis_in a)

-- what is asked is met by an assignment: a direction, or an axis
abbrev pub MeetsForm : Asked → List ℤ → Type 0
MeetsForm q a = IsMet q.shape q a

-- an assignment lies in a cell
abbrev pub lies_by : FormShape → Asked → List ℤ → Cell → Type 0
lies_by Flat q a c = IsInside a c
lies_by Line q a c = AxisLiesIn q a c
lies_by Circle q a c = AxisLiesIn q a c
lies_by Cylinder q a c = AxisLiesIn q a c

abbrev pub FormLies : Asked → List ℤ → Cell → Type 0
FormLies q a c = lies_by q.shape q a c

-- the assignment of a witness
abbrev pub place_by : FormShape → Asked → Witness → List ℤ
place_by Flat q w = assignment_of w.root (direction_at w)
place_by Line q w = axis_at q w
place_by Circle q w = axis_at q w
place_by Cylinder q w = axis_at q w

abbrev pub form_at : Asked → Witness → List ℤ
form_at q w = place_by q.shape q w

-- the grid and the written tests
abbrev pub questions_by : FormShape → Asked → Questions
questions_by Flat q = feature_questions q.rows q.judged q.tolerance
questions_by Line q = axis_questions q
questions_by Circle q = axis_questions q
questions_by Cylinder q = axis_questions q

abbrev pub form_questions : Asked → Questions
form_questions q = questions_by q.shape q
