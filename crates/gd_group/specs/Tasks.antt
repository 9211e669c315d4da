-- What a group asks: a form of a feature, or a placement in range at which all conditions of the group are met at once.
use Rattle.std.specs.Prelude.{ℕ, ℤ, List, [], ◌∷◌, Option, None, Some, map, option_and_then, option_map, slice_get}
use Rattle.gd_axis.specs.AxisTask as axis
use Rattle.gd_cells.specs.Meaning.{Questions}
use Rattle.gd_cells.specs.declared.cell.Cell.{Cell}
use Rattle.gd_cells.specs.declared.cell.Witness.{Witness}
use Rattle.gd_dir.specs.declared.shape.FormShape.{FormShape}
use Rattle.gd_dir.specs.declared.shape.FormShape.TheVariants.{Flat, Line, Circle, Cylinder}
use Rattle.gd_fit.specs.Fits as fit
use Rattle.gd_fit.specs.Subjects.{conditions_of}
use Rattle.gd_fit.specs.Tests as fitting
use Rattle.gd_form.specs.FormTasks as forms
use Rattle.gd_form.specs.Forms.{FormLies, MeetsForm, form_at, form_questions}
use Rattle.gd_form.specs.declared.form.FormDef.{FormDef}
use Rattle.gd_group.specs.Conditions.{of_group}
use Rattle.gd_group.specs.Groups.{groups}
use Rattle.gd_group.specs.Labels.{label}
use Rattle.gd_group.specs.Ranges.{base_of, ranges_of}
use Rattle.gd_group.specs.Requirements.{form_feature, requirements, section_of}
use Rattle.gd_group.specs.declared.group_task.GroupTask.{GroupTask}
use Rattle.gd_group.specs.declared.group_task.GroupTask.TheVariants as task
use Rattle.gd_group.specs.declared.requirement.Part.{Part}
use Rattle.gd_group.specs.declared.requirement.Requirement.{Requirement}
use Rattle.gd_points.specs.declared.table.Row.{Row}
use Rattle.gd_quat.specs.Placements.{placement_of}
use Rattle.gd_tables.specs.Kinds.{File, Frame}
use Rattle.gd_tables.specs.declared.file.FeatureDef.{FeatureDef}
use Rattle.gd_tables.specs.declared.kind.Kind.{Kind}
use Rattle.gd_tables.specs.declared.kind.Kind.TheVariants as kind
use Rattle.gd_turn.specs.Places.{assignment_at}
use Rattle.gd_turn.specs.Ranges as range

-- what is asked: a form of a feature or of a section of it, or a placement that fits
pub data Asked : Type 0 where
  Form : axis.Asked → Asked
  Placed : fit.Asked → Asked

-- the grid and the written tests
abbrev pub questions_of : Asked → Questions
questions_of (Form q) = form_questions q
questions_of (Placed q) = fitting.questions_of q

-- what is asked is met by an assignment: a direction, an axis, or a placement
abbrev pub Meets : Asked → List ℤ → Type 0
Meets (Form q) a = MeetsForm q a
Meets (Placed q) a = fit.IsFit q (fit.placement_in a)

-- an assignment lies in a cell
abbrev pub LiesIn : Asked → List ℤ → Cell → Type 0
LiesIn (Form q) a c = FormLies q a c
LiesIn (Placed q) a c = range.LiesIn q.ranges c (fit.placement_in a)

-- the assignment of a witness
abbrev pub assignment_of : Asked → Witness → List ℤ
assignment_of (Form q) w = form_at q w
assignment_of (Placed q) w = fit.numbers_of (placement_of (assignment_at q.ranges w))

-- what a task asks
abbrev pub asked_by : GroupTask → Asked
asked_by (task.Form t) = Form (forms.asked_by t)
asked_by (task.Placed t) = Placed (fit.asked_of t.ranges t.base t.table.now.rows (conditions_of t.subjects.items))

-- ---- what the groups of a file ask
-- the zone of a form by the kind of its frame, and none of every other kind
abbrev pub shape_of : Kind → Option FormShape
shape_of kind.Flatness = Some Flat
shape_of kind.Straightness = Some Line
shape_of kind.Circularity = Some Circle
shape_of kind.Cylindricity = Some Cylinder
shape_of _ = None

-- a form of a feature as its table states it, at the tolerance of the frame; its axis is shifted as far as the part is
abbrev pub form_with : File → Part → Frame → FormShape → FeatureDef → FormDef
form_with file p f shape def = record {
  shape = shape;
  feature = def.feature;
  group = section_of p;
  direction = def.direction;
  point = def.point;
  shift = file.shift;
  tolerance = f.tolerance;
}

abbrev pub form_of_part : File → Part → Frame → Option FormDef
form_of_part file p f =
    option_and_then (λ shape. option_map (form_with file p f shape) (form_feature file.features f)) (shape_of f.kind)

-- the form that a group asks: that of its first requirement, as a form is judged by itself
abbrev pub form_of : File → List Requirement → Option FormDef
form_of file [] = None
form_of file (r ∷ more) = option_and_then (form_of_part file r.part) (slice_get file.frames r.frame)

-- a placement in the file's ranges, with the offsets that the conditions name, at which they are all met
abbrev pub placed_by : File → List Row → List Requirement → Asked
placed_by file rows group = Placed (fit.asked_of
    (ranges_of file rows (of_group file rows group)) (base_of rows) rows (of_group file rows group))

abbrev pub form_or_placed : File → List Row → List Requirement → Option FormDef → Asked
form_or_placed file rows group (Some def) = Form (forms.asked_for def rows)
form_or_placed file rows group None = placed_by file rows group

-- what a group asks
abbrev pub group_asked : File → List Row → List Requirement → Asked
group_asked file rows group = form_or_placed file rows group (form_of file group)

-- what all groups ask, in their order
abbrev pub all_asked : File → List Row → List Asked
all_asked file rows = map (group_asked file rows) (groups file (requirements file rows))

-- their labels
abbrev pub labels : File → List Row → List (List ℕ)
labels file rows = map (label file) (groups file (requirements file rows))
