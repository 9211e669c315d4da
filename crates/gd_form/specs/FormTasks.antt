-- A form as a task: what its record asks, and that it keeps the laws.
use Rattle.std.specs.Prelude.{ℕ, ◌≡◌, refl, List, get_or}
use Rattle.gd_axis.specs.AxisBoxes.{least_power}
use Rattle.gd_axis.specs.AxisTask.{Asked, IsAsked, asked_of, axis_questions}
use Rattle.gd_axis.specs.Laws.AxisTask.{axis_laws}
use Rattle.gd_cells.specs.Laws.{Laws}
use Rattle.gd_dir.specs.Boxes.{ORIGIN}
use Rattle.gd_dir.specs.declared.shape.FormShape.{FormShape}
use Rattle.gd_dir.specs.declared.shape.FormShape.TheVariants.{Flat, Line, Circle, Cylinder}
use Rattle.gd_flat.specs.FlatTests.{point_at}
use Rattle.gd_flat.specs.Judged.{numbers_of}
use Rattle.gd_flat.specs.Laws.Feature.{feature_laws}
use Rattle.gd_form.specs.Forms.{FormLies, MeetsForm, form_at, form_questions}
use Rattle.gd_form.specs.declared.form.FormDef.{FormDef}
use Rattle.gd_form.specs.declared.form.FormTask.{FormTask}
use Rattle.gd_form.specs.declared.form.FormTask.TheVariants as form
use Rattle.gd_points.specs.declared.table.Row.{Row}
use Rattle.gd_vec.specs.declared.vector.V3.{V3}

-- what a task asks. Flatness has no direction, point or shift
abbrev pub asked_by : FormTask → Asked
asked_by (form.Flat t) = asked_of Flat ORIGIN ORIGIN 0 t.tolerance t.points.table.now.rows t.numbers.now
asked_by (form.Axis t) =
    asked_of t.shape t.direction t.own t.shift t.tolerance t.judged.points.table.now.rows t.judged.numbers.now

-- what a definition asks of the rows of a table: its own shape and tolerance, of the points of its feature, or of its
-- group. A line's own point is its first, and its shift the least that loses no line; a circle and a cylinder have
-- those of the definition
abbrev pub asked_about : FormShape → FormDef → List Row → List ℕ → Asked
asked_about Flat def rows judged = asked_of Flat ORIGIN ORIGIN 0 def.tolerance rows judged
asked_about Line def rows judged =
    asked_of Line def.direction (point_at rows (get_or judged 0 0))
    (least_power def.tolerance) def.tolerance rows judged
asked_about Circle def rows judged = asked_of Circle def.direction def.point def.shift def.tolerance rows judged
asked_about Cylinder def rows judged = asked_of Cylinder def.direction def.point def.shift def.tolerance rows judged

abbrev pub asked_for : FormDef → List Row → Asked
asked_for def rows = asked_about def.shape def rows (numbers_of def.feature def.group rows)

-- ---- a form about an axis asks what gd_axis asks
pub axis_is : (s : FormShape) (d own : V3) (shift t : ℕ) (rows : List Row) (judged : List ℕ) → (s ≡ Flat → ⊥)
    → form_questions (asked_of s d own shift t rows judged) ≡ axis_questions (asked_of s d own shift t rows judged)
axis_is Flat d own shift t rows judged axis = absurd (axis refl)
axis_is Line d own shift t rows judged axis = refl
axis_is Circle d own shift t rows judged axis = refl
axis_is Cylinder d own shift t rows judged axis = refl

about_axis : (s : FormShape) (d own : V3) (shift t : ℕ) (rows : List Row) (judged : List ℕ) → (s ≡ Flat → ⊥)
    → IsAsked (asked_of s d own shift t rows judged)
    → Laws (form_questions (asked_of s d own shift t rows judged)) (MeetsForm (asked_of s d own shift t rows judged))
    (FormLies (asked_of s d own shift t rows judged)) (form_at (asked_of s d own shift t rows judged))
about_axis Flat d own shift t rows judged axis asked = absurd (axis refl)
about_axis Line d own shift t rows judged axis asked = axis_laws (asked_of Line d own shift t rows judged) asked
about_axis Circle d own shift t rows judged axis asked = axis_laws (asked_of Circle d own shift t rows judged) asked
about_axis Cylinder d own shift t rows judged axis asked = axis_laws (asked_of Cylinder d own shift t rows judged) asked

-- ---- all laws, by the case
pub form_laws : (t : FormTask) → Laws (form_questions (asked_by t)) (MeetsForm (asked_by t)) (FormLies (asked_by t))
    (form_at (asked_by t))
form_laws (form.Flat t) = feature_laws t.points.table.now.rows t.numbers.now t.tolerance t.some t.short t.below t.few
form_laws (form.Axis t) =
    about_axis t.shape t.direction t.own t.shift t.tolerance t.judged.points.table.now.rows t.judged.numbers.now t.axis
    (record {
      near = t.shift_near;
      line_shift = t.line_shift;
      line_own = t.line_own;
      some = t.judged.named;
      below = t.judged.below;
      few = t.judged.points.few;
    })
