-- Each form has two coordinates or more.
use Rattle.std.proofs.Common.{arith, ℕ, ◌≤◌}
use Rattle.gd_axis.specs.AxisTask.{Asked}
use Rattle.gd_dir.specs.Forms.{cells_of}
use Rattle.gd_dir.specs.declared.shape.FormShape.{FormShape}
use Rattle.gd_dir.specs.declared.shape.FormShape.TheVariants.{Flat, Line, Circle, Cylinder}
use Rattle.gd_form.specs.Forms.{form_questions, questions_by}

coordinates : (s : FormShape) (shift : ℕ) → 2 ≤ (cells_of s shift).numbers
coordinates Flat shift = omega arith
coordinates Line shift = omega arith
coordinates Circle shift = omega arith
coordinates Cylinder shift = omega arith

by_shape : (s : FormShape) (q : Asked) → 2 ≤ (questions_by s q).grid.numbers
by_shape Flat q = omega arith
by_shape Line q = coordinates q.shape q.shift
by_shape Circle q = coordinates q.shape q.shift
by_shape Cylinder q = coordinates q.shape q.shift

pub has_numbers : (q : Asked) → 2 ≤ (form_questions q).grid.numbers
has_numbers q = by_shape q.shape q
