-- A group as a task keeps the laws, and its witnesses have two numbers or more.
use Rattle.std.proofs.Common.{arith, ◌≤◌}
use Rattle.gd_cells.specs.Laws.{Laws}
use Rattle.gd_fit.specs.Fits as fit
use Rattle.gd_fit.specs.Laws.Task.{are_asked, fit_laws}
use Rattle.gd_fit.specs.Subjects.{conditions_of}
use Rattle.gd_form.specs.FormNumbers as numbers
use Rattle.gd_form.specs.FormTasks.{form_laws}
use Rattle.gd_group.specs.Tasks.{Asked, Form, LiesIn, Meets, Placed, asked_by, assignment_of, questions_of}
use Rattle.gd_group.specs.declared.group_task.GroupTask.{GroupTask}
use Rattle.gd_group.specs.declared.group_task.GroupTask.TheVariants as task

pub group_laws : (t : GroupTask)
    → Laws (questions_of (asked_by t)) (Meets (asked_by t)) (LiesIn (asked_by t)) (assignment_of (asked_by t))
group_laws (task.Form t) = form_laws t
group_laws (task.Placed t) = fit_laws
    (fit.asked_of t.ranges t.base t.table.now.rows (conditions_of t.subjects.items))
    (are_asked t.ranges t.base t.table.now.rows t.subjects.items t.ranged t.judged t.of_table t.few)

-- a form has at least two numbers, and a placement six
pub has_numbers : (q : Asked) → 2 ≤ (questions_of q).grid.numbers
has_numbers (Form q) = numbers.has_numbers q
has_numbers (Placed q) = omega arith
