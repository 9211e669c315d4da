-- That a certificate can state the witness of a form.
use Rattle.std.proofs.Common.{arith, zero, suc, ◌≤◌, [], ◌∷◌}
use Rattle.std.specs.List.{All}
use Rattle.gd_form.specs.FormNumbers.{has_numbers}
use Rattle.gd_form.specs.FormTasks.{asked_by}
use Rattle.gd_form.specs.Forms.{form_questions}
use Rattle.gd_form.specs.declared.form.FormTask.{FormTask}

pub one_has_numbers : (t : FormTask) → All (λ (s : FormTask). 2 ≤ (form_questions (asked_by s)).grid.numbers) (t ∷ [])
one_has_numbers t zero d below = has_numbers (asked_by t)
one_has_numbers t (suc k) d below = absurd (omega (arith, below))
