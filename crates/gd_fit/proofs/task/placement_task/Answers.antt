use Rattle.std.proofs.Common.{subst, sym}
use Rattle.gd_fit.specs.Subjects.{SpeakOf}
use Rattle.gd_points.specs.Table.{Table}
use Rattle.gd_fit.proofs.task.placement_task.Goals as goal

pub invariant_of-result-clause-judged : goal.invariant_of-result-clause-judged
invariant_of-result-clause-judged c = c.in_ok-subjects.ensures.judged

pub invariant_of-result-clause-of_table : goal.invariant_of-result-clause-of_table
invariant_of-result-clause-of_table c =
    subst (λ (t : Table). SpeakOf t.rows c.in_ok-subjects.subjects.items) (sym c.table.ensures)
    c.in_ok-subjects.ensures.of_table
