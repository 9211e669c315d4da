-- What an outcome that states the verdict says of the assignments.
use Rattle.std.proofs.Common.{ℕ, List, ℤ}
use Rattle.gd_cells.specs.Meaning.{Questions}
use Rattle.gd_cells.specs.declared.cell.Witness.{Witness}
use Rattle.gd_search.specs.Outcomes.{AcceptsRightly, RejectsRightly, end_of}
use Rattle.gd_search.specs.declared.outcome.Outcome.{Outcome}
use Rattle.gd_search.specs.declared.outcome.Outcome.TheVariants.{Accept, Reject, StillOpen}
use Rattle.gd_verdict.specs.Meant.{VerdictMeans}
use Rattle.gd_verdict.specs.Verdict.{IsVerdict}

pub accepts_rightly : (q : Questions) (feasible : List ℤ → Type 0) (assignment : Witness → List ℤ) → VerdictMeans q feasible assignment →
    (budget : ℕ) (o : Outcome) → IsVerdict q budget (end_of o) → AcceptsRightly q feasible assignment o
accepts_rightly q feasible assignment means budget (Accept witness level) verdict = means budget _ verdict
accepts_rightly q feasible assignment means budget (Reject tree) verdict = tt
accepts_rightly q feasible assignment means budget (StillOpen tree counts) verdict = tt

pub rejects_rightly : (q : Questions) (feasible : List ℤ → Type 0) (assignment : Witness → List ℤ) → VerdictMeans q feasible assignment →
    (budget : ℕ) (o : Outcome) → IsVerdict q budget (end_of o) → RejectsRightly feasible o
rejects_rightly q feasible assignment means budget (Accept witness level) verdict = tt
rejects_rightly q feasible assignment means budget (Reject tree) verdict = means budget _ verdict
rejects_rightly q feasible assignment means budget (StillOpen tree counts) verdict = tt
