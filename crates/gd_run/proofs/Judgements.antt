-- What the report of some tasks rests on.
use Rattle.std.proofs.Common.{◌≡◌, ◌∙◌, ℕ, ℤ, List, length, map}
use Rattle.std.proofs.lemmas.List.{length-map}
use Rattle.std.proofs.lemmas.List.Elements.{All-map}
use Rattle.std.specs.List.{All}
use Rattle.gd_base.specs.declared.verdict.Verdict.{Verdict}
use Rattle.gd_cells.specs.Laws.{Laws}
use Rattle.gd_cells.specs.Meaning.{Questions}
use Rattle.gd_cells.specs.declared.cell.Cell.{Cell}
use Rattle.gd_cells.specs.declared.cell.Witness.{Witness}
use Rattle.gd_cert.specs.Certificates.{Certificate}
use Rattle.gd_check.proofs.Groups.{Keeps, keeps_of}
use Rattle.gd_judge.proofs.Judging.{verdicts_counted}
use Rattle.gd_judge.specs.Judged.{AreOfTasks}

-- there is a verdict a task
pub verdict_each : {T : Type 0} (questions : T → Questions) (tasks : List T) (budget : ℕ) (vs : List Verdict) (c : Certificate) → AreOfTasks (map questions tasks) budget vs c → length vs ≡ length tasks
verdict_each questions tasks budget vs c h = verdicts_counted (map questions tasks) c.share vs c.groups h.judged ∙ length-map tasks questions

-- tasks keep what their lines rest on
pub all_keep : {T : Type 0} (questions : T → Questions) (feasible : T → List ℤ → Type 0) (inside : T → List ℤ → Cell → Type 0) (assignment : T → Witness → List ℤ)
    → ((t : T) → Laws (questions t) (feasible t) (inside t) (assignment t)) → (tasks : List T) → All Keeps (map questions tasks)
all_keep questions feasible inside assignment laws tasks = All-map Keeps questions tasks (λ k d low. keeps_of (laws _))
