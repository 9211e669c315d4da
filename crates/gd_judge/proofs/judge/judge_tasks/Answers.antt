use Rattle.std.proofs.Common.{refl, ap, sym, length, map, List, ℕ, ◌/◌, ℤ}
use Rattle.std.proofs.lemmas.List.{length-map}
use Rattle.std.proofs.lemmas.List.Elements.{All-map}
use Rattle.std.specs.List.{All}
use Rattle.gd_cells.specs.Laws.{Laws}
use Rattle.gd_cells.specs.Meaning.{Questions}
use Rattle.gd_cells.specs.declared.cell.Cell.{Cell}
use Rattle.gd_cells.specs.declared.cell.Witness.{Witness}
use Rattle.gd_check.proofs.Written.{verdict_is_right}
use Rattle.gd_check.specs.Written.{VerdictIsRight}
use Rattle.gd_cert.specs.Certificates.{Body, Plain}
use Rattle.gd_base.specs.declared.verdict.Verdict.{Verdict}
use Rattle.gd_judge.proofs.Judging.{certificate_in_bounds, certificate_is_right, judged_right, share_is_small}
use Rattle.gd_judge.proofs.Meant.{judged_meant}
use Rattle.gd_judge.proofs.Sizes.{HasGrid, certificate_is_short}
use Rattle.gd_judge.specs.Judged.{AreJudged, AreOfTasks}
use Rattle.gd_judge.specs.Outcomes.{HasNumbers}
use Rattle.gd_judge.proofs.judge.judge_tasks.Goals as goal

rights : {T : Type 0} (questions : T → Questions) (feasible : T → List ℤ → Type 0) (inside : T → List ℤ → Cell → Type 0) (assignment : T → Witness → List ℤ)
    → ((t : T) → Laws (questions t) (feasible t) (inside t) (assignment t)) → (tasks : List T) → All (λ t. HasNumbers (questions t)) tasks → All VerdictIsRight (map questions tasks)
rights questions feasible inside assignment laws tasks numbers =
    All-map VerdictIsRight questions tasks (λ k d less. verdict_is_right (laws _) (numbers k d less))

grids : {T : Type 0} (questions : T → Questions) (feasible : T → List ℤ → Type 0) (inside : T → List ℤ → Cell → Type 0) (assignment : T → Witness → List ℤ)
    → ((t : T) → Laws (questions t) (feasible t) (inside t) (assignment t)) → (tasks : List T) → All HasGrid (map questions tasks)
grids questions feasible inside assignment laws tasks = All-map HasGrid questions tasks (λ k d less. (laws _).is_grid)

of-tasks : {T : Type 0} (questions : T → Questions) (tasks : List T) (budget : ℕ) (vs : List Verdict) (bs : List Body)
    → AreJudged (map questions tasks) (budget / length tasks) vs bs
    → AreOfTasks (map questions tasks) budget vs (record { heading = Plain; share = budget / length tasks; told = length tasks; groups = bs })
of-tasks questions tasks budget vs bs judged = record {
  heading = refl;
  share = ap (λ n. budget / n) (sym (length-map tasks questions));
  told = sym (length-map tasks questions);
  judged = judged;
}

pub returns-clause-right : goal.returns-clause-right
returns-clause-right g c =
    let q = g.T.Task.questions in
    let tasks = c.args.tasks.now in
    certificate_is_right (map q tasks) c.args.budget c.in_ok-judged.judged.verdicts.items _
    (rights q g.T.Task.feasible g.T.Task.inside g.T.Task.assignment c.show_laws.ensures tasks c.requires.numbers) c.requires.budget
    (of-tasks q tasks c.args.budget c.in_ok-judged.judged.verdicts.items _ c.in_ok-judged.ensures.judged)

pub returns-clause-fits : goal.returns-clause-fits
returns-clause-fits g c =
    let q = g.T.Task.questions in
    let tasks = c.args.tasks.now in
    let of = of-tasks q tasks c.args.budget c.in_ok-judged.judged.verdicts.items _ c.in_ok-judged.ensures.judged in
    let right = rights q g.T.Task.feasible g.T.Task.inside g.T.Task.assignment c.show_laws.ensures tasks c.requires.numbers in
    let count = length-map tasks q in
    let bounds = certificate_in_bounds (map q tasks) c.args.budget c.in_ok-judged.judged.verdicts.items _ right (rw count c.requires.some) (rw count c.requires.few) c.requires.budget of in (
      bounds,
      certificate_is_short (map q tasks) c.args.budget c.in_ok-judged.judged.verdicts.items _
          (grids q g.T.Task.feasible g.T.Task.inside g.T.Task.assignment c.show_laws.ensures tasks) (rw count c.requires.few) c.requires.budget bounds of,
    )

pub returns-clause-means : goal.returns-clause-means
returns-clause-means g c =
    let q = g.T.Task.questions in
    let tasks = c.args.tasks.now in
    let of = of-tasks q tasks c.args.budget c.in_ok-judged.judged.verdicts.items _ c.in_ok-judged.ensures.judged in
    let right = rights q g.T.Task.feasible g.T.Task.inside g.T.Task.assignment c.show_laws.ensures tasks c.requires.numbers in
    judged_meant q g.T.Task.feasible g.T.Task.inside g.T.Task.assignment c.show_laws.ensures tasks (c.args.budget / length tasks) c.in_ok-judged.judged.verdicts.items _ c.in_ok-judged.ensures.judged
    (judged_right (map q tasks) (c.args.budget / length tasks) c.in_ok-judged.judged.verdicts.items _ right
    (share_is_small (map q tasks) c.args.budget c.in_ok-judged.judged.verdicts.items _ c.requires.budget of) c.in_ok-judged.ensures.judged)
