use Rattle.std.proofs.Common.{arith, ◌≡◌, ◌∙◌, ap, sym, decimal}
use Rattle.std.proofs.lemmas.Fmt.{decimal_injective}
use Rattle.gd_run.proofs.judge.JudgeCommand.of.Goals as goal

pub returns-then-budget-eq0 : goal.returns-then-budget-eq0
returns-then-budget-eq0 c = λ judge spelled range.
    let word : c.args.budget.now ≡ decimal judge.budget = cc in
    let bytes : c.as_bytes.result.now ≡ c.args.budget.now = c.as_bytes.ensures.value in
    let zero : c.args.budget.now ≡ decimal 0 = sym bytes ∙ c.in_ok-budget.ensures.1 ∙ ap decimal c.if-budget-eq0.true in
    let same : judge.budget ≡ 0 = decimal_injective judge.budget 0 (omega (arith, range.budget)) (omega arith) (sym word ∙ zero) in
    absurd (omega (arith, range.some_budget))
