use Rattle.std.proofs.Common.{arith, ◌≡◌, ◌∙◌, ap, sym, decimal}
use Rattle.std.proofs.lemmas.Fmt.{decimal_injective}
use Rattle.gd_run.proofs.flat.FlatCommand.of.Goals as goal

pub returns-then-budget-eq0 : goal.returns-then-budget-eq0
returns-then-budget-eq0 c = λ flat spelled range.
    let word : c.args.budget.now ≡ decimal flat.budget = cc in
    let bytes : c.as_bytes-2.result.now ≡ c.args.budget.now = c.as_bytes-2.ensures.value in
    let zero : c.args.budget.now ≡ decimal 0 = sym bytes ∙ c.in_ok-budget.ensures.1 ∙ ap decimal c.if-budget-eq0.true in
    let same : flat.budget ≡ 0 = decimal_injective flat.budget 0 (omega (arith, range.budget)) (omega arith) (sym word ∙ zero) in
    absurd (omega (arith, range.some_budget))
