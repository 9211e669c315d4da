use Rattle.std.proofs.Common.{◌∙◌, ◌<◌, ◌-◌, length, subst, sym}
use Rattle.gd_axis.specs.Laws.AxisSound.{place-of}
use Rattle.gd_axis.proofs.judged.is_judged.Goals as goal

pub returns-then-number-ge1-clause-inside : goal.returns-then-number-ge1-clause-inside
returns-then-number-ge1-clause-inside c =
    let judged = c.args.judged.now in
    λ h. let p = place-of judged.numbers.now (c.args.number - 1) (sym c.is_among.ensures ∙ h) in subst (λ n. n < length judged.points.table.now.rows) p.there (judged.below p.at 0 p.inside)
