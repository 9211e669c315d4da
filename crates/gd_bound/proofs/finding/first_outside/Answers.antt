use Rattle.std.proofs.Common.{rules, arith, ◌≡◌, ◌∙◌, ◌+◌, sym, subst, ℕ, get_or, false}
use Rattle.std.specs.Prelude.{find}
use Rattle.gd_bound.proofs.Chosen.{number-here, number-nowhere}
use Rattle.gd_bound.specs.Evidence.{point_number, value_outside}
use Rattle.gd_quat.specs.Formulas.{Ends}
use Rattle.gd_zone.proofs.Outermost.{below-more}
use Rattle.gd_zone.specs.Boxes.{placed_ends}
use Rattle.gd_zone.specs.Extremes.{ends_by}
use Rattle.gd_bound.proofs.finding.first_outside.Goals as goal

pub returns-then-is_outside_at : goal.returns-then-is_outside_at
returns-then-is_outside_at c =
    let f : ℕ → Ends = ends_by (placed_ends c.args.view.now.placed.now) c.args.view.now.base.now c.args.view.now.subject.now.condition c.args.view.now.subject.now.index.now.table.now.rows in
    let e : c.is_outside_at.result ≡ value_outside c.args.view.now.subject.now.condition.surface c.args.lo c.args.hi (f (get_or c.points-numbers.result.now c.loop-at.at 0)) = search rules in
    let one : c.from_one.result ≡ get_or c.points-numbers.result.now c.loop-at.at 0 + 1 = search rules in
    subst (λ z. c.from_one.result ≡ point_number (find (λ i. value_outside c.args.view.now.subject.now.condition.surface c.args.lo c.args.hi (f i)) z)) c.points-numbers.ensures.all
    (one ∙ number-here (λ i. value_outside c.args.view.now.subject.now.condition.surface c.args.lo c.args.hi (f i)) c.points-numbers.result.now c.loop-at.at (omega (arith, c.loop-at-test.true)) c.loop-at.invariant.none (sym e ∙ c.if-is_outside_at.true))

pub loop-at-preserved : goal.loop-at-preserved
loop-at-preserved c =
    let f : ℕ → Ends = ends_by (placed_ends c.args.view.now.placed.now) c.args.view.now.base.now c.args.view.now.subject.now.condition c.args.view.now.subject.now.index.now.table.now.rows in
    let e : c.is_outside_at.result ≡ value_outside c.args.view.now.subject.now.condition.surface c.args.lo c.args.hi (f (get_or c.points-numbers.result.now c.loop-at.at 0)) = search rules in
    record { none = below-more (λ j. value_outside c.args.view.now.subject.now.condition.surface c.args.lo c.args.hi (f (get_or c.points-numbers.result.now j 0)) ≡ false) c.loop-at.at c.loop-at.invariant.none (sym e ∙ c.if-is_outside_at.false) }

pub returns : goal.returns
returns c =
    let f : ℕ → Ends = ends_by (placed_ends c.args.view.now.placed.now) c.args.view.now.base.now c.args.view.now.subject.now.condition c.args.view.now.subject.now.index.now.table.now.rows in
    subst (λ z. 0 ≡ point_number (find (λ i. value_outside c.args.view.now.subject.now.condition.surface c.args.lo c.args.hi (f i)) z)) c.points-numbers.ensures.all
    (number-nowhere (λ i. value_outside c.args.view.now.subject.now.condition.surface c.args.lo c.args.hi (f i)) c.points-numbers.result.now c.loop-at.at (omega (arith, c.loop-at-test.false, c.loop-at.auto.at-end)) c.loop-at.invariant.none)
