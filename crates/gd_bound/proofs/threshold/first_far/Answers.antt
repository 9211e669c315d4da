use Rattle.std.proofs.Common.{rules, arith, FitsSigned, ◌≡◌, ◌∙◌, ◌+◌, sym, ℕ, get_or, false, ℤ, of_z, to_z}
use Rattle.std.proofs.lemmas.Int.{to_z-of_z}
use Rattle.std.specs.Int.{w128}
use Rattle.std.specs.Prelude.{int_le}
use Rattle.gd_bound.proofs.Chosen.{number-here, number-nowhere}
use Rattle.gd_quat.specs.Formulas.{Ends}
use Rattle.gd_zone.proofs.Outermost.{below-more}
use Rattle.gd_zone.specs.Boxes.{placed_ends}
use Rattle.gd_zone.specs.Extremes.{ends_by}
use Rattle.gd_bound.proofs.threshold.first_far.Goals as goal

pub returns-then-is_far : goal.returns-then-is_far
returns-then-is_far c =
    let f : ℕ → Ends = ends_by (placed_ends c.args.view.now.placed.now) c.args.view.now.base.now c.args.view.now.subject.now.condition c.args.view.now.subject.now.index.now.table.now.rows in
    let n : FitsSigned w128 c.args.threshold = search rules in
    let r = rw (to_z-of_z w128 c.args.threshold n) at c.is_far.ensures in
    let e : c.is_far.result ≡ int_le c.args.threshold (f (get_or c.args.numbers.now c.loop-at.at 0)).lo = search rules in
    let one : c.from_one.result ≡ get_or c.args.numbers.now c.loop-at.at 0 + 1 = search rules in
    one ∙ number-here (λ i. int_le c.args.threshold (f i).lo) c.args.numbers.now c.loop-at.at (omega (arith, c.loop-at-test.true)) (rw (to_z-of_z w128 c.args.threshold n) at c.loop-at.invariant.none) (sym e ∙ c.if-is_far.true)

pub loop-at-preserved : goal.loop-at-preserved
loop-at-preserved c =
    let f : ℕ → Ends = ends_by (placed_ends c.args.view.now.placed.now) c.args.view.now.base.now c.args.view.now.subject.now.condition c.args.view.now.subject.now.index.now.table.now.rows in
    let t : ℤ = to_z w128 (of_z w128 c.args.threshold) in
    let e : c.is_far.result ≡ int_le t (f (get_or c.args.numbers.now c.loop-at.at 0)).lo = search rules in
    record { none = below-more (λ j. int_le t (f (get_or c.args.numbers.now j 0)).lo ≡ false) c.loop-at.at c.loop-at.invariant.none (sym e ∙ c.if-is_far.false) }

pub returns : goal.returns
returns c =
    let f : ℕ → Ends = ends_by (placed_ends c.args.view.now.placed.now) c.args.view.now.base.now c.args.view.now.subject.now.condition c.args.view.now.subject.now.index.now.table.now.rows in
    let n : FitsSigned w128 c.args.threshold = search rules in
    number-nowhere (λ i. int_le c.args.threshold (f i).lo) c.args.numbers.now c.loop-at.at (omega (arith, c.loop-at-test.false, c.loop-at.auto.at-end)) (rw (to_z-of_z w128 c.args.threshold n) at c.loop-at.invariant.none)
