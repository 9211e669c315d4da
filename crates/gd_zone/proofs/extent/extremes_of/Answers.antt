use Rattle.std.proofs.Common.{rules, arith, ◌≡◌, ◌≤◌, ℕ, get_or, length}
use Rattle.gd_quat.specs.Formulas.{Ends, ends}
use Rattle.gd_zone.proofs.Outermost.{extremes-all, extremes-first, extremes-more, some-of}
use Rattle.gd_zone.proofs.Sizes.{lower-sized, upper-sized}
use Rattle.gd_zone.specs.Boxes.{placed_ends}
use Rattle.gd_zone.specs.Extremes.{ends_by}
use Rattle.gd_zone.proofs.extent.extremes_of.Goals as goal

pub loop-at-init : goal.loop-at-init
loop-at-init c =
    let f : ℕ → Ends = ends_by (placed_ends c.args.view.now.placed.now) c.args.view.now.base.now c.args.view.now.subject.now.condition c.args.view.now.subject.now.index.now.table.now.rows in
    let e : ends c.value-first.result ≡ f (get_or c.args.numbers.now 0 0) = search rules in
    record { extremes = extremes-first f c.args.numbers.now (ends c.value-first.result) e; least = c.value-first.ensures.size; greatest = c.value-first.ensures.size }

pub loop-at-preserved : goal.loop-at-preserved
loop-at-preserved c =
    let f : ℕ → Ends = ends_by (placed_ends c.args.view.now.placed.now) c.args.view.now.base.now c.args.view.now.subject.now.condition c.args.view.now.subject.now.index.now.table.now.rows in
    let e : ends c.value.result ≡ f (get_or c.args.numbers.now c.loop-at.at 0) = search rules in
    let so = c.loop-at.invariant in
    record {
      extremes = extremes-more f c.args.numbers.now c.loop-at.at (ends c.loop-at.found.least) (ends c.loop-at.found.greatest) (ends c.value.result) (ends c.with-found.result.least) (ends c.with-found.result.greatest)
          so.extremes e c.with-found.ensures.least c.with-found.ensures.greatest;
      least = lower-sized c.args.view.now.subject.now.condition.surface c.loop-at.found.least c.value.result c.with-found.result.least c.with-found.ensures.least so.least c.value.ensures.size;
      greatest = upper-sized c.args.view.now.subject.now.condition.surface c.loop-at.found.greatest c.value.result c.with-found.result.greatest c.with-found.ensures.greatest so.greatest c.value.ensures.size;
    }

pub returns-clause-some : goal.returns-clause-some
returns-clause-some c =
    let f : ℕ → Ends = ends_by (placed_ends c.args.view.now.placed.now) c.args.view.now.base.now c.args.view.now.subject.now.condition c.args.view.now.subject.now.index.now.table.now.rows in
    let some : 1 ≤ length c.args.numbers.now = some-of (length c.args.numbers.now) c.is_empty.result c.is_empty.ensures c.if-is_empty.false in
    let end : c.loop-at.at ≡ length c.args.numbers.now = omega (arith, c.loop-at-test.false, c.loop-at.auto.at-end, some) in
    extremes-all f c.args.numbers.now c.loop-at.at (ends c.loop-at.found.least) (ends c.loop-at.found.greatest) end c.loop-at.invariant.extremes
