use Rattle.std.proofs.Common.{rules, arith, ◌≡◌, ◌∙◌, sym, subst, ap, ℕ, List, map, get_or, length, true, false}
use Rattle.gd_points.specs.Index.{numbers_where}
use Rattle.gd_quat.specs.Formulas.{Ends, ends}
use Rattle.gd_zone.specs.Boxes.{placed_ends}
use Rattle.gd_zone.specs.Conditions.{belongs, is_of_feature}
use Rattle.gd_zone.specs.Extremes.{ends_by, value_within}
use Rattle.gd_zone.specs.Tests.{surface_holds}
use Rattle.gd_zone.specs.declared.condition.Demand.TheVariants.{Within}
use Rattle.gd_zone.specs.declared.condition.Surface.{Surface}
use Rattle.gd_zone.proofs.Outermost.{below-more}
use Rattle.gd_zone.proofs.Pairs.{within-all, within-not}
use Rattle.gd_zone.proofs.holding.all_within.Goals as goal

pub returns-then-not-is_within : goal.returns-then-not-is_within
returns-then-not-is_within c =
    let f : ℕ → Ends = ends_by (placed_ends c.args.view.now.placed.now) c.args.view.now.base.now c.args.view.now.subject.now.condition c.args.view.now.subject.now.index.now.table.now.rows in
    let s : Surface = c.args.view.now.subject.now.condition.surface in
    let ns : List ℕ = numbers_where (belongs c.args.view.now.subject.now.condition) c.args.view.now.subject.now.index.now.table.now.rows in
    let ms : List ℕ = numbers_where (is_of_feature c.args.view.now.subject.now.condition) c.args.view.now.subject.now.index.now.table.now.rows in
    let e : ends c.value-value.result ≡ f (get_or c.points-numbers.result.now c.loop-at.at 0) = search rules in
    let h : value_within s c.args.lo c.args.hi (f (get_or c.points-numbers.result.now c.loop-at.at 0)) ≡ false = sym (ap (value_within s c.args.lo c.args.hi) e) ∙ sym c.is_within.ensures ∙ c.if-not-is_within.true in
    subst (λ z. false ≡ surface_holds s (Within c.args.lo c.args.hi) (map f z) (map f ms)) c.points-numbers.ensures.all
    (within-not s c.args.lo c.args.hi f c.points-numbers.result.now (map f ms) c.loop-at.at (omega (arith, c.loop-at-test.true)) h)

pub loop-at-preserved : goal.loop-at-preserved
loop-at-preserved c =
    let f : ℕ → Ends = ends_by (placed_ends c.args.view.now.placed.now) c.args.view.now.base.now c.args.view.now.subject.now.condition c.args.view.now.subject.now.index.now.table.now.rows in
    let s : Surface = c.args.view.now.subject.now.condition.surface in
    let ns : List ℕ = numbers_where (belongs c.args.view.now.subject.now.condition) c.args.view.now.subject.now.index.now.table.now.rows in
    let ms : List ℕ = numbers_where (is_of_feature c.args.view.now.subject.now.condition) c.args.view.now.subject.now.index.now.table.now.rows in
    let e : ends c.value-value.result ≡ f (get_or c.points-numbers.result.now c.loop-at.at 0) = search rules in
    let h : value_within s c.args.lo c.args.hi (f (get_or c.points-numbers.result.now c.loop-at.at 0)) ≡ true = sym (ap (value_within s c.args.lo c.args.hi) e) ∙ sym c.is_within.ensures ∙ c.if-not-is_within.false in
    record { within = below-more (λ j. value_within s c.args.lo c.args.hi (f (get_or c.points-numbers.result.now j 0)) ≡ true) c.loop-at.at c.loop-at.invariant.within h }

pub returns : goal.returns
returns c =
    let f : ℕ → Ends = ends_by (placed_ends c.args.view.now.placed.now) c.args.view.now.base.now c.args.view.now.subject.now.condition c.args.view.now.subject.now.index.now.table.now.rows in
    let s : Surface = c.args.view.now.subject.now.condition.surface in
    let ns : List ℕ = numbers_where (belongs c.args.view.now.subject.now.condition) c.args.view.now.subject.now.index.now.table.now.rows in
    let ms : List ℕ = numbers_where (is_of_feature c.args.view.now.subject.now.condition) c.args.view.now.subject.now.index.now.table.now.rows in
    let end : c.loop-at.at ≡ length c.points-numbers.result.now = omega (arith, c.loop-at-test.false, c.loop-at.auto.at-end) in
    subst (λ z. true ≡ surface_holds s (Within c.args.lo c.args.hi) (map f z) (map f ms)) c.points-numbers.ensures.all
    (within-all s c.args.lo c.args.hi f c.points-numbers.result.now (map f ms) (λ j l. c.loop-at.invariant.within j (omega (arith, l, end))))
