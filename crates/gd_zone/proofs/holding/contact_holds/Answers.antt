use Rattle.std.proofs.Common.{rules, arith, FitsSigned, ◌≡◌, ◌<◌, ◌∙◌, sym, subst, ap, ℕ, List, map, get_or, length, true, false}
use Rattle.std.proofs.lemmas.Int.{to_z-of_z}
use Rattle.std.specs.Int.{w64}
use Rattle.gd_points.specs.Index.{numbers_where}
use Rattle.gd_quat.specs.Formulas.{Ends, ends}
use Rattle.gd_zone.specs.Boxes.{placed_ends}
use Rattle.gd_zone.specs.Conditions.{is_of_feature, length2_of}
use Rattle.gd_zone.specs.Extremes.{ends_by}
use Rattle.gd_zone.specs.Tests.{is_at_most, surface_holds}
use Rattle.gd_zone.specs.declared.condition.Demand.TheVariants.{Contact}
use Rattle.gd_zone.specs.declared.condition.Surface.{Surface}
use Rattle.gd_zone.proofs.Outermost.{below-more}
use Rattle.gd_zone.proofs.Pairs.{contact-none, contact-some}
use Rattle.gd_zone.proofs.holding.contact_holds.Goals as goal

pub returns-then-touches : goal.returns-then-touches
returns-then-touches c =
    let f : ℕ → Ends = ends_by (placed_ends c.args.view.now.placed.now) c.args.view.now.base.now c.args.view.now.subject.now.condition c.args.view.now.subject.now.index.now.table.now.rows in
    let s : Surface = c.args.view.now.subject.now.condition.surface in
    let ms : List ℕ = numbers_where (is_of_feature c.args.view.now.subject.now.condition) c.args.view.now.subject.now.index.now.table.now.rows in
    let w : FitsSigned w64 c.args.hi = search rules in
    let e : ends c.value-value.result ≡ f (get_or c.points-group.result.now c.loop-at.at 0) = search rules in
    let t : c.touches.result ≡ is_at_most c.value-value.result.hi c.args.hi (length2_of s) = rw (to_z-of_z w64 c.args.hi w) at c.touches.ensures in
    let h : is_at_most (f (get_or c.points-group.result.now c.loop-at.at 0)).hi c.args.hi (length2_of s) ≡ true = sym (ap (λ (v : Ends). is_at_most v.hi c.args.hi (length2_of s)) e) ∙ sym t ∙ c.if-touches.true in
    subst (λ z. true ≡ surface_holds s (Contact c.args.hi) (map f z) (map f ms)) c.points-group.ensures.all
    (contact-some s c.args.hi c.requires.pair f c.points-group.result.now (map f ms) c.loop-at.at (omega (arith, c.loop-at-test.true)) h)

pub loop-at-preserved : goal.loop-at-preserved
loop-at-preserved c =
    let f : ℕ → Ends = ends_by (placed_ends c.args.view.now.placed.now) c.args.view.now.base.now c.args.view.now.subject.now.condition c.args.view.now.subject.now.index.now.table.now.rows in
    let s : Surface = c.args.view.now.subject.now.condition.surface in
    let w : FitsSigned w64 c.args.hi = search rules in
    let e : ends c.value-value.result ≡ f (get_or c.points-group.result.now c.loop-at.at 0) = search rules in
    let t : c.touches.result ≡ is_at_most c.value-value.result.hi c.args.hi (length2_of s) = rw (to_z-of_z w64 c.args.hi w) at c.touches.ensures in
    let h : is_at_most (f (get_or c.points-group.result.now c.loop-at.at 0)).hi c.args.hi (length2_of s) ≡ false = sym (ap (λ (v : Ends). is_at_most v.hi c.args.hi (length2_of s)) e) ∙ sym t ∙ c.if-touches.false in
    let before : (j : ℕ) → j < c.loop-at.at → is_at_most (f (get_or c.points-group.result.now j 0)).hi c.args.hi (length2_of s) ≡ false = rw (to_z-of_z w64 c.args.hi w) at c.loop-at.invariant.apart in
    record { apart = rw (to_z-of_z w64 c.args.hi w) (below-more (λ j. is_at_most (f (get_or c.points-group.result.now j 0)).hi c.args.hi (length2_of s) ≡ false) c.loop-at.at before h) }

pub returns : goal.returns
returns c =
    let f : ℕ → Ends = ends_by (placed_ends c.args.view.now.placed.now) c.args.view.now.base.now c.args.view.now.subject.now.condition c.args.view.now.subject.now.index.now.table.now.rows in
    let s : Surface = c.args.view.now.subject.now.condition.surface in
    let ms : List ℕ = numbers_where (is_of_feature c.args.view.now.subject.now.condition) c.args.view.now.subject.now.index.now.table.now.rows in
    let w : FitsSigned w64 c.args.hi = search rules in
    let before : (j : ℕ) → j < c.loop-at.at → is_at_most (f (get_or c.points-group.result.now j 0)).hi c.args.hi (length2_of s) ≡ false = rw (to_z-of_z w64 c.args.hi w) at c.loop-at.invariant.apart in
    let end : c.loop-at.at ≡ length c.points-group.result.now = omega (arith, c.loop-at-test.false, c.loop-at.auto.at-end) in
    subst (λ z. false ≡ surface_holds s (Contact c.args.hi) (map f z) (map f ms)) c.points-group.ensures.all
    (contact-none s c.args.hi c.requires.pair f c.points-group.result.now (map f ms) (λ j l. before j (omega (arith, l, end))))
