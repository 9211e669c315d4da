use Rattle.std.proofs.Common.{rules, arith, FitsSigned, ◌≡◌, ◌<◌, ◌∙◌, sym, subst, ap, ℕ, map, get_or, length, true, false}
use Rattle.std.proofs.lemmas.Int.{to_z-of_z}
use Rattle.std.specs.Int.{w64}
use Rattle.std.specs.List.{list_all}
use Rattle.gd_bound.proofs.Groups.{above-all, above-not}
use Rattle.gd_quat.specs.Formulas.{Ends, ends}
use Rattle.gd_zone.proofs.Outermost.{below-more}
use Rattle.gd_zone.specs.Boxes.{placed_ends}
use Rattle.gd_zone.specs.Conditions.{length2_of}
use Rattle.gd_zone.specs.Extremes.{ends_by}
use Rattle.gd_zone.specs.Refutations.{is_more}
use Rattle.gd_zone.specs.declared.condition.Surface.{Surface}
use Rattle.gd_bound.proofs.evidence.all_above.Goals as goal

pub returns-then-not-lies_above : goal.returns-then-not-lies_above
returns-then-not-lies_above c =
    let f : ℕ → Ends = ends_by (placed_ends c.args.view.now.placed.now) c.args.view.now.base.now c.args.view.now.subject.now.condition c.args.view.now.subject.now.index.now.table.now.rows in
    let s : Surface = c.args.view.now.subject.now.condition.surface in
    let w : FitsSigned w64 c.args.hi = search rules in
    let e : ends c.value-value.result ≡ f (get_or c.points-group.result.now c.loop-at.at 0) = search rules in
    let t : c.lies_above.result ≡ is_more c.value-value.result.lo c.args.hi (length2_of s) = rw (to_z-of_z w64 c.args.hi w) at c.lies_above.ensures in
    let h : is_more (f (get_or c.points-group.result.now c.loop-at.at 0)).lo c.args.hi (length2_of s) ≡ false = sym (ap (λ (v : Ends). is_more v.lo c.args.hi (length2_of s)) e) ∙ sym t ∙ c.if-not-lies_above.true in
    subst (λ z. false ≡ list_all (λ (v : Ends). is_more v.lo c.args.hi (length2_of s)) (map f z)) c.points-group.ensures.all
    (above-not c.args.hi (length2_of s) f c.points-group.result.now c.loop-at.at (omega (arith, c.loop-at-test.true)) h)

pub loop-at-preserved : goal.loop-at-preserved
loop-at-preserved c =
    let f : ℕ → Ends = ends_by (placed_ends c.args.view.now.placed.now) c.args.view.now.base.now c.args.view.now.subject.now.condition c.args.view.now.subject.now.index.now.table.now.rows in
    let s : Surface = c.args.view.now.subject.now.condition.surface in
    let w : FitsSigned w64 c.args.hi = search rules in
    let e : ends c.value-value.result ≡ f (get_or c.points-group.result.now c.loop-at.at 0) = search rules in
    let t : c.lies_above.result ≡ is_more c.value-value.result.lo c.args.hi (length2_of s) = rw (to_z-of_z w64 c.args.hi w) at c.lies_above.ensures in
    let h : is_more (f (get_or c.points-group.result.now c.loop-at.at 0)).lo c.args.hi (length2_of s) ≡ true = sym (ap (λ (v : Ends). is_more v.lo c.args.hi (length2_of s)) e) ∙ sym t ∙ c.if-not-lies_above.false in
    let before : (j : ℕ) → j < c.loop-at.at → is_more (f (get_or c.points-group.result.now j 0)).lo c.args.hi (length2_of s) ≡ true = rw (to_z-of_z w64 c.args.hi w) at c.loop-at.invariant.above in
    record { above = rw (to_z-of_z w64 c.args.hi w) (below-more (λ j. is_more (f (get_or c.points-group.result.now j 0)).lo c.args.hi (length2_of s) ≡ true) c.loop-at.at before h) }

pub returns : goal.returns
returns c =
    let f : ℕ → Ends = ends_by (placed_ends c.args.view.now.placed.now) c.args.view.now.base.now c.args.view.now.subject.now.condition c.args.view.now.subject.now.index.now.table.now.rows in
    let s : Surface = c.args.view.now.subject.now.condition.surface in
    let w : FitsSigned w64 c.args.hi = search rules in
    let before : (j : ℕ) → j < c.loop-at.at → is_more (f (get_or c.points-group.result.now j 0)).lo c.args.hi (length2_of s) ≡ true = rw (to_z-of_z w64 c.args.hi w) at c.loop-at.invariant.above in
    let end : c.loop-at.at ≡ length c.points-group.result.now = omega (arith, c.loop-at-test.false, c.loop-at.auto.at-end) in
    subst (λ z. true ≡ list_all (λ (v : Ends). is_more v.lo c.args.hi (length2_of s)) (map f z)) c.points-group.ensures.all
    (above-all c.args.hi (length2_of s) f c.points-group.result.now (λ j l. before j (omega (arith, l, end))))
