use Rattle.std.proofs.Common.{rules, FitsSigned, ◌≡◌, ◌∙◌, sym, subst, ap, ℕ, List, [], map}
use Rattle.std.proofs.lemmas.Int.{to_z-of_z}
use Rattle.std.specs.Int.{w64, w128}
use Rattle.gd_points.specs.Index.{numbers_where}
use Rattle.gd_quat.specs.Formulas.{Ends, ends}
use Rattle.gd_zone.specs.Boxes.{placed_ends}
use Rattle.gd_zone.specs.Conditions.{belongs, is_of_feature, length2_of}
use Rattle.gd_zone.specs.Extremes.{AreExtremes, at_widest, ends_by}
use Rattle.gd_zone.specs.Tests.{is_at_most}
use Rattle.gd_zone.specs.declared.condition.Surface.{Surface}
use Rattle.gd_zone.proofs.Pairs.{inner-holds, inner-of-no-feature, inner-of-none}
use Rattle.gd_zone.proofs.holding.inner_holds.Goals as goal

pub returns-in-None-default : goal.returns-in-None-default
returns-in-None-default c =
    let f : ℕ → Ends = ends_by (placed_ends c.args.view.now.placed.now) c.args.view.now.base.now c.args.view.now.subject.now.condition c.args.view.now.subject.now.index.now.table.now.rows in
    let s : Surface = c.args.view.now.subject.now.condition.surface in
    let ns : List ℕ = numbers_where (belongs c.args.view.now.subject.now.condition) c.args.view.now.subject.now.index.now.table.now.rows in
    let ms : List ℕ = numbers_where (is_of_feature c.args.view.now.subject.now.condition) c.args.view.now.subject.now.index.now.table.now.rows in
    let n : c.points.result.now ≡ [] = search rules in
    inner-of-none s c.args.slack c.requires.pair (map f ns) (map f ms) (ap (map f) (sym c.points.ensures.all ∙ n))

pub returns-in-Some-None : goal.returns-in-Some-None
returns-in-Some-None c =
    let f : ℕ → Ends = ends_by (placed_ends c.args.view.now.placed.now) c.args.view.now.base.now c.args.view.now.subject.now.condition c.args.view.now.subject.now.index.now.table.now.rows in
    let s : Surface = c.args.view.now.subject.now.condition.surface in
    let ns : List ℕ = numbers_where (belongs c.args.view.now.subject.now.condition) c.args.view.now.subject.now.index.now.table.now.rows in
    let ms : List ℕ = numbers_where (is_of_feature c.args.view.now.subject.now.condition) c.args.view.now.subject.now.index.now.table.now.rows in
    let n : c.feature.result.now ≡ [] = search rules in
    let x = c.in-Some-None.field-0-0 in
    let h : AreExtremes (map f c.points.result.now) (ends x.least) (ends x.greatest) = rw c.in-Some-None.is-0 at c.extremes_of.ensures.some in
    let a : AreExtremes (map f ns) (ends x.least) (ends x.greatest) = subst (λ z. AreExtremes (map f z) (ends x.least) (ends x.greatest)) c.points.ensures.all h in
    inner-of-no-feature s c.args.slack c.requires.pair (map f ns) (map f ms) (ends x.least) (ends x.greatest) a (ap (map f) (sym c.feature.ensures.all ∙ n))

pub returns-in-Some-Some : goal.returns-in-Some-Some
returns-in-Some-Some c =
    let f : ℕ → Ends = ends_by (placed_ends c.args.view.now.placed.now) c.args.view.now.base.now c.args.view.now.subject.now.condition c.args.view.now.subject.now.index.now.table.now.rows in
    let s : Surface = c.args.view.now.subject.now.condition.surface in
    let ns : List ℕ = numbers_where (belongs c.args.view.now.subject.now.condition) c.args.view.now.subject.now.index.now.table.now.rows in
    let ms : List ℕ = numbers_where (is_of_feature c.args.view.now.subject.now.condition) c.args.view.now.subject.now.index.now.table.now.rows in
    let x = c.in-Some-Some.group in
    let y = c.in-Some-Some.all in
    let u : FitsSigned w128 c.in-Some-Some.group.least.hi = search rules in
    let v : FitsSigned w128 c.in-Some-Some.all.least.lo = search rules in
    let w : FitsSigned w64 c.args.slack = search rules in
    let e : c.passes_at_most.result ≡ is_at_most (at_widest s c.in-Some-Some.group.least.hi c.in-Some-Some.all.least.lo) c.args.slack (length2_of s) = rw (to_z-of_z w128 c.in-Some-Some.group.least.hi u, to_z-of_z w128 c.in-Some-Some.all.least.lo v, to_z-of_z w64 c.args.slack w) at c.passes_at_most.ensures in
    let h : AreExtremes (map f c.points.result.now) (ends x.least) (ends x.greatest) = rw c.in-Some-Some.is-0 at c.extremes_of.ensures.some in
    let k : AreExtremes (map f c.feature.result.now) (ends y.least) (ends y.greatest) = rw c.in-Some-Some.is-1 at c.extremes_of-2.ensures.some in
    let a : AreExtremes (map f ns) (ends x.least) (ends x.greatest) = subst (λ z. AreExtremes (map f z) (ends x.least) (ends x.greatest)) c.points.ensures.all h in
    let b : AreExtremes (map f ms) (ends y.least) (ends y.greatest) = subst (λ z. AreExtremes (map f z) (ends y.least) (ends y.greatest)) c.feature.ensures.all k in
    e ∙ inner-holds s c.args.slack c.requires.pair (map f ns) (map f ms) (ends x.least) (ends x.greatest) (ends y.least) (ends y.greatest) a b
