use Rattle.std.proofs.Common.{rules, FitsSigned, ◌≡◌, ◌∙◌, sym, subst, ap, ℕ, List, [], map}
use Rattle.std.proofs.lemmas.Int.{to_z-of_z}
use Rattle.std.specs.Int.{w64, w128}
use Rattle.std.specs.List.{list_all}
use Rattle.std.specs.Prelude.{find, int_le}
use Rattle.gd_bound.proofs.Chosen as chosen
use Rattle.gd_bound.proofs.Highest.{first-high-is}
use Rattle.gd_bound.specs.Evidence.{first_lowest, high_end, passes_by_more, point_number}
use Rattle.gd_bound.specs.Thresholds.{high_threshold}
use Rattle.gd_points.specs.Index.{numbers_where}
use Rattle.gd_quat.specs.Formulas.{Ends, ends}
use Rattle.gd_zone.specs.Boxes.{placed_ends}
use Rattle.gd_zone.specs.Conditions.{belongs, is_of_feature}
use Rattle.gd_zone.specs.Extremes.{AreExtremes, ends_by}
use Rattle.gd_zone.specs.declared.condition.Surface.{Surface}
use Rattle.gd_bound.proofs.finding.inner_pair.Goals as goal

pub returns-in-None : goal.returns-in-None
returns-in-None c =
    let f : ℕ → Ends = ends_by (placed_ends c.args.view.now.placed.now) c.args.view.now.base.now c.args.view.now.subject.now.condition c.args.view.now.subject.now.index.now.table.now.rows in
    let s : Surface = c.args.view.now.subject.now.condition.surface in
    let ns : List ℕ = numbers_where (belongs c.args.view.now.subject.now.condition) c.args.view.now.subject.now.index.now.table.now.rows in
    let ms : List ℕ = numbers_where (is_of_feature c.args.view.now.subject.now.condition) c.args.view.now.subject.now.index.now.table.now.rows in
    let n : c.feature-numbers.result.now ≡ [] = search rules in
    chosen.inner-empty s f ns ms c.args.slack c.requires.pair (sym c.feature-numbers.ensures.all ∙ n)

pub returns-then-group_exceeds : goal.returns-then-group_exceeds
returns-then-group_exceeds c =
    let f : ℕ → Ends = ends_by (placed_ends c.args.view.now.placed.now) c.args.view.now.base.now c.args.view.now.subject.now.condition c.args.view.now.subject.now.index.now.table.now.rows in
    let s : Surface = c.args.view.now.subject.now.condition.surface in
    let ns : List ℕ = numbers_where (belongs c.args.view.now.subject.now.condition) c.args.view.now.subject.now.index.now.table.now.rows in
    let ms : List ℕ = numbers_where (is_of_feature c.args.view.now.subject.now.condition) c.args.view.now.subject.now.index.now.table.now.rows in
    let x = c.in-Some.x in
    let a : AreExtremes (map f ms) (ends x.least) (ends x.greatest) = subst (λ z. AreExtremes (map f z) (ends x.least) (ends x.greatest)) c.feature-numbers.ensures.all c.in-Some.ensures.some in
    let w : FitsSigned w64 c.args.slack = search rules in
    let e : c.group_exceeds.result ≡ list_all (λ v. passes_by_more s c.args.slack v (ends x.least)) (map f ns) = rw (to_z-of_z w64 c.args.slack w) at c.group_exceeds.ensures in
    let v : FitsSigned w128 c.in-Some.x.least.hi = search rules in
    let q : FitsSigned w128 c.high_threshold.result = search rules in
    let r : c.high_threshold.result ≡ high_threshold s c.in-Some.x.least.hi = rw (to_z-of_z w128 c.in-Some.x.least.hi v) at c.high_threshold.ensures in
    let l : c.first_near.result ≡ point_number (find (λ i. int_le (f i).hi (high_threshold s c.in-Some.x.least.hi)) ms) = rw (to_z-of_z w128 c.high_threshold.result q, r, c.feature-numbers.ensures.all) at c.first_near.ensures in
    let near : c.first_near.result ≡ point_number (first_lowest (λ i. high_end s (f i).hi) ms) = l ∙ ap point_number (first-high-is s f ms c.in-Some.x.least.hi a.least_hi) in
    chosen.inner-then s f ns ms c.args.slack c.requires.pair (ends x.least) (ends x.greatest) c.first_near.result a (sym e ∙ c.if-group_exceeds.true) near

pub returns-else-group_exceeds : goal.returns-else-group_exceeds
returns-else-group_exceeds c =
    let f : ℕ → Ends = ends_by (placed_ends c.args.view.now.placed.now) c.args.view.now.base.now c.args.view.now.subject.now.condition c.args.view.now.subject.now.index.now.table.now.rows in
    let s : Surface = c.args.view.now.subject.now.condition.surface in
    let ns : List ℕ = numbers_where (belongs c.args.view.now.subject.now.condition) c.args.view.now.subject.now.index.now.table.now.rows in
    let ms : List ℕ = numbers_where (is_of_feature c.args.view.now.subject.now.condition) c.args.view.now.subject.now.index.now.table.now.rows in
    let x = c.in-Some.x in
    let a : AreExtremes (map f ms) (ends x.least) (ends x.greatest) = subst (λ z. AreExtremes (map f z) (ends x.least) (ends x.greatest)) c.feature-numbers.ensures.all c.in-Some.ensures.some in
    let w : FitsSigned w64 c.args.slack = search rules in
    let e : c.group_exceeds.result ≡ list_all (λ v. passes_by_more s c.args.slack v (ends x.least)) (map f ns) = rw (to_z-of_z w64 c.args.slack w) at c.group_exceeds.ensures in
    chosen.inner-else s f ns ms c.args.slack c.requires.pair (ends x.least) (ends x.greatest) a (sym e ∙ c.if-group_exceeds.false)
