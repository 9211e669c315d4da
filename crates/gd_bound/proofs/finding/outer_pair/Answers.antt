use Rattle.std.proofs.Common.{rules, FitsSigned, ◌≡◌, ◌∙◌, sym, subst, ap, ℕ, List, [], map}
use Rattle.std.proofs.lemmas.Int.{to_z-of_z}
use Rattle.std.specs.Int.{w64, w128}
use Rattle.std.specs.List.{list_all}
use Rattle.std.specs.Prelude.{find, int_le}
use Rattle.gd_bound.proofs.Chosen as chosen
use Rattle.gd_bound.proofs.Highest.{first-low-is, signs}
use Rattle.gd_bound.specs.Evidence.{first_highest, low_end, passes_by_more, point_number}
use Rattle.gd_bound.specs.Thresholds.{low_threshold}
use Rattle.gd_points.specs.Index.{numbers_where}
use Rattle.gd_quat.specs.Formulas.{Ends, ends}
use Rattle.gd_zone.specs.Boxes.{placed_ends}
use Rattle.gd_zone.specs.Conditions.{belongs, is_of_feature}
use Rattle.gd_zone.specs.Extremes.{AreExtremes, ends_by}
use Rattle.gd_zone.specs.declared.condition.Surface.{Surface}
use Rattle.gd_bound.proofs.finding.outer_pair.Goals as goal

pub returns-in-None : goal.returns-in-None
returns-in-None c =
    let f : ℕ → Ends = ends_by (placed_ends c.args.view.now.placed.now) c.args.view.now.base.now c.args.view.now.subject.now.condition c.args.view.now.subject.now.index.now.table.now.rows in
    let s : Surface = c.args.view.now.subject.now.condition.surface in
    let ns : List ℕ = numbers_where (belongs c.args.view.now.subject.now.condition) c.args.view.now.subject.now.index.now.table.now.rows in
    let ms : List ℕ = numbers_where (is_of_feature c.args.view.now.subject.now.condition) c.args.view.now.subject.now.index.now.table.now.rows in
    let n : c.feature-numbers.result.now ≡ [] = search rules in
    chosen.outer-empty s f ns ms c.args.slack c.requires.pair (sym c.feature-numbers.ensures.all ∙ n)

pub returns-then-exceeds_group : goal.returns-then-exceeds_group
returns-then-exceeds_group c =
    let f : ℕ → Ends = ends_by (placed_ends c.args.view.now.placed.now) c.args.view.now.base.now c.args.view.now.subject.now.condition c.args.view.now.subject.now.index.now.table.now.rows in
    let s : Surface = c.args.view.now.subject.now.condition.surface in
    let ns : List ℕ = numbers_where (belongs c.args.view.now.subject.now.condition) c.args.view.now.subject.now.index.now.table.now.rows in
    let ms : List ℕ = numbers_where (is_of_feature c.args.view.now.subject.now.condition) c.args.view.now.subject.now.index.now.table.now.rows in
    let x = c.in-Some.x in
    let a : AreExtremes (map f ms) (ends x.least) (ends x.greatest) = subst (λ z. AreExtremes (map f z) (ends x.least) (ends x.greatest)) c.feature-numbers.ensures.all c.in-Some.ensures.some in
    let w : FitsSigned w64 c.args.slack = search rules in
    let e : c.exceeds_group.result ≡ list_all (λ v. passes_by_more s c.args.slack (ends x.greatest) v) (map f ns) = rw (to_z-of_z w64 c.args.slack w) at c.exceeds_group.ensures in
    let u : FitsSigned w128 c.in-Some.x.greatest.lo = search rules in
    let p : FitsSigned w128 c.low_threshold.result = search rules in
    let t : c.low_threshold.result ≡ low_threshold s c.in-Some.x.greatest.lo = rw (to_z-of_z w128 c.in-Some.x.greatest.lo u) at c.low_threshold.ensures in
    let k : c.first_far.result ≡ point_number (find (λ i. int_le (low_threshold s c.in-Some.x.greatest.lo) (f i).lo) ms) = rw (to_z-of_z w128 c.low_threshold.result p, t, c.feature-numbers.ensures.all) at c.first_far.ensures in
    let far : c.first_far.result ≡ point_number (first_highest (λ i. low_end s (f i).lo) ms) = k ∙ ap point_number (first-low-is s f ms c.in-Some.x.greatest.lo (signs c.args.view.now.placed.now c.args.view.now.base.now c.args.view.now.subject.now.condition c.args.view.now.subject.now.index.now.table.now.rows) a.greatest_lo) in
    chosen.outer-then s f ns ms c.args.slack c.requires.pair (ends x.least) (ends x.greatest) c.first_far.result a (sym e ∙ c.if-exceeds_group.true) far

pub returns-else-exceeds_group : goal.returns-else-exceeds_group
returns-else-exceeds_group c =
    let f : ℕ → Ends = ends_by (placed_ends c.args.view.now.placed.now) c.args.view.now.base.now c.args.view.now.subject.now.condition c.args.view.now.subject.now.index.now.table.now.rows in
    let s : Surface = c.args.view.now.subject.now.condition.surface in
    let ns : List ℕ = numbers_where (belongs c.args.view.now.subject.now.condition) c.args.view.now.subject.now.index.now.table.now.rows in
    let ms : List ℕ = numbers_where (is_of_feature c.args.view.now.subject.now.condition) c.args.view.now.subject.now.index.now.table.now.rows in
    let x = c.in-Some.x in
    let a : AreExtremes (map f ms) (ends x.least) (ends x.greatest) = subst (λ z. AreExtremes (map f z) (ends x.least) (ends x.greatest)) c.feature-numbers.ensures.all c.in-Some.ensures.some in
    let w : FitsSigned w64 c.args.slack = search rules in
    let e : c.exceeds_group.result ≡ list_all (λ v. passes_by_more s c.args.slack (ends x.greatest) v) (map f ns) = rw (to_z-of_z w64 c.args.slack w) at c.exceeds_group.ensures in
    chosen.outer-else s f ns ms c.args.slack c.requires.pair (ends x.least) (ends x.greatest) a (sym e ∙ c.if-exceeds_group.false)
