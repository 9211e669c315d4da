use Rattle.std.proofs.Common.{rules, FitsSigned, ◌≡◌, ◌∙◌, sym, subst, ap, ℕ, List, [], map}
use Rattle.std.proofs.lemmas.Int.{to_z-of_z}
use Rattle.std.specs.Int.{w64, w128}
use Rattle.std.specs.Prelude.{find, int_le}
use Rattle.gd_bound.proofs.Chosen as chosen
use Rattle.gd_bound.proofs.Highest.{first-high-is, first-low-is, signs}
use Rattle.gd_bound.specs.Evidence.{first_highest, first_lowest, high_end, low_end, passes_by_more, point_number}
use Rattle.gd_bound.specs.Thresholds.{high_threshold, low_threshold}
use Rattle.gd_points.specs.Index.{numbers_where}
use Rattle.gd_quat.specs.Formulas.{Ends, ends}
use Rattle.gd_zone.specs.Boxes.{placed_ends}
use Rattle.gd_zone.specs.Conditions.{belongs, is_of_feature}
use Rattle.gd_zone.specs.Extremes.{AreExtremes, ends_by}
use Rattle.gd_zone.specs.declared.condition.Surface.{Surface}
use Rattle.gd_bound.proofs.finding.spread_pair.Goals as goal

pub returns-in-None : goal.returns-in-None
returns-in-None c =
    let f : ℕ → Ends = ends_by (placed_ends c.args.view.now.placed.now) c.args.view.now.base.now c.args.view.now.subject.now.condition c.args.view.now.subject.now.index.now.table.now.rows in
    let s : Surface = c.args.view.now.subject.now.condition.surface in
    let ns : List ℕ = numbers_where (belongs c.args.view.now.subject.now.condition) c.args.view.now.subject.now.index.now.table.now.rows in
    let ms : List ℕ = numbers_where (is_of_feature c.args.view.now.subject.now.condition) c.args.view.now.subject.now.index.now.table.now.rows in
    let n : c.points-numbers.result.now ≡ [] = search rules in
    chosen.spread-empty s f ns ms c.args.t (sym c.points-numbers.ensures.all ∙ n)

pub returns-then-passes_by_more : goal.returns-then-passes_by_more
returns-then-passes_by_more c =
    let f : ℕ → Ends = ends_by (placed_ends c.args.view.now.placed.now) c.args.view.now.base.now c.args.view.now.subject.now.condition c.args.view.now.subject.now.index.now.table.now.rows in
    let s : Surface = c.args.view.now.subject.now.condition.surface in
    let ns : List ℕ = numbers_where (belongs c.args.view.now.subject.now.condition) c.args.view.now.subject.now.index.now.table.now.rows in
    let ms : List ℕ = numbers_where (is_of_feature c.args.view.now.subject.now.condition) c.args.view.now.subject.now.index.now.table.now.rows in
    let x = c.in-Some.x in
    let a : AreExtremes (map f ns) (ends x.least) (ends x.greatest) = subst (λ z. AreExtremes (map f z) (ends x.least) (ends x.greatest)) c.points-numbers.ensures.all c.in-Some.ensures.some in
    let w : FitsSigned w64 c.args.t = search rules in
    let e : c.passes_by_more.result ≡ passes_by_more s c.args.t (ends x.greatest) (ends x.least) = rw (to_z-of_z w64 c.args.t w) at c.passes_by_more.ensures in
    let u : FitsSigned w128 c.in-Some.x.greatest.lo = search rules in
    let p : FitsSigned w128 c.low_threshold.result = search rules in
    let t : c.low_threshold.result ≡ low_threshold s c.in-Some.x.greatest.lo = rw (to_z-of_z w128 c.in-Some.x.greatest.lo u) at c.low_threshold.ensures in
    let k : c.first_far.result ≡ point_number (find (λ i. int_le (low_threshold s c.in-Some.x.greatest.lo) (f i).lo) ns) = rw (to_z-of_z w128 c.low_threshold.result p, t, c.points-numbers.ensures.all) at c.first_far.ensures in
    let far : c.first_far.result ≡ point_number (first_highest (λ i. low_end s (f i).lo) ns) = k ∙ ap point_number (first-low-is s f ns c.in-Some.x.greatest.lo (signs c.args.view.now.placed.now c.args.view.now.base.now c.args.view.now.subject.now.condition c.args.view.now.subject.now.index.now.table.now.rows) a.greatest_lo) in
    let v : FitsSigned w128 c.in-Some.x.least.hi = search rules in
    let q : FitsSigned w128 c.high_threshold.result = search rules in
    let r : c.high_threshold.result ≡ high_threshold s c.in-Some.x.least.hi = rw (to_z-of_z w128 c.in-Some.x.least.hi v) at c.high_threshold.ensures in
    let l : c.first_near.result ≡ point_number (find (λ i. int_le (f i).hi (high_threshold s c.in-Some.x.least.hi)) ns) = rw (to_z-of_z w128 c.high_threshold.result q, r, c.points-numbers.ensures.all) at c.first_near.ensures in
    let near : c.first_near.result ≡ point_number (first_lowest (λ i. high_end s (f i).hi) ns) = l ∙ ap point_number (first-high-is s f ns c.in-Some.x.least.hi a.least_hi) in
    chosen.spread-then s f ns ms c.args.t (ends x.least) (ends x.greatest) c.first_far.result c.first_near.result a (sym e ∙ c.if-passes_by_more.true) far near

pub returns-else-passes_by_more : goal.returns-else-passes_by_more
returns-else-passes_by_more c =
    let f : ℕ → Ends = ends_by (placed_ends c.args.view.now.placed.now) c.args.view.now.base.now c.args.view.now.subject.now.condition c.args.view.now.subject.now.index.now.table.now.rows in
    let s : Surface = c.args.view.now.subject.now.condition.surface in
    let ns : List ℕ = numbers_where (belongs c.args.view.now.subject.now.condition) c.args.view.now.subject.now.index.now.table.now.rows in
    let ms : List ℕ = numbers_where (is_of_feature c.args.view.now.subject.now.condition) c.args.view.now.subject.now.index.now.table.now.rows in
    let x = c.in-Some.x in
    let a : AreExtremes (map f ns) (ends x.least) (ends x.greatest) = subst (λ z. AreExtremes (map f z) (ends x.least) (ends x.greatest)) c.points-numbers.ensures.all c.in-Some.ensures.some in
    let w : FitsSigned w64 c.args.t = search rules in
    let e : c.passes_by_more.result ≡ passes_by_more s c.args.t (ends x.greatest) (ends x.least) = rw (to_z-of_z w64 c.args.t w) at c.passes_by_more.ensures in
    chosen.spread-else s f ns ms c.args.t (ends x.least) (ends x.greatest) a (sym e ∙ c.if-passes_by_more.false)
