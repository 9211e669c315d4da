use Rattle.std.proofs.Common.{rules, FitsSigned, ◌∙◌, sym, ℕ, List, map}
use Rattle.std.proofs.lemmas.Int.{to_z-of_z}
use Rattle.std.specs.Int.{w64}
use Rattle.gd_bound.proofs.Groups.{contact-by, inner-by, outer-by, spread-by}
use Rattle.gd_points.specs.Index.{numbers_where}
use Rattle.gd_quat.specs.Formulas.{Ends}
use Rattle.gd_zone.specs.Boxes.{placed_ends}
use Rattle.gd_zone.specs.Conditions.{belongs}
use Rattle.gd_zone.specs.Extremes.{ends_by}
use Rattle.gd_bound.proofs.evidence.pair_refutes.Goals as goal

pub returns-then-are_none : goal.returns-then-are_none
returns-then-are_none c =
    let f : ℕ → Ends = ends_by (placed_ends c.args.view.now.placed.now) c.args.view.now.base.now c.args.view.now.subject.now.condition c.args.view.now.subject.now.index.now.table.now.rows in
    let ns : List ℕ = numbers_where (belongs c.args.view.now.subject.now.condition) c.args.view.now.subject.now.index.now.table.now.rows in
    let w : FitsSigned w64 c.in-Contact.hi = search rules in
    contact-by c.args.view.now.subject.now.condition c.args.view.now.subject.now.index.now.table.now.rows f (map f ns) c.args.a c.args.b c.all_above.result c.args.view.now.subject.now.condition.demand c.in-Contact.hi c.in-Contact.is (sym c.are_none.ensures ∙ c.if-are_none.true) (rw (to_z-of_z w64 c.in-Contact.hi w) at c.all_above.ensures)

pub returns-then-is_one_of_feature : goal.returns-then-is_one_of_feature
returns-then-is_one_of_feature c =
    let f : ℕ → Ends = ends_by (placed_ends c.args.view.now.placed.now) c.args.view.now.base.now c.args.view.now.subject.now.condition c.args.view.now.subject.now.index.now.table.now.rows in
    let ns : List ℕ = numbers_where (belongs c.args.view.now.subject.now.condition) c.args.view.now.subject.now.index.now.table.now.rows in
    let w : FitsSigned w64 c.in-HugInner.slack = search rules in
    inner-by c.args.view.now.subject.now.condition c.args.view.now.subject.now.index.now.table.now.rows f (map f ns) c.args.a c.args.b c.all_pass.result c.args.view.now.subject.now.condition.demand c.in-HugInner.slack c.in-HugInner.is (sym c.is_one_of_feature.ensures.named ∙ c.if-is_one_of_feature.true) (rw (to_z-of_z w64 c.in-HugInner.slack w) at c.all_pass.ensures)

pub returns-then-is_one_of_feature-2 : goal.returns-then-is_one_of_feature-2
returns-then-is_one_of_feature-2 c =
    let f : ℕ → Ends = ends_by (placed_ends c.args.view.now.placed.now) c.args.view.now.base.now c.args.view.now.subject.now.condition c.args.view.now.subject.now.index.now.table.now.rows in
    let ns : List ℕ = numbers_where (belongs c.args.view.now.subject.now.condition) c.args.view.now.subject.now.index.now.table.now.rows in
    let w : FitsSigned w64 c.in-HugOuter.slack = search rules in
    outer-by c.args.view.now.subject.now.condition c.args.view.now.subject.now.index.now.table.now.rows f (map f ns) c.args.a c.args.b c.passes_all.result c.args.view.now.subject.now.condition.demand c.in-HugOuter.slack c.in-HugOuter.is (sym c.is_one_of_feature-in-HugOuter.ensures.named ∙ c.if-is_one_of_feature-2.true) (rw (to_z-of_z w64 c.in-HugOuter.slack w) at c.passes_all.ensures)

pub returns-then-are_points : goal.returns-then-are_points
returns-then-are_points c =
    let f : ℕ → Ends = ends_by (placed_ends c.args.view.now.placed.now) c.args.view.now.base.now c.args.view.now.subject.now.condition c.args.view.now.subject.now.index.now.table.now.rows in
    let ns : List ℕ = numbers_where (belongs c.args.view.now.subject.now.condition) c.args.view.now.subject.now.index.now.table.now.rows in
    let w : FitsSigned w64 c.in-Spread.t = search rules in
    spread-by c.args.view.now.subject.now.condition c.args.view.now.subject.now.index.now.table.now.rows f (map f ns) c.args.a c.args.b c.apart_at.result c.args.view.now.subject.now.condition.demand c.in-Spread.t c.in-Spread.is (sym c.are_points.ensures.named ∙ c.if-are_points.true) (rw (to_z-of_z w64 c.in-Spread.t w) at c.apart_at.ensures)
