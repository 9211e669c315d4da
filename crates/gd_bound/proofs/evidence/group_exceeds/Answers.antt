use Rattle.std.proofs.Common.{rules, FitsSigned, ◌≡◌, ◌∙◌, subst, ℕ, List, map}
use Rattle.std.proofs.lemmas.Int.{to_z-of_z}
use Rattle.std.specs.Int.{w64}
use Rattle.gd_bound.proofs.Groups as groups
use Rattle.gd_bound.specs.Evidence.{passes_by_more}
use Rattle.gd_points.specs.Index.{numbers_where}
use Rattle.gd_quat.specs.Formulas.{Ends, ends}
use Rattle.gd_zone.specs.Boxes.{placed_ends}
use Rattle.gd_zone.specs.Conditions.{belongs}
use Rattle.gd_zone.specs.Extremes.{AreExtremes, ends_by}
use Rattle.gd_zone.specs.declared.condition.Surface.{Surface}
use Rattle.gd_bound.proofs.evidence.group_exceeds.Goals as goal

pub returns-in-Some : goal.returns-in-Some
returns-in-Some c =
    let f : ℕ → Ends = ends_by (placed_ends c.args.view.now.placed.now) c.args.view.now.base.now c.args.view.now.subject.now.condition c.args.view.now.subject.now.index.now.table.now.rows in
    let s : Surface = c.args.view.now.subject.now.condition.surface in
    let ns : List ℕ = numbers_where (belongs c.args.view.now.subject.now.condition) c.args.view.now.subject.now.index.now.table.now.rows in
    let x = c.in-Some.x in
    let a : AreExtremes (map f ns) (ends x.least) (ends x.greatest) = subst (λ z. AreExtremes (map f z) (ends x.least) (ends x.greatest)) c.points.ensures.all c.in-Some.ensures.some in
    let w : FitsSigned w64 c.args.slack = search rules in
    let e : c.passes_by_more.result ≡ passes_by_more s c.args.slack (ends x.least) (ends c.args.value) = rw (to_z-of_z w64 c.args.slack w) at c.passes_by_more.ensures in
    e ∙ groups.all-pass s c.args.slack (ends c.args.value) (map f ns) (ends x.least) (ends x.greatest) a
