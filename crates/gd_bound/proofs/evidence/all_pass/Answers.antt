use Rattle.std.proofs.Common.{rules, FitsSigned, ◌≡◌, ◌∙◌, ◌-◌, ap, ℕ, List, map}
use Rattle.std.proofs.lemmas.Int.{to_z-of_z}
use Rattle.std.specs.Int.{w64}
use Rattle.std.specs.List.{list_all}
use Rattle.gd_bound.specs.Evidence.{passes_by_more}
use Rattle.gd_points.specs.Index.{numbers_where}
use Rattle.gd_quat.specs.Formulas.{Ends, ends}
use Rattle.gd_zone.specs.Boxes.{placed_ends}
use Rattle.gd_zone.specs.Conditions.{belongs}
use Rattle.gd_zone.specs.Extremes.{ends_by}
use Rattle.gd_zone.specs.declared.condition.Surface.{Surface}
use Rattle.gd_bound.proofs.evidence.all_pass.Goals as goal

pub returns : goal.returns
returns c =
    let f : ℕ → Ends = ends_by (placed_ends c.args.view.now.placed.now) c.args.view.now.base.now c.args.view.now.subject.now.condition c.args.view.now.subject.now.index.now.table.now.rows in
    let s : Surface = c.args.view.now.subject.now.condition.surface in
    let ns : List ℕ = numbers_where (belongs c.args.view.now.subject.now.condition) c.args.view.now.subject.now.index.now.table.now.rows in
    let w : FitsSigned w64 c.args.slack = search rules in
    let v : ends c.value.result ≡ f (c.args.b - 1) = search rules in
    (rw (to_z-of_z w64 c.args.slack w) at c.group_exceeds.ensures) ∙ ap (λ z. list_all (λ v. passes_by_more s c.args.slack v z) (map f ns)) v
