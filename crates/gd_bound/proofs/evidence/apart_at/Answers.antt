use Rattle.std.proofs.Common.{rules, FitsSigned, ◌≡◌, ◌∙◌, ◌-◌, ap, ℕ}
use Rattle.std.proofs.lemmas.Int.{to_z-of_z}
use Rattle.std.specs.Int.{w64}
use Rattle.gd_bound.specs.Evidence.{passes_by_more}
use Rattle.gd_quat.specs.Formulas.{Ends, ends}
use Rattle.gd_zone.specs.Boxes.{placed_ends}
use Rattle.gd_zone.specs.Extremes.{ends_by}
use Rattle.gd_zone.specs.declared.condition.Surface.{Surface}
use Rattle.gd_bound.proofs.evidence.apart_at.Goals as goal

pub returns : goal.returns
returns c =
    let f : ℕ → Ends = ends_by (placed_ends c.args.view.now.placed.now) c.args.view.now.base.now c.args.view.now.subject.now.condition c.args.view.now.subject.now.index.now.table.now.rows in
    let s : Surface = c.args.view.now.subject.now.condition.surface in
    let w : FitsSigned w64 c.args.t = search rules in
    let u : ends c.value.result ≡ f (c.args.a - 1) = search rules in
    let v : ends c.value-2.result ≡ f (c.args.b - 1) = search rules in
    let e : c.passes_by_more.result ≡ passes_by_more s c.args.t (ends c.value.result) (ends c.value-2.result) = rw (to_z-of_z w64 c.args.t w) at c.passes_by_more.ensures in
    e ∙ ap (λ z. passes_by_more s c.args.t z (ends c.value-2.result)) u ∙ ap (λ z. passes_by_more s c.args.t (f (c.args.a - 1)) z) v
