use Rattle.std.proofs.Common.{rules, FitsSigned, ◌≡◌, ◌∙◌, sym, ℕ, List, map}
use Rattle.std.proofs.lemmas.Int.{to_z-of_z}
use Rattle.std.specs.Int.{w64}
use Rattle.std.specs.List.{list_all}
use Rattle.gd_bound.proofs.Chosen as chosen
use Rattle.gd_points.specs.Index.{numbers_where}
use Rattle.gd_quat.specs.Formulas.{Ends}
use Rattle.gd_zone.specs.Boxes.{placed_ends}
use Rattle.gd_zone.specs.Conditions.{belongs, is_of_feature, length2_of}
use Rattle.gd_zone.specs.Extremes.{ends_by}
use Rattle.gd_zone.specs.Refutations.{is_more}
use Rattle.gd_zone.specs.declared.condition.Surface.{Surface}
use Rattle.gd_bound.proofs.finding.contact_pair.Goals as goal

pub returns-then-all_above : goal.returns-then-all_above
returns-then-all_above c =
    let f : ℕ → Ends = ends_by (placed_ends c.args.view.now.placed.now) c.args.view.now.base.now c.args.view.now.subject.now.condition c.args.view.now.subject.now.index.now.table.now.rows in
    let s : Surface = c.args.view.now.subject.now.condition.surface in
    let ns : List ℕ = numbers_where (belongs c.args.view.now.subject.now.condition) c.args.view.now.subject.now.index.now.table.now.rows in
    let ms : List ℕ = numbers_where (is_of_feature c.args.view.now.subject.now.condition) c.args.view.now.subject.now.index.now.table.now.rows in
    let w : FitsSigned w64 c.args.hi = search rules in
    let e : c.all_above.result ≡ list_all (λ v. is_more v.lo c.args.hi (length2_of s)) (map f ns) = rw (to_z-of_z w64 c.args.hi w) at c.all_above.ensures in
    chosen.contact-then s f ns ms c.args.hi c.requires.pair (sym e ∙ c.if-all_above.true)

pub returns-else-all_above : goal.returns-else-all_above
returns-else-all_above c =
    let f : ℕ → Ends = ends_by (placed_ends c.args.view.now.placed.now) c.args.view.now.base.now c.args.view.now.subject.now.condition c.args.view.now.subject.now.index.now.table.now.rows in
    let s : Surface = c.args.view.now.subject.now.condition.surface in
    let ns : List ℕ = numbers_where (belongs c.args.view.now.subject.now.condition) c.args.view.now.subject.now.index.now.table.now.rows in
    let ms : List ℕ = numbers_where (is_of_feature c.args.view.now.subject.now.condition) c.args.view.now.subject.now.index.now.table.now.rows in
    let w : FitsSigned w64 c.args.hi = search rules in
    let e : c.all_above.result ≡ list_all (λ v. is_more v.lo c.args.hi (length2_of s)) (map f ns) = rw (to_z-of_z w64 c.args.hi w) at c.all_above.ensures in
    chosen.contact-else s f ns ms c.args.hi c.requires.pair (sym e ∙ c.if-all_above.false)
