use Rattle.std.proofs.Common.{arith, ℕ, List}
use Rattle.gd_bound.proofs.Chosen as chosen
use Rattle.gd_points.specs.Index.{numbers_where}
use Rattle.gd_quat.specs.Formulas.{Ends}
use Rattle.gd_zone.specs.Boxes.{placed_ends}
use Rattle.gd_zone.specs.Conditions.{belongs, is_of_feature}
use Rattle.gd_zone.specs.Extremes.{ends_by}
use Rattle.gd_zone.specs.declared.condition.Surface.{Surface}
use Rattle.gd_bound.proofs.finding.within_pair.Goals as goal

pub returns-then-a-eq0 : goal.returns-then-a-eq0
returns-then-a-eq0 c =
    let f : ℕ → Ends = ends_by (placed_ends c.args.view.now.placed.now) c.args.view.now.base.now c.args.view.now.subject.now.condition c.args.view.now.subject.now.index.now.table.now.rows in
    let s : Surface = c.args.view.now.subject.now.condition.surface in
    let ns : List ℕ = numbers_where (belongs c.args.view.now.subject.now.condition) c.args.view.now.subject.now.index.now.table.now.rows in
    let ms : List ℕ = numbers_where (is_of_feature c.args.view.now.subject.now.condition) c.args.view.now.subject.now.index.now.table.now.rows in
    chosen.within-none s f ns ms c.args.lo c.args.hi c.first_outside-a.result c.first_outside-a.ensures (omega (arith, c.if-a-eq0.true))

pub returns-else-a-eq0 : goal.returns-else-a-eq0
returns-else-a-eq0 c =
    let f : ℕ → Ends = ends_by (placed_ends c.args.view.now.placed.now) c.args.view.now.base.now c.args.view.now.subject.now.condition c.args.view.now.subject.now.index.now.table.now.rows in
    let s : Surface = c.args.view.now.subject.now.condition.surface in
    let ns : List ℕ = numbers_where (belongs c.args.view.now.subject.now.condition) c.args.view.now.subject.now.index.now.table.now.rows in
    let ms : List ℕ = numbers_where (is_of_feature c.args.view.now.subject.now.condition) c.args.view.now.subject.now.index.now.table.now.rows in
    chosen.within-some s f ns ms c.args.lo c.args.hi c.first_outside-a.result c.first_outside-a.ensures (λ z. absurd (omega (arith, c.if-a-eq0.false, z)))
