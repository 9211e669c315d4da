use Rattle.std.proofs.Common.{◌≡◌, ◌∙◌, sym}
use Rattle.gd_bound.proofs.Firsts.{refuted-by}
use Rattle.gd_bound.proofs.Refuting.{refuted-is-empty}
use Rattle.gd_bound.specs.Evidence.{refuted_at}
use Rattle.gd_zone.specs.Boxes.{placed_ends}
use Rattle.gd_bound.proofs.evidence.bound_at.Goals as goal

pub returns-clause-test : goal.returns-clause-test
returns-clause-test c =
    (rw (c.of-view.ensures.condition, c.of-view.ensures.index, c.of-view.ensures.base, c.of-view.ensures.placed) at c.pair_refutes.ensures)
    ∙ sym (refuted-by (placed_ends c.args.placed.now) c.args.base.now c.args.subject.now.index.now.table.now.rows c.args.subject.now.condition c.args.evidence.now)

pub returns-clause-unmet : goal.returns-clause-unmet
returns-clause-unmet c =
    let e : c.pair_refutes.result ≡ refuted_at (placed_ends c.args.placed.now) c.args.base.now c.args.subject.now.index.now.table.now.rows c.args.subject.now.condition c.args.evidence.now =
    (rw (c.of-view.ensures.condition, c.of-view.ensures.index, c.of-view.ensures.base, c.of-view.ensures.placed) at c.pair_refutes.ensures)
    ∙ sym (refuted-by (placed_ends c.args.placed.now) c.args.base.now c.args.subject.now.index.now.table.now.rows c.args.subject.now.condition c.args.evidence.now) in
    λ t. refuted-is-empty c.args.placed.now c.args.base.now c.args.subject.now.index.now.table.now.rows c.args.subject.now.condition c.args.evidence.now c.requires.condition (sym e ∙ t)
