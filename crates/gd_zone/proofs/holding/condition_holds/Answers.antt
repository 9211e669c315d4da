use Rattle.std.proofs.Common.{◌≡◌, ◌∙◌, sym}
use Rattle.gd_zone.proofs.Meeting.{tests-are-sound}
use Rattle.gd_zone.proofs.Numbers.{holds-by-number}
use Rattle.gd_zone.specs.Boxes.{placed_ends}
use Rattle.gd_zone.specs.Seen.{subject_holds}
use Rattle.gd_zone.proofs.holding.condition_holds.Goals as goal

pub returns-clause-test : goal.returns-clause-test
returns-clause-test c =
    (rw (c.of.ensures.condition, c.of.ensures.index, c.of.ensures.base, c.of.ensures.placed) at c.demand_holds.ensures)
    ∙ holds-by-number (placed_ends c.args.placed.now) c.args.base.now c.args.subject.now.condition c.args.subject.now.index.now.table.now.rows

pub returns-clause-met : goal.returns-clause-met
returns-clause-met c =
    let e : c.demand_holds.result ≡ subject_holds (placed_ends c.args.placed.now) c.args.base.now c.args.subject.now =
    (rw (c.of.ensures.condition, c.of.ensures.index, c.of.ensures.base, c.of.ensures.placed) at c.demand_holds.ensures)
    ∙ holds-by-number (placed_ends c.args.placed.now) c.args.base.now c.args.subject.now.condition c.args.subject.now.index.now.table.now.rows in
    λ t p ok held. tests-are-sound c.args.placed.now p c.args.base.now c.args.subject.now.index.now.table.now.rows c.args.subject.now.condition ok held c.requires.condition (sym e ∙ t)
