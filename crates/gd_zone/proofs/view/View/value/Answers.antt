use Rattle.std.proofs.Common.{◌∙◌}
use Rattle.gd_zone.proofs.Numbers.{ends-by-is}
use Rattle.gd_zone.proofs.Shorts.{lens-demanded}
use Rattle.gd_zone.specs.Boxes.{placed_ends}
use Rattle.gd_zone.specs.declared.condition.Condition.{Condition}
use Rattle.gd_zone.proofs.view.View.value.Goals as goal

pub returns-clause-ends : goal.returns-clause-ends
returns-clause-ends c =
    let k : Condition = c.args.self.now.subject.now.condition in
    let b = placed_ends c.args.self.now.placed.now in
    c.through.ensures.ends
    ∙ lens-demanded k.surface k.demand b k.offset c.from_base.result c.args.self.now.lens c.args.self.now.seen
    ∙ ends-by-is b c.args.self.now.base.now k c.args.self.now.subject.now.index.now.table.now.rows c.args.number c.from_base.result c.from_base.ensures.value
