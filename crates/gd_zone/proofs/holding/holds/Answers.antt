use Rattle.std.proofs.Common.{◌∙◌, sym}
use Rattle.gd_zone.proofs.Placing.{all-met}
use Rattle.gd_zone.proofs.holding.holds.Goals as goal

pub returns-clause-met : goal.returns-clause-met
returns-clause-met c =
    λ t. all-met c.placed_at.result c.args.a.now c.args.base.now c.args.subjects.now c.placed_at.ensures.holds c.requires.conditions (sym c.all_hold.ensures ∙ t)
