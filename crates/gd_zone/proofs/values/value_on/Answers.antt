use Rattle.std.proofs.Common.{◌∙◌}
use Rattle.gd_quat.specs.Formulas.{vector_ends}
use Rattle.gd_zone.proofs.Shorts.{lens-value}
use Rattle.gd_zone.specs.Boxes.{placed_ends}
use Rattle.gd_zone.proofs.values.value_on.Goals as goal

pub returns-clause-ends : goal.returns-clause-ends
returns-clause-ends c =
    c.through.ensures.ends
    ∙ lens-value c.args.surface.now (placed_ends c.args.placed.now) c.args.offset c.args.v.now c.lens_by-lens.result (vector_ends c.from_surface.result) c.lens_by-lens.ensures c.from_surface.ensures.ends
