use Rattle.gd_zone.proofs.Encloses.{encloses-value}
use Rattle.gd_zone.proofs.values.value.Goals as goal

pub returns-clause-encloses : goal.returns-clause-encloses
returns-clause-encloses c = encloses-value c.args.surface.now c.args.placed.now c.args.offset c.args.v.now c.value_on.result c.value_on.ensures.ends
