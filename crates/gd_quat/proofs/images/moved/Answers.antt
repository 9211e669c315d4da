use Rattle.gd_quat.proofs.Encloses.{holds-moved}
use Rattle.gd_quat.proofs.images.moved.Goals as goal

pub returns-clause-encloses : goal.returns-clause-encloses
returns-clause-encloses c = holds-moved c.args.a.now c.args.by.now c.shifted.result c.shifted.ensures
