use Rattle.gd_quat.proofs.Encloses.{holds-matrix}
use Rattle.gd_quat.proofs.Widths.{narrow-matrix}
use Rattle.gd_quat.proofs.matrices.matrix.Goals as goal

pub returns-clause-encloses : goal.returns-clause-encloses
returns-clause-encloses c = holds-matrix c.args.q.now c.entries.result c.requires c.entries.ensures.ends

pub returns-clause-width : goal.returns-clause-width
returns-clause-width c = narrow-matrix c.args.q.now c.entries.result c.requires c.entries.ensures.ends
