use Rattle.gd_quat.proofs.Encloses.{holds-turned}
use Rattle.gd_quat.proofs.Sizes.{small-turned}
use Rattle.gd_quat.proofs.Widths.{narrow-turned}
use Rattle.gd_quat.proofs.images.turned.Goals as goal

pub returns-clause-encloses : goal.returns-clause-encloses
returns-clause-encloses c = holds-turned c.args.m.now c.args.v.now c.rows.result c.rows.ensures.ends

pub returns-clause-width : goal.returns-clause-width
returns-clause-width c = narrow-turned c.args.m.now c.args.v.now c.rows.result c.rows.ensures.ends

pub returns-clause-small : goal.returns-clause-small
returns-clause-small c = small-turned c.args.m.now c.args.v.now c.rows.result c.rows.ensures.ends
