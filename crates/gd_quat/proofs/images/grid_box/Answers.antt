use Rattle.gd_quat.proofs.Grid.{holds-grid}
use Rattle.gd_quat.proofs.images.grid_box.Goals as goal

pub returns-clause-holds : goal.returns-clause-holds
returns-clause-holds c = holds-grid c.args.a.now.face c.args.a.now.ratios c.box_at.result c.box_at.ensures.ends
