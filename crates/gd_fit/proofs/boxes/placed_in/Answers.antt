use Rattle.gd_fit.specs.Laws.Boxes.{placed_is}
use Rattle.gd_fit.proofs.boxes.placed_in.Goals as goal

pub returns-clause-ends : goal.returns-clause-ends
returns-clause-ends c =
    placed_is c.args.ranges.now c.args.cell.now c.cell_box-b.result c.matrix.result c.cell_box-b.ensures.ends
    c.matrix.ensures.ends
