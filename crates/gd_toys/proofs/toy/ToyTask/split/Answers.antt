use Rattle.gd_cells.proofs.Cells.{index_below}
use Rattle.gd_toys.specs.ToyLaws.{toy_grid}
use Rattle.gd_toys.specs.Toys.{toy}
use Rattle.gd_toys.proofs.toy.ToyTask.split.Goals as goal

pub split_cell-requires-clause-index : goal.split_cell-requires-clause-index
split_cell-requires-clause-index g c =
    let t = c.args.self.now in
    index_below (toy t.shows t.depth t.least t.finest).grid (toy_grid t.shows t.depth t.least t.finest t.few) c.args.cell.now c.requires.cell c.requires.above
