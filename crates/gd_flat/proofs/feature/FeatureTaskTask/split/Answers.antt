use Rattle.gd_cells.proofs.Cells.{index_below}
use Rattle.gd_dir.specs.Faces.{faces}
use Rattle.gd_flat.specs.Laws.Task.{faces_grid}
use Rattle.gd_flat.proofs.feature.FeatureTaskTask.split.Goals as goal

pub split_cell-requires-clause-index : goal.split_cell-requires-clause-index
split_cell-requires-clause-index c = index_below faces faces_grid c.args.cell.now c.requires.cell c.requires.above
