use Rattle.gd_dir.proofs.Halves.{grid_has_face_cells}
use Rattle.gd_flat.proofs.feature.FeatureTaskTask.centre.Goals as goal

pub centre_of-first-requires : goal.centre_of-first-requires
centre_of-first-requires c = record { cell = grid_has_face_cells c.args.cell.now c.requires }
