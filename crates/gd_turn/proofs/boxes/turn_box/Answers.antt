use Rattle.gd_grid.proofs.Steps.{cell_root}
use Rattle.gd_turn.specs.Ranges.{cells_of}
use Rattle.gd_turn.proofs.boxes.turn_box.Goals as goal

pub face_of-requires : goal.face_of-requires
face_of-requires c = (cell_root (cells_of c.args.r.now) c.args.c.now c.requires.cell).0
