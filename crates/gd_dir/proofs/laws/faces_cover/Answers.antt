use Rattle.gd_dir.proofs.Halves.{boxes_nest, faces_cover, grid_has_face_cells, halves_cover}
use Rattle.gd_dir.proofs.laws.faces_cover.Goals as goal

pub returns-clause-cells : goal.returns-clause-cells
returns-clause-cells c = grid_has_face_cells

pub returns-clause-roots : goal.returns-clause-roots
returns-clause-roots c = faces_cover

pub returns-clause-halves : goal.returns-clause-halves
returns-clause-halves c = halves_cover

pub returns-clause-boxes : goal.returns-clause-boxes
returns-clause-boxes c = boxes_nest
