use Rattle.gd_quat.proofs.Grid.{grid-rotation, holds-point}
use Rattle.gd_quat.specs.Placements.{rotation_at}
use Rattle.gd_zone.proofs.placed.placed_at.Goals as goal

pub returns-clause-holds : goal.returns-clause-holds
returns-clause-holds c = record {
  matrix = c.matrix.ensures.encloses (rotation_at c.args.a.now.face c.args.a.now.ratios) (grid-rotation c.args.a.now.face c.args.a.now.ratios) c.grid_box.ensures.holds;
  shift = holds-point c.args.a.now.shift c.point_box.result c.point_box.ensures.ends;
  first = holds-point c.args.a.now.first c.point_box-2.result c.point_box-2.ensures.ends;
  second = holds-point c.args.a.now.second c.point_box-3.result c.point_box-3.ensures.ends;
}
