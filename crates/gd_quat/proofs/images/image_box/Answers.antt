use Rattle.gd_quat.proofs.Encloses.{holds-images}
use Rattle.gd_quat.proofs.Grid.{grid-placement, holds-point}
use Rattle.gd_quat.specs.Placements.{placement_of}
use Rattle.gd_quat.proofs.images.image_box.Goals as goal

pub returns-clause-encloses : goal.returns-clause-encloses
returns-clause-encloses c =
    holds-images c.grid_box.result c.matrix-m.result c.args.v.now c.turned.result c.point_box.result c.moved.result c.matrix-m.ensures.encloses c.turned.ensures.encloses c.moved.ensures.ends
    (placement_of c.args.a.now) (grid-placement c.args.a.now) c.grid_box.ensures.holds (holds-point c.args.a.now.shift c.point_box.result c.point_box.ensures.ends)
