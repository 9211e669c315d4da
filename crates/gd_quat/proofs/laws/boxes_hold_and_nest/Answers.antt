use Rattle.gd_quat.proofs.Encloses.{holds-images}
use Rattle.gd_quat.proofs.Inner.{matrices-nest, moved-nest, turned-nest}
use Rattle.gd_quat.proofs.laws.boxes_hold_and_nest.Goals as goal

pub returns : goal.returns
returns c = record { images = holds-images; matrices = matrices-nest; turned = turned-nest; moved = moved-nest }
