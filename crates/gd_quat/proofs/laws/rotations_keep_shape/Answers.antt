use Rattle.gd_quat.proofs.Rigid.{keeps-products, keeps-rows, keeps-hand}
use Rattle.gd_quat.proofs.laws.rotations_keep_shape.Goals as goal

pub returns : goal.returns
returns c = record { products = keeps-products; rows = keeps-rows; hand = keeps-hand }
