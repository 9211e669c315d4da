use Rattle.std.proofs.Common.{rules, ◌^◌}
use Rattle.gd_axis.proofs.SignProducts.{product-size}
use Rattle.gd_axis.proofs.product.product.Goals as goal

pub returns-clause-small : goal.returns-clause-small
returns-clause-small c = λ m h. product-size c.args.n c.args.y c.product_by_sign.result m (2 ^ 45) h c.requires.y (search rules) (search rules)
