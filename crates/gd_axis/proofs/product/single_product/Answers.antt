use Rattle.std.proofs.Common.{rules, ◌^◌}
use Rattle.gd_axis.proofs.SignProducts.{single-size}
use Rattle.gd_axis.proofs.product.single_product.Goals as goal

pub returns-clause-size : goal.returns-clause-size
returns-clause-size c = single-size c.args.n c.args.y c.single_by_ends.result (2 ^ 10) (2 ^ 45) c.requires.n c.requires.y (search rules) (search rules)

pub returns-clause-small : goal.returns-clause-small
returns-clause-small c = λ m h. single-size c.args.n c.args.y c.single_by_ends.result (2 ^ 10) m c.requires.n h (search rules) (search rules)
