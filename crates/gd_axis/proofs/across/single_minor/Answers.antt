use Rattle.std.proofs.Common.{rules, ◌^◌}
use Rattle.gd_axis.proofs.SignProducts.{minor-whole}
use Rattle.gd_axis.specs.Shorts.{short_ends}
use Rattle.gd_quat.specs.Formulas.{product}
use Rattle.gd_axis.proofs.across.single_minor.Goals as goal

pub returns-clause-ends : goal.returns-clause-ends
returns-clause-ends c =
    minor-whole (short_ends c.short_apart.result) (short_ends c.single_product.result) (short_ends c.single_product-2.result)
    (product (short_ends c.args.n) (short_ends c.args.y)) (product (short_ends c.args.m) (short_ends c.args.z)) (search rules) (search rules) (search rules)

pub returns-clause-small : goal.returns-clause-small
returns-clause-small c = λ f g. c.short_apart.ensures.small (c.single_product.ensures.small (2 ^ 44) f) (c.single_product-2.ensures.small (2 ^ 44) g)
