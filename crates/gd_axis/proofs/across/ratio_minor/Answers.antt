use Rattle.std.proofs.Common.{arith, rules, ◌^◌}
use Rattle.gd_axis.proofs.AxisSizes.{fits-in, narrow-fits}
use Rattle.gd_quat.specs.Boxes.{Fits}
use Rattle.gd_axis.proofs.across.ratio_minor.Goals as goal

pub apart-requires-clause-a : goal.apart-requires-clause-a
apart-requires-clause-a c = c.product.ensures.small (2 ^ 30) c.requires.n

pub apart-requires-clause-b : goal.apart-requires-clause-b
apart-requires-clause-b c = c.product-2.ensures.small (2 ^ 30) c.requires.m

pub narrow-requires-clause-hi : goal.narrow-requires-clause-hi
narrow-requires-clause-hi c =
    let g : Fits (2 ^ 76) c.apart.result = c.apart.ensures.small (2 ^ 75) (c.product.ensures.small (2 ^ 30) c.requires.n) (c.product-2.ensures.small (2 ^ 30) c.requires.m) in
    omega (arith, g.hi)

pub shortened-requires : goal.shortened-requires
shortened-requires c =
    let g : Fits (2 ^ 76) c.apart.result = c.apart.ensures.small (2 ^ 75) (c.product.ensures.small (2 ^ 30) c.requires.n) (c.product-2.ensures.small (2 ^ 30) c.requires.m) in
    narrow-fits c.apart.result c.narrow.result 30 (2 ^ 56) (fits-in (2 ^ 76) (2 ^ 86) c.apart.result (omega arith) g) (search rules) (search rules)
