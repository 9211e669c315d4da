use Rattle.std.proofs.Common.{arith, rules, ◌^◌}
use Rattle.gd_axis.proofs.AxisSizes.{fits-in, narrow-fits}
use Rattle.gd_quat.specs.Boxes.{Fits}
use Rattle.gd_axis.proofs.across.whole_minor.Goals as goal

pub apart-requires-clause-a : goal.apart-requires-clause-a
apart-requires-clause-a c = fits-in (2 ^ 55) (2 ^ 75) c.product.result (omega arith) (c.product.ensures.small (2 ^ 10) c.requires.n)

pub apart-requires-clause-b : goal.apart-requires-clause-b
apart-requires-clause-b c = fits-in (2 ^ 55) (2 ^ 75) c.product-2.result (omega arith) (c.product-2.ensures.small (2 ^ 10) c.requires.m)

pub narrow-requires-clause-hi : goal.narrow-requires-clause-hi
narrow-requires-clause-hi c =
    let g : Fits (2 ^ 56) c.apart.result = c.apart.ensures.small (2 ^ 55) (c.product.ensures.small (2 ^ 10) c.requires.n) (c.product-2.ensures.small (2 ^ 10) c.requires.m) in
    omega (arith, g.hi)

pub shortened-requires : goal.shortened-requires
shortened-requires c =
    let g : Fits (2 ^ 56) c.apart.result = c.apart.ensures.small (2 ^ 55) (c.product.ensures.small (2 ^ 10) c.requires.n) (c.product-2.ensures.small (2 ^ 10) c.requires.m) in
    narrow-fits c.apart.result c.narrow.result 0 (2 ^ 56) g (search rules) (search rules)
