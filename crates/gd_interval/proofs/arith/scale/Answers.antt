use Rattle.std.proofs.Common.{◌≡◌, ◌*ℤ◌, rules}
use Rattle.gd_interval.specs.Formulas.{scale_lo, scale_hi}
use Rattle.gd_interval.proofs.Encloses.{encloses-multiple}
use Rattle.gd_interval.proofs.Products.{two-ordered}
use Rattle.gd_interval.proofs.Wholes.{same_order}
use Rattle.gd_interval.proofs.Widths.{width-multiple}
use Rattle.gd_interval.proofs.arith.scale.Goals as goal

pub between-requires : goal.between-requires
between-requires c =
    let lo : c.least.result ≡ scale_lo c.args.a.lo c.args.a.hi c.args.k = search rules in
    let hi : c.greatest.result ≡ scale_hi c.args.a.lo c.args.a.hi c.args.k = search rules in
    same_order c.least.result c.greatest.result (search rules) (search rules) (rw (lo, hi) (two-ordered (c.args.a.lo *ℤ c.args.k) (c.args.a.hi *ℤ c.args.k)))

pub returns-clause-encloses : goal.returns-clause-encloses
returns-clause-encloses c = encloses-multiple c.args.a c.args.k c.between.result (search rules) (search rules)

pub returns-clause-width : goal.returns-clause-width
returns-clause-width c = width-multiple c.args.a c.args.k c.between.result (search rules) (search rules)
