use Rattle.std.proofs.Common.{◌≡◌, rules}
use Rattle.gd_interval.specs.Formulas.{square_lo, square_hi}
use Rattle.gd_interval.proofs.Encloses.{encloses-square}
use Rattle.gd_interval.proofs.Products.{square-ordered}
use Rattle.gd_interval.proofs.Wholes.{same_order}
use Rattle.gd_interval.proofs.Widths.{width-square}
use Rattle.gd_interval.proofs.arith.square.Goals as goal

pub between-requires : goal.between-requires
between-requires c =
    let lo : c.least_square.result ≡ square_lo c.args.a.lo c.args.a.hi = search rules in
    let hi : c.greatest.result ≡ square_hi c.args.a.lo c.args.a.hi = search rules in
    same_order c.least_square.result c.greatest.result (search rules) (search rules) (rw (lo, hi) (square-ordered c.args.a.lo c.args.a.hi c.args.a.ordered))

pub returns-clause-encloses : goal.returns-clause-encloses
returns-clause-encloses c = encloses-square c.args.a c.between.result (search rules) (search rules)

pub returns-clause-width : goal.returns-clause-width
returns-clause-width c = width-square c.args.a c.between.result (search rules) (search rules)
