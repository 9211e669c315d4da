use Rattle.std.proofs.Common.{◌≡◌, FitsSigned, rules}
use Rattle.std.proofs.lemmas.Int.{to_z-of_z}
use Rattle.std.specs.Int.{w128}
use Rattle.gd_interval.specs.Formulas.{quot_lo, quot_hi}
use Rattle.gd_interval.proofs.Encloses.{encloses-quotient}
use Rattle.gd_interval.proofs.Quotients.{quot-ordered}
use Rattle.gd_interval.proofs.Wholes.{same_order}
use Rattle.gd_interval.proofs.Widths.{width-quotient}
use Rattle.gd_interval.proofs.division.quot.Goals as goal

pub div_ceil-requires : goal.div_ceil-requires
div_ceil-requires c =
    let f : FitsSigned w128 c.by_sign-above.result = search rules in
    rw to_z-of_z (c.by_sign-above.ensures.positive (search rules) (search rules))

pub between-requires : goal.between-requires
between-requires c =
    let lo : c.div_floor.result ≡ quot_lo c.args.n.lo c.args.d.lo c.args.d.hi = search rules in
    let hi : c.div_ceil.result ≡ quot_hi c.args.n.hi c.args.d.lo c.args.d.hi = search rules in
    same_order c.div_floor.result c.div_ceil.result (search rules) (search rules) (rw (lo, hi) (quot-ordered c.args.n.lo c.args.n.hi c.args.d.lo c.args.d.hi c.args.n.ordered c.requires.divisor c.args.d.ordered))

pub returns-clause-encloses : goal.returns-clause-encloses
returns-clause-encloses c = encloses-quotient c.args.n c.args.d c.between.result c.requires.divisor (search rules) (search rules)

pub returns-clause-width : goal.returns-clause-width
returns-clause-width c = width-quotient c.args.n c.args.d c.between.result c.requires.divisor (search rules) (search rules)
