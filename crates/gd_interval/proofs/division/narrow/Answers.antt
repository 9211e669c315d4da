use Rattle.std.proofs.Common.{◌≡◌, rules}
use Rattle.gd_interval.specs.Formulas.{narrow_lo, narrow_hi}
use Rattle.gd_interval.proofs.Encloses.{encloses-narrowed}
use Rattle.gd_interval.proofs.Quotients.{narrow-ordered}
use Rattle.gd_interval.proofs.Wholes.{same_order}
use Rattle.gd_interval.proofs.division.narrow.Goals as goal

pub between-requires : goal.between-requires
between-requires c =
    let lo : c.shifted.result ≡ narrow_lo c.args.a.lo c.args.bits = search rules in
    let hi : c.shifted_up.result ≡ narrow_hi c.args.a.hi c.args.bits = search rules in
    same_order c.shifted.result c.shifted_up.result (search rules) (search rules) (rw (lo, hi) (narrow-ordered c.args.a.lo c.args.a.hi c.args.bits c.args.a.ordered))

pub returns-clause-encloses : goal.returns-clause-encloses
returns-clause-encloses c = encloses-narrowed c.args.a c.args.bits c.between.result (search rules) (search rules)
