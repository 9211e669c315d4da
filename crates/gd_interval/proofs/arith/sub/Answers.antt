use Rattle.std.proofs.Common.{◌≡◌, ◌-ℤ◌, rules}
use Rattle.gd_interval.proofs.Encloses.{encloses-difference}
use Rattle.gd_interval.proofs.arith.sub.Goals as goal

pub returns-clause-encloses : goal.returns-clause-encloses
returns-clause-encloses c =
    let lo : c.between.result.lo ≡ c.args.a.lo -ℤ c.args.b.hi = search rules in
    let hi : c.between.result.hi ≡ c.args.a.hi -ℤ c.args.b.lo = search rules in
    encloses-difference c.args.a c.args.b c.between.result lo hi
