use Rattle.std.proofs.Common.{◌≡◌, ◌*ℤ◌, rules}
use Rattle.gd_interval.specs.Formulas.{scale_lo, scale_hi}
use Rattle.gd_interval.proofs.Products.{two-ordered}
use Rattle.gd_zone.proofs.Shorts.{same-order}
use Rattle.gd_zone.proofs.short.scale.Goals as goal

pub both-requires : goal.both-requires
both-requires c =
    let lo : c.least.result ≡ scale_lo c.args.a.lo c.args.a.hi c.args.factor = search rules in
    let hi : c.greatest.result ≡ scale_hi c.args.a.lo c.args.a.hi c.args.factor = search rules in
    same-order c.least.result c.greatest.result (search rules) (search rules) (rw (lo, hi) (two-ordered (c.args.a.lo *ℤ c.args.factor) (c.args.a.hi *ℤ c.args.factor)))
