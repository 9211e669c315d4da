use Rattle.std.proofs.Common.{◌≡◌, rules}
use Rattle.gd_interval.specs.Formulas.{narrow_lo, narrow_hi}
use Rattle.gd_interval.proofs.Quotients.{narrow-ordered}
use Rattle.gd_zone.proofs.Shorts.{narrowed-short, same-order}
use Rattle.gd_zone.proofs.short.narrowed.Goals as goal

pub both-requires : goal.both-requires
both-requires c =
    let lo : c.shifted.result ≡ narrow_lo c.args.a.lo 14 = search rules in
    let hi : c.shifted_up.result ≡ narrow_hi c.args.a.hi 14 = search rules in
    same-order c.shifted.result c.shifted_up.result (search rules) (search rules) (rw (lo, hi) (narrow-ordered c.args.a.lo c.args.a.hi 14 c.args.a.ordered))

pub returns-clause-size : goal.returns-clause-size
returns-clause-size c = narrowed-short c.args.a c.both.result (search rules) (search rules) c.requires
