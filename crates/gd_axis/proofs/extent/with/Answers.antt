use Rattle.std.proofs.Common.{◌≡◌, rules}
use Rattle.std.specs.Int.{int_max, int_min}
use Rattle.gd_axis.proofs.AxisSizes.{max-fits, min-fits}
use Rattle.gd_axis.proofs.extent.with.Goals as goal

pub invariant_of-result : goal.invariant_of-result
invariant_of-result c =
    let s = c.args.so_far in
    let v = c.args.v in
    let a : c.greatest.result ≡ int_max s.most_lo v.lo = search rules in
    let b : c.least.result ≡ int_min s.least_lo v.lo = search rules in
    let d : c.greatest-2.result ≡ int_max s.most_hi v.hi = search rules in
    let e : c.least-2.result ≡ int_min s.least_hi v.hi = search rules in
    record {
      most_lo_fits = max-fits c.greatest.result s.most_lo v.lo a s.most_lo_fits c.requires.lo;
      least_lo_fits = min-fits c.least.result s.least_lo v.lo b s.least_lo_fits c.requires.lo;
      most_hi_fits = max-fits c.greatest-2.result s.most_hi v.hi d s.most_hi_fits c.requires.hi;
      least_hi_fits = min-fits c.least-2.result s.least_hi v.hi e s.least_hi_fits c.requires.hi;
    }
