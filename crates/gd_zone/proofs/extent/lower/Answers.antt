use Rattle.std.proofs.Common.{rules, FitsSigned, ◌≡◌}
use Rattle.std.proofs.lemmas.Int.{to_z-of_z}
use Rattle.std.specs.Int.{int_min, w128}
use Rattle.gd_interval.proofs.Wholes.{same_order}
use Rattle.gd_zone.proofs.Sizes.{lower-order}
use Rattle.gd_zone.proofs.extent.lower.Goals as goal

pub invariant_of-result : goal.invariant_of-result
invariant_of-result c =
    let f : FitsSigned w128 c.min.result = search rules in
    let g : FitsSigned w128 c.min-2.result = search rules in
    let al : FitsSigned w128 c.args.a.lo = search rules in
    let bl : FitsSigned w128 c.args.b.lo = search rules in
    let ah : FitsSigned w128 c.args.a.hi = search rules in
    let bh : FitsSigned w128 c.args.b.hi = search rules in
    let l : c.min.result ≡ int_min c.args.a.lo c.args.b.lo = rw (to_z-of_z w128 c.args.a.lo al, to_z-of_z w128 c.args.b.lo bl) at c.min.ensures.value in
    let h : c.min-2.result ≡ int_min c.args.a.hi c.args.b.hi = rw (to_z-of_z w128 c.args.a.hi ah, to_z-of_z w128 c.args.b.hi bh) at c.min-2.ensures.value in
    record { ordered = same_order c.min.result c.min-2.result f g (rw (l, h) (lower-order c.args.a.lo c.args.a.hi c.args.b.lo c.args.b.hi c.args.a.ordered c.args.b.ordered)) }
