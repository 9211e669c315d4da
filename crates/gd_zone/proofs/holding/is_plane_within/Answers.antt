use Rattle.std.proofs.Common.{rules, FitsSigned, ◌≡◌}
use Rattle.std.proofs.lemmas.Int.{to_z-of_z}
use Rattle.std.specs.Int.{w128}
use Rattle.gd_zone.proofs.Pairs.{and-then}
use Rattle.gd_zone.specs.Tests.{is_at_least, is_at_most, passes}
use Rattle.gd_zone.proofs.holding.is_plane_within.Goals as goal

pub returns-then-is_below : goal.returns-then-is_below
returns-then-is_below c =
    let n : FitsSigned w128 c.args.n2 = search rules in
    let l : FitsSigned w128 c.args.value.lo = search rules in
    let h : FitsSigned w128 c.args.value.hi = search rules in
    let below : c.is_below.result ≡ passes (λ h. is_at_most c.args.value.hi h c.args.n2) c.args.hi = rw (to_z-of_z w128 c.args.n2 n, to_z-of_z w128 c.args.value.hi h) at c.is_below.ensures in
    let above : c.is_above.result ≡ passes (λ l. is_at_least c.args.value.lo l c.args.n2) c.args.lo = rw (to_z-of_z w128 c.args.n2 n, to_z-of_z w128 c.args.value.lo l) at c.is_above.ensures in
    and-then c.is_below.result c.is_above.result _ _ below c.if-is_below.true above
