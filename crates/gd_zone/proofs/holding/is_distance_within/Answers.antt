use Rattle.std.proofs.Common.{rules, FitsSigned, ◌≡◌, ◌&&◌, ◌||◌, pos}
use Rattle.std.proofs.lemmas.Int.{to_z-of_z}
use Rattle.std.specs.Int.{w128}
use Rattle.std.specs.Prelude.{int_le}
use Rattle.gd_zone.proofs.Pairs.{and-then}
use Rattle.gd_zone.specs.Tests.{passes, square_bound}
use Rattle.gd_zone.proofs.holding.is_distance_within.Goals as goal

pub returns-then-is_near : goal.returns-then-is_near
returns-then-is_near c =
    let n : FitsSigned w128 c.args.n2 = search rules in
    let l : FitsSigned w128 c.args.value.lo = search rules in
    let h : FitsSigned w128 c.args.value.hi = search rules in
    let near : c.is_near.result ≡ passes (λ h. int_le (pos 0) h && int_le c.args.value.hi (square_bound h c.args.n2)) c.args.hi = rw (to_z-of_z w128 c.args.n2 n, to_z-of_z w128 c.args.value.hi h) at c.is_near.ensures in
    let far : c.is_far.result ≡ passes (λ l. int_le l (pos 0) || int_le (square_bound l c.args.n2) c.args.value.lo) c.args.lo = rw (to_z-of_z w128 c.args.n2 n, to_z-of_z w128 c.args.value.lo l) at c.is_far.ensures in
    and-then c.is_near.result c.is_far.result _ _ near c.if-is_near.true far
