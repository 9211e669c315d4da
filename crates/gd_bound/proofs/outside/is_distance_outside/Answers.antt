use Rattle.std.proofs.Common.{rules, FitsSigned, ◌≡◌, ◌&&◌, ◌||◌, pos}
use Rattle.std.proofs.lemmas.Int.{to_z-of_z}
use Rattle.std.specs.Int.{w128}
use Rattle.std.specs.Prelude.{int_lt}
use Rattle.gd_bound.proofs.Refuting.{or-else}
use Rattle.gd_zone.specs.Refutations.{fails}
use Rattle.gd_zone.specs.Tests.{square_bound}
use Rattle.gd_bound.proofs.outside.is_distance_outside.Goals as goal

pub returns-else-is_far : goal.returns-else-is_far
returns-else-is_far c =
    let n : FitsSigned w128 c.args.n2 = search rules in
    let l : FitsSigned w128 c.args.value.lo = search rules in
    let h : FitsSigned w128 c.args.value.hi = search rules in
    let first : c.is_far.result ≡ fails (λ h. int_lt h (pos 0) || int_lt (square_bound h c.args.n2) c.args.value.lo) c.args.hi = rw (to_z-of_z w128 c.args.n2 n, to_z-of_z w128 c.args.value.lo l) at c.is_far.ensures in
    let second : c.is_near.result ≡ fails (λ l. int_lt (pos 0) l && int_lt c.args.value.hi (square_bound l c.args.n2)) c.args.lo = rw (to_z-of_z w128 c.args.n2 n, to_z-of_z w128 c.args.value.hi h) at c.is_near.ensures in
    or-else c.is_far.result c.is_near.result _ _ first c.if-is_far.false second
