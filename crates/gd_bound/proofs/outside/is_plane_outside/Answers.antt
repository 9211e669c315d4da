use Rattle.std.proofs.Common.{rules, FitsSigned, ◌≡◌}
use Rattle.std.proofs.lemmas.Int.{to_z-of_z}
use Rattle.std.specs.Int.{w128}
use Rattle.gd_bound.proofs.Refuting.{or-else}
use Rattle.gd_zone.specs.Refutations.{fails, is_less, is_more}
use Rattle.gd_bound.proofs.outside.is_plane_outside.Goals as goal

pub returns-else-is_above : goal.returns-else-is_above
returns-else-is_above c =
    let n : FitsSigned w128 c.args.n2 = search rules in
    let l : FitsSigned w128 c.args.value.lo = search rules in
    let h : FitsSigned w128 c.args.value.hi = search rules in
    let first : c.is_above.result ≡ fails (λ h. is_more c.args.value.lo h c.args.n2) c.args.hi = rw (to_z-of_z w128 c.args.n2 n, to_z-of_z w128 c.args.value.lo l) at c.is_above.ensures in
    let second : c.is_below.result ≡ fails (λ l. is_less c.args.value.hi l c.args.n2) c.args.lo = rw (to_z-of_z w128 c.args.n2 n, to_z-of_z w128 c.args.value.hi h) at c.is_below.ensures in
    or-else c.is_above.result c.is_below.result _ _ first c.if-is_above.false second
