use Rattle.std.proofs.Common.{arith, pos, ◌≤ℤ◌}
use Rattle.std.proofs.lemmas.Int.{ints, quot_is, quot_fits}
use Rattle.std.specs.Int.{w128}
use Rattle.gd_int.proofs.Divisions.{quot-before}
use Rattle.gd_int.proofs.division.div_ceil.Goals as goal

pub returns-then-a-le0-clause-before : goal.returns-then-a-le0-clause-before
returns-then-a-le0-clause-before c =
    let low : c.args.a ≤ℤ pos 0 = omega (arith, ints) in
    rw (quot_is w128 c.args.a c.args.b c.ranges.a c.ranges.b (quot_fits w128 c.args.a c.args.b c.ranges.a c.requires)) (quot-before c.args.a c.args.b c.requires low)
