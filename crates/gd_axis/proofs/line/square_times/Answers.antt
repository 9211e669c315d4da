use Rattle.std.proofs.Common.{◌≡◌, ◌^◌, ◌≤◌, ◌*ℤ◌, pos, subst, sym, unsigned_abs, to_z, of_z, rules}
use Rattle.std.specs.Int.{w128}
use Rattle.gd_axis.proofs.AxisSizes.{square-times-size}
use Rattle.gd_axis.proofs.line.square_times.Goals as goal

pub returns-clause-size : goal.returns-clause-size
returns-clause-size c =
    let e : to_z w128 (of_z w128 c.times-2.result) ≡ (pos c.args.tolerance *ℤ pos c.args.tolerance) *ℤ c.args.length2 = search rules in
    subst (λ z. unsigned_abs z ≤ 2 ^ 102) (sym e) (square-times-size c.args.tolerance c.args.length2 c.requires.tolerance c.requires.length2)
