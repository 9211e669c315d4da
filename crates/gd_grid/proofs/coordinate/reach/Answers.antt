use Rattle.std.proofs.Common.{subst, sym, ◌≤◌, ◌^◌}
use Rattle.gd_grid.proofs.Widths.{few_bits}
use Rattle.gd_grid.proofs.coordinate.reach.Goals as goal

pub returns-clause-size : goal.returns-clause-size
returns-clause-size c = subst (λ w. w ≤ 2 ^ 45) (sym c.power.ensures) (few_bits c.args.bits c.requires)
