use Rattle.std.proofs.Common.{arith}
use Rattle.gd_grid.proofs.Grids.{few_turns}
use Rattle.gd_grid.proofs.places.full_turns.Goals as goal

pub loop-k-init : goal.loop-k-init
loop-k-init c = record { left = omega (arith, few_turns c.args.ks.now); few = omega arith }
