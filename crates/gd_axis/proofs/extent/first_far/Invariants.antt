use Rattle.gd_flat.proofs.Blocks.{NoneBefore}
use Rattle.gd_axis.specs.AxisTests.{near_ends}
use Rattle.gd_axis.proofs.extent.first_far.Given as goal

abbrev pub invariant-loop-at : goal.invariant-loop-at
invariant-loop-at l = record { none : NoneBefore l.distance l.at (near_ends l.over.shape l.over.b.now l.over.own l.judged.points.table.now.rows l.judged.numbers.now) }
