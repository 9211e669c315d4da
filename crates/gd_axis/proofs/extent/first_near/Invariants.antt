use Rattle.gd_flat.proofs.Blocks.{NoneBefore}
use Rattle.gd_axis.specs.AxisTests.{far_ends}
use Rattle.gd_axis.proofs.extent.first_near.Given as goal

abbrev pub invariant-loop-at : goal.invariant-loop-at
invariant-loop-at l = record { none : NoneBefore l.distance l.at (far_ends l.over.shape l.over.b.now l.over.own l.judged.points.table.now.rows l.judged.numbers.now) }
