use Rattle.gd_flat.proofs.Blocks.{NoneBefore}
use Rattle.gd_flat.specs.FlatTests.{highs}
use Rattle.gd_flat.specs.PointRows.{rows_in}
use Rattle.gd_flat.proofs.extremes.first_high.Given as goal

abbrev pub invariant-loop-at : goal.invariant-loop-at
invariant-loop-at l = record { none : NoneBefore l.near.value l.at (highs l.face.directions (rows_in l.face.points)) }
