use Rattle.std.proofs.Common.{length, take}
use Rattle.gd_frames.specs.Tallies.{IsTally}
use Rattle.gd_frames.proofs.groups.count_groups.Given as goal

abbrev pub invariant-loop-at : goal.invariant-loop-at
invariant-loop-at l = IsTally (length l.points.names) (take l.at l.points.rows) l.tally
