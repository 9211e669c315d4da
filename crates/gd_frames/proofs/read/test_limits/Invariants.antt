use Rattle.std.proofs.Common.{◌≡◌, [], map, take, drop}
use Rattle.gd_frames.specs.Files.{limits_from}
use Rattle.gd_tables.specs.Kinds.{frame_of}
use Rattle.gd_frames.proofs.read.test_limits.Given as goal

abbrev pub invariant-loop-at : goal.invariant-loop-at
invariant-loop-at l =
    limits_from l.features.items.items l.datums.items.items l.counts.points.now.rows [] (map frame_of l.frames)
    ≡ limits_from l.features.items.items l.datums.items.items l.counts.points.now.rows (map frame_of (take l.at l.frames)) (map frame_of (drop l.at l.frames))
