use Rattle.std.proofs.Common.{◌≡◌, min, map, take, if◌then◌else◌}
use Rattle.std.specs.List.{sum_by}
use Rattle.gd_frames.specs.Counts.{frame_conditions, joins}
use Rattle.gd_tables.specs.Kinds.{Frame, frame_of}
use Rattle.gd_frames.proofs.counts.joined_conditions.Given as goal

abbrev pub invariant-loop-other : goal.invariant-loop-other
invariant-loop-other l =
    l.total ≡ min 4097 (sum_by (λ (g : Frame). if joins (frame_of l.frame) g then frame_conditions l.features l.counts.points.now.rows g else 0) (map frame_of (take l.other-index l.earlier)))
