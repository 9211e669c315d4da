use Rattle.std.proofs.Common.{◌≡◌, ◌++◌, drop, map}
use Rattle.gd_group.specs.Requirements.{of_frames, requirements}
use Rattle.gd_tables.specs.Kinds.{file_of, frame_of}
use Rattle.gd_group.proofs.of_frames.requirements.Given as goal

abbrev pub invariant-loop-number : goal.invariant-loop-number
invariant-loop-number l =
    l.found.items ++ of_frames l.file.features.items l.index.table.now.rows l.number (map frame_of (drop l.number l.file.frames.items))
    ≡ requirements (file_of l.file) l.index.table.now.rows
