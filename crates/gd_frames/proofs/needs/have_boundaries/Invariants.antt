use Rattle.std.proofs.Common.{◌≡◌, drop}
use Rattle.std.specs.List.{list_all}
use Rattle.gd_frames.specs.Needs.{has_boundary}
use Rattle.gd_frames.proofs.needs.have_boundaries.Given as goal

abbrev pub invariant-loop-word : goal.invariant-loop-word
invariant-loop-word l = list_all (has_boundary l.datums) l.words ≡ list_all (has_boundary l.datums) (drop l.word-index l.words)
