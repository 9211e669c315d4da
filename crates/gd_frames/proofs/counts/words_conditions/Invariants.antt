use Rattle.std.proofs.Common.{◌≡◌, min, take}
use Rattle.gd_frames.specs.Counts.{words_conditions}
use Rattle.gd_frames.proofs.counts.words_conditions.Given as goal

abbrev pub invariant-loop-word : goal.invariant-loop-word
invariant-loop-word l = l.total ≡ min 4097 (words_conditions l.features l.datums l.counts.points.now.rows (take l.word-index l.words))
