use Rattle.std.proofs.Common.{◌≡◌, drop}
use Rattle.gd_frames.specs.Combinations.{fits_words}
use Rattle.gd_frames.proofs.combination.fits_words.Given as goal

abbrev pub invariant-loop-word : goal.invariant-loop-word
invariant-loop-word l = fits_words l.features l.datums l.words ≡ fits_words l.features l.datums (drop l.word-index l.words)
