use Rattle.std.proofs.Common.{◌≡◌, take}
use Rattle.gd_datum.specs.Listed.{of_words}
use Rattle.gd_datum.proofs.word.of_words.Given as goal

abbrev pub invariant-loop-at : goal.invariant-loop-at
invariant-loop-at l = l.conditions.items ≡ of_words l.file.features.items l.file.datums.items l.index.table.now.rows (take l.at l.words)
