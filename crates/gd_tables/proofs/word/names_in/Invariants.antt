use Rattle.std.proofs.Common.{◌≡◌, map, take}
use Rattle.gd_tables.specs.Seen.{seen}
use Rattle.gd_tables.proofs.word.names_in.Given as goal

abbrev pub invariant-loop-word : goal.invariant-loop-word
invariant-loop-word l = l.names.items ≡ map (λ w. w.name) (map seen (take l.word-index l.words))
