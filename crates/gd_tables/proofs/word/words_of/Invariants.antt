use Rattle.std.proofs.Common.{◌≡◌, map, drop}
use Rattle.gd_tables.specs.Grammar.{word_of}
use Rattle.gd_tables.specs.Seen.{seen}
use Rattle.gd_keys.proofs.Lists.{before}
use Rattle.gd_keys.specs.Contents.{each_as}
use Rattle.gd_tables.proofs.word.words_of.Given as goal

abbrev pub invariant-loop-text : goal.invariant-loop-text
invariant-loop-text l =
    each_as word_of (map (λ t. t.now) l.texts) ≡ before (map seen l.words.items) (each_as word_of (map (λ t. t.now) (drop l.text-index l.texts)))
