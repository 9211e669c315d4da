use Rattle.std.proofs.Common.{◌≡◌, map, drop}
use Rattle.gd_tables.specs.Grammar.{datum_of}
use Rattle.gd_tables.specs.Seen.{seen}
use Rattle.gd_keys.proofs.Lists.{before}
use Rattle.gd_keys.specs.Contents.{each_as}
use Rattle.gd_tables.proofs.word.datums_of.Given as goal

abbrev pub invariant-loop-word : goal.invariant-loop-word
invariant-loop-word g l =
    each_as (datum_of l.datums.names.keys) (map seen l.words) ≡ before l.refs.items (each_as (datum_of l.datums.names.keys) (map seen (drop l.word-index l.words)))
