use Rattle.std.proofs.Common.{◌≡◌, map, drop}
use Rattle.gd_base.specs.Names.{name_of}
use Rattle.gd_keys.proofs.Lists.{before}
use Rattle.gd_keys.specs.Contents.{each_as}
use Rattle.gd_tables.proofs.word.names_of.Given as goal

abbrev pub invariant-loop-text : goal.invariant-loop-text
invariant-loop-text l =
    each_as name_of (map (λ t. t.now) l.texts) ≡ before l.names.items (each_as name_of (map (λ t. t.now) (drop l.text-index l.texts)))
