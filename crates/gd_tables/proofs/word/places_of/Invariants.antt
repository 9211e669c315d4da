use Rattle.std.proofs.Common.{◌≡◌}
use Rattle.gd_tables.specs.Listed.{place_of}
use Rattle.gd_keys.proofs.Lists.{before}
use Rattle.gd_keys.specs.Contents.{each_as}
use Rattle.gd_tables.proofs.word.places_of.Given as goal

abbrev pub invariant-loop-name : goal.invariant-loop-name
invariant-loop-name g l = record {
  can : (goal.iterator-loop-name g).can_next l.name-iterator;
  finite : (goal.iterator-loop-name g).is_finite l.name-iterator;
  places : each_as (place_of l.features.names.keys) l.names.keys ≡ before l.places.items (each_as (place_of l.features.names.keys) l.name-iterator);
}
