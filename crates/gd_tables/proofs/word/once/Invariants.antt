use Rattle.std.proofs.Common.{◌≡◌, [], ◌++◌}
use Rattle.std.specs.Vec.Iter.{into_iter_items}
use Rattle.gd_keys.specs.Keys.{are_new}
use Rattle.gd_tables.proofs.word.once.Given as goal

abbrev pub invariant-loop-name : goal.invariant-loop-name
invariant-loop-name l = record {
  can : (goal.iterator-loop-name).can_next l.name-iterator;
  finite : (goal.iterator-loop-name).is_finite l.name-iterator;
  names : l.set.keys ++ into_iter_items l.name-iterator ≡ l.fn.names.items;
  once : are_new [] l.fn.names.items ≡ are_new l.set.keys (into_iter_items l.name-iterator);
}
