use Rattle.std.proofs.Common.{◌≡◌, drop}
use Rattle.toml.specs.Data.{as_integer}
use Rattle.toml.specs.View.{items_view}
use Rattle.gd_keys.specs.Contents.{all_of}
use Rattle.gd_keys.proofs.Lists.{before}
use Rattle.gd_keys.proofs.content.integers.Given as goal

abbrev pub invariant-loop-item : goal.invariant-loop-item
invariant-loop-item l =
    all_of as_integer (items_view l.items) ≡ before (l.numbers.items) (all_of as_integer (items_view (drop l.item-index l.items)))
