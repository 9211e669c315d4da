use Rattle.std.proofs.Common.{◌≡◌, map, drop}
use Rattle.toml.specs.Data.{as_str}
use Rattle.toml.specs.View.{items_view}
use Rattle.gd_keys.specs.Contents.{all_of}
use Rattle.gd_keys.proofs.Lists.{before}
use Rattle.gd_keys.proofs.list.texts_of.Given as goal

abbrev pub invariant-loop-item : goal.invariant-loop-item
invariant-loop-item l =
    all_of as_str (items_view l.items) ≡ before (map (λ t. t.now) l.texts.items) (all_of as_str (items_view (drop l.item-index l.items)))
