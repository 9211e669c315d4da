use Rattle.std.proofs.Common.{◌≡◌, map, drop}
use Rattle.toml.specs.Data.{as_table}
use Rattle.toml.specs.View.{items_view, table_view}
use Rattle.gd_keys.specs.Contents.{all_of}
use Rattle.gd_keys.proofs.Lists.{before}
use Rattle.gd_keys.proofs.list.tables_of.Given as goal

abbrev pub invariant-loop-item : goal.invariant-loop-item
invariant-loop-item l =
    all_of as_table (items_view l.items) ≡ before (map (λ t. table_view t.now) l.tables.items) (all_of as_table (items_view (drop l.item-index l.items)))
