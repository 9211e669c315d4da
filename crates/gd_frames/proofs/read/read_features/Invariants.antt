use Rattle.std.proofs.Common.{◌≡◌, length, map, drop}
use Rattle.toml.specs.View.{table_view}
use Rattle.gd_frames.specs.Entries.{features_read}
use Rattle.gd_frames.specs.Files.{tables_from, with_feature}
use Rattle.gd_tables.specs.Listed.{no_entries}
use Rattle.gd_frames.proofs.read.read_features.Given as goal

abbrev pub invariant-loop-table : goal.invariant-loop-table
invariant-loop-table l = record {
  names : length l.features.names.keys ≡ l.table-index;
  items : length l.features.items.items ≡ l.table-index;
  left : tables_from 1 (with_feature l.points l.ranges) no_entries (map (λ t. table_view t.now) l.tables)
      ≡ tables_from 1 (with_feature l.points l.ranges) (features_read l.features) (map (λ t. table_view t.now) (drop l.table-index l.tables));
}
