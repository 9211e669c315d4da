use Rattle.std.proofs.Common.{◌≡◌, length, map, drop}
use Rattle.toml.specs.View.{table_view}
use Rattle.gd_frames.specs.Entries.{datums_read}
use Rattle.gd_frames.specs.Files.{tables_from, with_datum}
use Rattle.gd_tables.specs.Listed.{no_entries}
use Rattle.gd_frames.proofs.read.read_datums.Given as goal

abbrev pub invariant-loop-table : goal.invariant-loop-table
invariant-loop-table l = record {
  names : length l.datums.names.keys ≡ l.table-index;
  items : length l.datums.items.items ≡ l.table-index;
  left : tables_from 2 (with_datum l.features.names.keys l.ranges) no_entries (map (λ t. table_view t.now) l.tables)
      ≡ tables_from 2 (with_datum l.features.names.keys l.ranges) (datums_read l.datums) (map (λ t. table_view t.now) (drop l.table-index l.tables));
}
