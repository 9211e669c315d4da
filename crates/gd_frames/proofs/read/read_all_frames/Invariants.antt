use Rattle.std.proofs.Common.{◌≡◌, length, map, drop}
use Rattle.toml.specs.View.{table_view}
use Rattle.gd_frames.specs.Entries.{datums_read, features_read, frames_read}
use Rattle.gd_frames.specs.Files.{tables_from, with_frame}
use Rattle.gd_tables.specs.Listed.{no_entries}
use Rattle.gd_frames.proofs.read.read_all_frames.Given as goal

abbrev pub invariant-loop-table : goal.invariant-loop-table
invariant-loop-table l = record {
  names : length l.frames.names.keys ≡ l.table-index;
  items : length l.frames.items.items ≡ l.table-index;
  left : tables_from 3 (with_frame (features_read l.features) (datums_read l.datums) l.counts.points.now.rows) no_entries (map (λ t. table_view t.now) l.tables)
      ≡ tables_from 3 (with_frame (features_read l.features) (datums_read l.datums) l.counts.points.now.rows) (frames_read l.frames) (map (λ t. table_view t.now) (drop l.table-index l.tables));
}
