use Rattle.std.proofs.Common.{◌≡◌}
use Rattle.gd_points.specs.Points.{with_records}
use Rattle.gd_points.specs.Reader.{IsBetween, records_left, size_left}
use Rattle.gd_points.specs.Table.{empty_table}
use Rattle.gd_points.proofs.read.read_records.Given as goal

abbrev pub invariant-loop-table : goal.invariant-loop-table
invariant-loop-table l = record {
  between : IsBetween l.reader;
  left : with_records l.table (records_left l.reader) ≡ with_records empty_table (records_left l.fn.reader);
}

abbrev pub decreases-loop-table : goal.decreases-loop-table
decreases-loop-table l = size_left l.reader
