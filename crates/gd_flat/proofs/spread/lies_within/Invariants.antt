use Rattle.std.proofs.Common.{◌≡◌, ◌≤◌, ◌<◌, ◌-◌, ◌^◌, ◌*◌, length, take, unsigned_abs}
use Rattle.gd_flat.specs.FlatTests.{along, greatest, least}
use Rattle.gd_flat.specs.PointRows.{rows_in}
use Rattle.gd_flat.proofs.spread.lies_within.Given as goal

abbrev pub invariant-loop-from : goal.invariant-loop-from
invariant-loop-from l = record {
  some : 0 < l.from;
  room : l.from ≤ length (rows_in l.points);
  lo : l.span.0 ≡ least (take l.from (along l.n (rows_in l.points)));
  hi : l.span.1.0 ≡ greatest (take l.from (along l.n (rows_in l.points)));
  lo_size : unsigned_abs l.span.0 ≤ 3 * 2 ^ 54;
  hi_size : unsigned_abs l.span.1.0 ≤ 3 * 2 ^ 54;
}

abbrev pub decreases-loop-from : goal.decreases-loop-from
decreases-loop-from l = length (rows_in l.points) - l.from
