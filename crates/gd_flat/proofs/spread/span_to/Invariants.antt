use Rattle.std.proofs.Common.{◌≡◌, ◌≤◌, ◌^◌, ◌*◌, take, unsigned_abs}
use Rattle.gd_flat.specs.FlatTests.{along, greatest, least}
use Rattle.gd_flat.specs.PointRows.{rows_in}
use Rattle.gd_flat.proofs.spread.span_to.Given as goal

abbrev pub invariant-loop-at : goal.invariant-loop-at
invariant-loop-at l = record {
  lo : l.least ≡ least (take l.at (along l.n (rows_in l.points)));
  hi : l.most ≡ greatest (take l.at (along l.n (rows_in l.points)));
  lo_size : unsigned_abs l.least ≤ 3 * 2 ^ 54;
  hi_size : unsigned_abs l.most ≤ 3 * 2 ^ 54;
}
