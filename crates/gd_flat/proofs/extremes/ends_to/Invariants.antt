use Rattle.std.proofs.Common.{◌≡◌, ◌≤◌, ◌≤ℤ◌, ◌^◌, ◌*◌, take, unsigned_abs}
use Rattle.gd_flat.specs.FlatTests.{greatest, highs, least, lows}
use Rattle.gd_flat.specs.PointRows.{rows_in}
use Rattle.gd_flat.proofs.extremes.ends_to.Given as goal

abbrev pub invariant-loop-at : goal.invariant-loop-at
invariant-loop-at l = record {
  lo : l.most ≡ greatest (take l.at (lows l.face.directions (rows_in l.face.points)));
  hi : l.least ≡ least (take l.at (highs l.face.directions (rows_in l.face.points)));
  lo_more : l.initial.most ≤ℤ l.most;
  hi_less : l.least ≤ℤ l.initial.least;
  lo_size : unsigned_abs l.most ≤ 3 * 2 ^ 54;
  hi_size : unsigned_abs l.least ≤ 3 * 2 ^ 54;
}
