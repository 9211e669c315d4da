use Rattle.std.proofs.Common.{◌≡◌, ◌≤◌, ◌<◌, ◌-◌, ◌^◌, ◌*◌, length, take, unsigned_abs}
use Rattle.gd_flat.proofs.Blocks.{NoneBefore}
use Rattle.gd_flat.specs.FlatTests.{greatest, highs, least, lows}
use Rattle.gd_flat.specs.PointRows.{rows_in}
use Rattle.gd_flat.proofs.extremes.extremes_along.Given as goal

abbrev pub invariant-loop-from : goal.invariant-loop-from
invariant-loop-from l = record {
  some : 0 < l.from;
  room : l.from ≤ length (rows_in l.face.points);
  lo : l.farthest.value ≡ greatest (take l.from (lows l.face.directions (rows_in l.face.points)));
  hi : l.nearest.value ≡ least (take l.from (highs l.face.directions (rows_in l.face.points)));
  farthest : NoneBefore l.farthest.value l.farthest.from (lows l.face.directions (rows_in l.face.points));
  nearest : NoneBefore l.nearest.value l.nearest.from (highs l.face.directions (rows_in l.face.points));
  lo_place : l.farthest.from ≤ length (rows_in l.face.points);
  hi_place : l.nearest.from ≤ length (rows_in l.face.points);
  lo_size : unsigned_abs l.farthest.value ≤ 3 * 2 ^ 54;
  hi_size : unsigned_abs l.nearest.value ≤ 3 * 2 ^ 54;
}

abbrev pub decreases-loop-from : goal.decreases-loop-from
decreases-loop-from l = length (rows_in l.face.points) - l.from
