use Rattle.std.proofs.Common.{◌≡◌, ◌-◌, ◌++◌, take, drop, length, replicate, pos}
use Rattle.gd_grid.specs.Cells.{middles_in}
use Rattle.gd_cells.specs.Grid.{MOST_DIMS}
use Rattle.gd_grid.proofs.places.middles.Given as goal

abbrev pub invariant-loop-n : goal.invariant-loop-n
invariant-loop-n l = record {
  done : take l.n l.at ++ middles_in (length l.ks) l.c l.n (drop l.n l.ks) ≡ middles_in (length l.ks) l.c 0 l.ks;
  rest : drop l.n l.at ≡ replicate (MOST_DIMS - l.n) (pos 0);
  room : length l.at ≡ MOST_DIMS;
}
