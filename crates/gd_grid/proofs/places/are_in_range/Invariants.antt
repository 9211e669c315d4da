use Rattle.std.proofs.Common.{◌≡◌, drop}
use Rattle.gd_grid.specs.Cells.{are_in_range}
use Rattle.gd_grid.proofs.places.are_in_range.Given as goal

abbrev pub invariant-loop-n : goal.invariant-loop-n
invariant-loop-n l = are_in_range (drop l.n l.ks) (drop l.n l.numbers) ≡ are_in_range l.ks l.numbers
