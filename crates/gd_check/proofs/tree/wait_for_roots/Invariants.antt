use Rattle.std.proofs.Common.{◌≡◌, ◌-◌, ◌+◌, map, reverse}
use Rattle.std.specs.List.{All}
use Rattle.gd_cells.specs.Grid.{IsCell, count_from}
use Rattle.gd_cells.specs.Halves.{whole_root}
use Rattle.gd_check.proofs.tree.wait_for_roots.Given as goal

abbrev pub invariant-loop-index : goal.invariant-loop-index
invariant-loop-index g l = record {
  cells : All (IsCell (g.T.Task.questions l.task).grid) l.waiting.items;
  roots : reverse l.waiting.items ≡ map whole_root (count_from (l.roots - l.index + 1) l.index);
}
