use Rattle.std.proofs.Common.{◌≡◌, ◌+◌, drop, reverse}
use Rattle.std.specs.List.{All}
use Rattle.gd_cells.specs.Grid.{IsCell}
use Rattle.gd_check.specs.Wrong.{kind_of, root_cells, wrong_line}
use Rattle.gd_check.proofs.tree.wrong_line.Given as goal

abbrev pub invariant-loop-node : goal.invariant-loop-node
invariant-loop-node g l = record {
  line : l.line ≡ l.first_line + l.node-index;
  cells : All (IsCell (g.T.Task.questions l.task).grid) l.waiting.items;
  left : wrong_line (g.T.Task.questions l.task) (kind_of l.tree_of) (reverse l.waiting.items) l.line (drop l.node-index l.tree)
      ≡ wrong_line (g.T.Task.questions l.task) (kind_of l.tree_of) (root_cells (g.T.Task.questions l.task)) l.first_line l.tree;
}
