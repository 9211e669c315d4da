use Rattle.std.proofs.Common.{◌≡◌, ◌++◌, map, take, drop}
use Rattle.gd_search.specs.Rows.{judged}
use Rattle.gd_search.proofs.row.bound_rows.Given as goal

abbrev pub invariant-loop-row : goal.invariant-loop-row
invariant-loop-row g l = l.rows ≡ map (judged (g.T.Task.questions l.task)) (take l.row-index l.fn.rows) ++ drop l.row-index l.fn.rows
