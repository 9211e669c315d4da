use Rattle.std.proofs.Common.{◌≡◌, take}
use Rattle.std.specs.List.{flat_map}
use Rattle.gd_search.specs.Rows.{rows_below}
use Rattle.gd_search.proofs.row.half_rows.Given as goal

abbrev pub invariant-loop-row : goal.invariant-loop-row
invariant-loop-row g l = l.below.items ≡ flat_map (rows_below (g.T.Task.questions l.task)) (take l.row-index l.rows)
