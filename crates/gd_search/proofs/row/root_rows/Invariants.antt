use Rattle.std.proofs.Common.{◌≡◌, map, vec_len}
use Rattle.gd_cells.specs.Grid.{count_from}
use Rattle.gd_cells.specs.Halves.{whole_root}
use Rattle.gd_search.specs.Rows.{fresh}
use Rattle.gd_search.proofs.row.root_rows.Given as goal

abbrev pub invariant-loop-index : goal.invariant-loop-index
invariant-loop-index l = (l.rows.items ≡ map (λ r. fresh (whole_root r)) (count_from 1 l.index)) × (vec_len l.rows ≡ l.index)
