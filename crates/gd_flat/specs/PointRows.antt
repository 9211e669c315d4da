-- The rows of the points that a task judges.
use Rattle.std.specs.Prelude.{List, option_map}
use Rattle.gd_flat.specs.Judged.{chosen_rows}
use Rattle.gd_flat.specs.declared.points.Points.{Points}
use Rattle.gd_points.specs.declared.table.Row.{Row}

abbrev pub rows_in : Points → List Row
rows_in p = chosen_rows p.table.now.rows (option_map (λ n. n.now) p.numbers)
