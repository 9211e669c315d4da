-- The points that a task judges: all of a table, or those at some places of it, from 0.
use Rattle.std.specs.Prelude.{ℕ, Option, Some, None, List, map}
use Rattle.gd_points.specs.Index.{is_of, is_of_group, numbers_where, row_at}
use Rattle.gd_points.specs.declared.table.Row.{Row}

-- the places of the points of a feature, and of its group where one is stated
abbrev pub numbers_of : ℕ → Option ℕ → List Row → List ℕ
numbers_of feature None rows = numbers_where (is_of feature) rows
numbers_of feature (Some group) rows = numbers_where (is_of_group feature group) rows

-- the rows at some places
abbrev pub judged_rows : List Row → List ℕ → List Row
judged_rows rows judged = map (row_at rows) judged

-- the rows at some places, or all where none are stated
abbrev pub chosen_rows : List Row → Option (List ℕ) → List Row
chosen_rows rows None = rows
chosen_rows rows (Some judged) = judged_rows rows judged
