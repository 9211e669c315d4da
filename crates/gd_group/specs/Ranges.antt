-- Which placements a group is judged at: how far the file turns and shifts the part, about the part's first point, and
-- how many offsets the group's conditions name.
use Rattle.std.specs.Prelude.{List, [], ◌∷◌, Option, Some, None}
use Rattle.gd_group.specs.Conditions.{most_offsets}
use Rattle.gd_points.specs.declared.table.Row.{Row}
use Rattle.gd_tables.specs.Kinds.{File}
use Rattle.gd_tables.specs.declared.kind.Turn.{Turn}
use Rattle.gd_tables.specs.declared.kind.Turn.TheVariants as turn
use Rattle.gd_turn.specs.Ranges.{ORIGIN}
use Rattle.gd_turn.specs.declared.ranges.Ranges.{Ranges}
use Rattle.gd_turn.specs.declared.ranges.TurnRange.{TurnRange}
use Rattle.gd_turn.specs.declared.ranges.TurnRange.TheVariants as range
use Rattle.gd_vec.specs.declared.vector.V3.{V3}
use Rattle.gd_zone.specs.declared.condition.Condition.{Condition}

-- the part's first point, and the origin where it has none
abbrev pub base_of : List Row → V3
base_of [] = ORIGIN
base_of (row ∷ more) = row.at

-- how far a file turns the part
abbrev pub turned : Turn → TurnRange
turned turn.All = range.All
turned (turn.Within k) = range.Within k

-- shifts are counted from the centre that the file states, or from the part's first point
abbrev pub centre_or : V3 → Option V3 → V3
centre_or base None = base
centre_or base (Some centre) = centre

abbrev pub ranges_of : File → List Row → List Condition → Ranges
ranges_of file rows conditions = record {
  turn = turned file.turn;
  shift = file.shift;
  centre = centre_or (base_of rows) file.centre;
  offsets = most_offsets conditions;
}
