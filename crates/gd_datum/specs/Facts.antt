-- What is so of each condition that stands in a list.
use Rattle.std.specs.Prelude.{◌≡◌, true, List}
use Rattle.std.specs.List.{Any}
use Rattle.gd_points.specs.declared.table.Row.{Row}
use Rattle.gd_zone.specs.Conditions.{belongs}
use Rattle.gd_zone.specs.declared.condition.Condition.{Condition}

-- some point is judged by the condition: its feature has one, and its group where it names one
abbrev pub HasPoints : List Row → Condition → Type 0
HasPoints rows c = Any (λ row. belongs c row ≡ true) rows
