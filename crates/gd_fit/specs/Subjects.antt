-- The conditions of a group beside their points.
use Rattle.std.specs.Prelude.{◌≡◌, List, map}
use Rattle.std.specs.List.{All}
use Rattle.gd_points.specs.declared.table.Row.{Row}
use Rattle.gd_zone.specs.Conditions.{IsCondition}
use Rattle.gd_zone.specs.declared.condition.Condition.{Condition}
use Rattle.gd_zone.specs.declared.subject.Subject.{Subject}

abbrev pub conditions_of : List Subject → List Condition
conditions_of subjects = map (λ (s : Subject). s.condition) subjects

-- each is one that is judged
abbrev pub AreJudged : List Subject → Type 0
AreJudged subjects = All (λ (s : Subject). IsCondition s.condition) subjects

-- they speak of the points of one table
abbrev pub SpeakOf : List Row → List Subject → Type 0
SpeakOf rows subjects = All (λ (s : Subject). s.index.now.table.now.rows ≡ rows) subjects
