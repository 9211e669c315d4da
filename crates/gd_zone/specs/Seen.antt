-- What a subject speaks of, and what a view shows: the rows of the table, the numbers of the points, their values.
use Rattle.std.specs.Prelude.{ℕ, Bool, List}
use Rattle.gd_points.specs.Index.{numbers_where}
use Rattle.gd_points.specs.declared.table.Row.{Row}
use Rattle.gd_quat.specs.Formulas.{Ends}
use Rattle.gd_quat.specs.Placements.{Placement}
use Rattle.gd_vec.specs.declared.vector.V3.{V3}
use Rattle.gd_zone.specs.Boxes.{PlacedEnds, placed_ends}
use Rattle.gd_zone.specs.Conditions.{Meets, belongs, is_of_feature}
use Rattle.gd_zone.specs.Extremes.{ends_by}
use Rattle.gd_zone.specs.Tests.{condition_holds}
use Rattle.gd_zone.specs.declared.subject.Subject.{Subject}
use Rattle.gd_zone.specs.declared.view.View.{View}

-- ---- a condition beside its points
-- it holds over a box of placements by its written test
abbrev pub subject_holds : PlacedEnds → V3 → Subject → Bool
subject_holds b base s = condition_holds b base s.index.now.table.now.rows s.condition

-- a placement meets it
abbrev pub SubjectMet : Placement → V3 → Subject → Type 0
SubjectMet p base s = Meets p base s.index.now.table.now.rows s.condition

-- ---- over a box
-- the rows of the table
abbrev pub rows_in : View → List Row
rows_in v = v.subject.now.index.now.table.now.rows

-- the numbers of the condition's points, and of all points of its feature
abbrev pub points_in : View → List ℕ
points_in v = numbers_where (belongs v.subject.now.condition) (rows_in v)

abbrev pub feature_in : View → List ℕ
feature_in v = numbers_where (is_of_feature v.subject.now.condition) (rows_in v)

-- the ends of the value of a point by its number
abbrev pub value_in : View → ℕ → Ends
value_in v = ends_by (placed_ends v.placed.now) v.base.now v.subject.now.condition (rows_in v)
