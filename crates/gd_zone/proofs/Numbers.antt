-- The points of a condition by their numbers: their values are those of its rows.
use Rattle.std.proofs.Common.{◌≡◌, refl, sym, ap, ◌∙◌, ℕ, List, map, Bool, true, false, filter, ◌==◌, ◌&&◌, Some, None}
use Rattle.std.proofs.lemmas.Simd.{map-map}
use Rattle.std.proofs.Math.Path.{fun_ext}
use Rattle.gd_points.proofs.ByNumber.{rows_where}
use Rattle.gd_points.specs.Index.{is_of, is_of_group, numbers_where, row_at}
use Rattle.gd_points.specs.declared.table.Row.{Row}
use Rattle.gd_quat.specs.Formulas.{Ends}
use Rattle.gd_vec.specs.Vector.{difference}
use Rattle.gd_vec.specs.declared.vector.V3.{V3}
use Rattle.gd_zone.specs.Boxes.{PlacedEnds}
use Rattle.gd_zone.specs.Conditions.{belongs, is_of_feature}
use Rattle.gd_zone.specs.Conditions as conditions
use Rattle.gd_zone.specs.Extremes.{ends_by}
use Rattle.gd_zone.specs.Tests.{condition_holds, demanded_ends, ends_at, surface_holds}
use Rattle.gd_zone.specs.declared.condition.Condition.{Condition}

-- ---- the values of a condition's points, and of its feature's
pub values-by-number : (f : Row → Ends) (test : Row → Bool) (rows : List Row) → map (λ i. f (row_at rows i)) (numbers_where test rows) ≡ map f (filter test rows)
values-by-number f test rows = sym (map-map f (row_at rows) (numbers_where test rows)) ∙ ap (map f) (rows_where test rows)

pub ends-are : (b : PlacedEnds) (base : V3) (c : Condition) (rows : List Row) (test : Row → Bool) → map (ends_by b base c rows) (numbers_where test rows) ≡ map (ends_at b base c) (filter test rows)
unfolding ends_by
ends-are b base c rows test = values-by-number (ends_at b base c) test rows

pub ends-by-is : (b : PlacedEnds) (base : V3) (c : Condition) (rows : List Row) (i : ℕ) (v : V3) → v ≡ difference (row_at rows i).at base → demanded_ends c.surface c.demand b c.offset v ≡ ends_by b base c rows i
unfolding ends_by
ends-by-is b base c rows i v e = ap (demanded_ends c.surface c.demand b c.offset) e

-- the written test by numbers
pub holds-by-number : (b : PlacedEnds) (base : V3) (c : Condition) (rows : List Row)
    → surface_holds c.surface c.demand (map (ends_by b base c rows) (numbers_where (belongs c) rows)) (map (ends_by b base c rows) (numbers_where (is_of_feature c) rows)) ≡ condition_holds b base rows c
unfolding condition_holds
holds-by-number b base c rows =
    ap (λ vs. surface_holds c.surface c.demand vs (map (ends_by b base c rows) (numbers_where (is_of_feature c) rows))) (ends-are b base c rows (belongs c))
    ∙ ap (λ vs. surface_holds c.surface c.demand (map (ends_at b base c) (filter (belongs c) rows)) vs) (ends-are b base c rows (is_of_feature c))

-- ---- what an index finds
and-true : (t : Bool) → (t && true) ≡ t
and-true true = refl
and-true false = refl

-- without a group, those of the feature
pub points_of_feature : (c : Condition) (rows : List Row) → c.group ≡ None → numbers_where (is_of c.feature) rows ≡ numbers_where (belongs c) rows
points_of_feature c rows e = ap (λ t. numbers_where t rows) (fun_ext (λ row. sym (ap (λ g. (row.feature == c.feature) && conditions.is_of_group g row) e ∙ and-true (row.feature == c.feature))))

-- with one, those of the feature and of the group
pub points_of_group : (c : Condition) (rows : List Row) (group : ℕ) → c.group ≡ Some group → numbers_where (is_of_group c.feature group) rows ≡ numbers_where (belongs c) rows
points_of_group c rows group e = ap (λ t. numbers_where t rows) (fun_ext (λ row. sym (ap (λ g. (row.feature == c.feature) && conditions.is_of_group g row) e)))
