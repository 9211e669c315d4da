use Rattle.std.proofs.Common.{◌≡◌, ◌∙◌, ◌-◌, ◌==◌, ℕ, ℤ, List, ap, drop, length, map, sym, take}
use Rattle.gd_base.specs.Limits.{COORDINATE, POINTS}
use Rattle.gd_points.specs.Columns.{AreColumns}
use Rattle.gd_points.specs.Index.{key_at, row_at}
use Rattle.gd_points.specs.declared.table.Row.{Row}
use Rattle.gd_points.proofs.ByNumber.{as_long, column_within, columns_part, few_of}
use Rattle.gd_points.proofs.index.InOrder.with_key.Goals as goal

-- the columns of the part are those of its numbers
part : (rows : List Row) (n m : ℕ) (kept numbers : List ℕ) (us vs ws xs ys zs : List ℤ) → numbers ≡ kept → xs ≡ us → ys ≡ vs → zs ≡ ws
    → AreColumns us vs ws (map (row_at rows) kept)
    → AreColumns (take n (drop m xs)) (take n (drop m ys)) (take n (drop m zs)) (map (row_at rows) (take n (drop m numbers)))
part rows n m kept numbers us vs ws xs ys zs same x y z are =
    columns_part rows n m xs ys zs numbers record {
      x = x ∙ are.x ∙ ap (λ ns. map (λ (row : Row). row.at.x) (map (row_at rows) ns)) (sym same);
      y = y ∙ are.y ∙ ap (λ ns. map (λ (row : Row). row.at.y) (map (row_at rows) ns)) (sym same);
      z = z ∙ are.z ∙ ap (λ ns. map (λ (row : Row). row.at.z) (map (row_at rows) ns)) (sym same);
    }

pub invariant_of-result : goal.invariant_of-result
invariant_of-result c =
    let rows = c.args.table.now.rows in
    let are = part rows (c.places_of-from.result.end - c.places_of-from.result.from) c.places_of-from.result.from _ c.as_slice-numbers.result.now _ _ _ _ _ _ c.as_slice-numbers.ensures.value c.deref.ensures.value c.deref-2.ensures.value c.deref-3.ensures.value c.requires.columns in
    record {
      few = few_of (λ i. key_at c.args.order c.labels.result.now i == c.args.key) (length c.labels.result.now) POINTS _ c.places_of-from.ensures.all c.labels.ensures.few;
      x = as_long (λ (row : Row). row.at.x) rows _ _ are.x;
      y = as_long (λ (row : Row). row.at.y) rows _ _ are.y;
      z = as_long (λ (row : Row). row.at.z) rows _ _ are.z;
      x_within = column_within COORDINATE (λ (row : Row). row.at.x) rows _ _ (λ row within. within.x) c.labels.ensures.within are.x;
      y_within = column_within COORDINATE (λ (row : Row). row.at.y) rows _ _ (λ row within. within.y) c.labels.ensures.within are.y;
      z_within = column_within COORDINATE (λ (row : Row). row.at.z) rows _ _ (λ row within. within.z) c.labels.ensures.within are.z;
    }

pub returns-clause-columns : goal.returns-clause-columns
returns-clause-columns c =
    part c.args.table.now.rows (c.places_of-from.result.end - c.places_of-from.result.from) c.places_of-from.result.from _ c.as_slice-numbers.result.now _ _ _ _ _ _ c.as_slice-numbers.ensures.value c.deref.ensures.value c.deref-2.ensures.value c.deref-3.ensures.value c.requires.columns
