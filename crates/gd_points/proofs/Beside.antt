-- The labels and coordinates of rows, and of one row more.
use Rattle.std.proofs.Common.{◌≡◌, refl, sym, ap, ◌∙◌, ℕ, ℤ, ◌<◌, ◌++◌, List, [], ◌∷◌, map}
use Rattle.std.proofs.lemmas.List.{map-append}
use Rattle.std.proofs.lemmas.List.Elements.{All-map}
use Rattle.std.specs.List.{All}
use Rattle.gd_points.specs.Columns.{AreColumns, HasColumns, label_of, rows_of}
use Rattle.gd_points.specs.Table.{IsTable, Table}
use Rattle.gd_points.specs.declared.table.Label.{Label}
use Rattle.gd_points.specs.declared.table.Row.{Row}

-- the rows of their own labels and coordinates
rows_again : (rows : List Row) → rows_of (map label_of rows) (map (λ (r : Row). r.at.x) rows) (map (λ (r : Row). r.at.y) rows) (map (λ (r : Row). r.at.z) rows) ≡ rows
rows_again [] = refl
rows_again (row ∷ rows) = ap (λ rs. row ∷ rs) (rows_again rows)

pub rows_back : (labels : List Label) (xs ys zs : List ℤ) (rows : List Row) → labels ≡ map label_of rows → AreColumns xs ys zs rows → rows_of labels xs ys zs ≡ rows
rows_back labels xs ys zs rows is are = rw (is, are.x, are.y, are.z) (rows_again rows)

-- a table that is kept so
pub kept : (t : Table) (labels : List Label) (xs ys zs : List ℤ) → IsTable t → labels ≡ map label_of t.rows → AreColumns xs ys zs t.rows → HasColumns (record { rows = rows_of labels xs ys zs; names = t.names }) labels xs ys zs
kept t labels xs ys zs table is are = rw (rows_back labels xs ys zs t.rows is are) record { table = table; kept = is; columns = are }

column_more : (f : Row → ℤ) (xs ys : List ℤ) (rows : List Row) (row : Row) → xs ≡ map f rows → ys ≡ xs ++ f row ∷ [] → ys ≡ map f (rows ++ row ∷ [])
column_more f xs ys rows row is more = more ∙ ap (λ zs. zs ++ f row ∷ []) is ∙ sym (map-append f rows (row ∷ []))

pub columns_more : (xs ys zs xs' ys' zs' : List ℤ) (rows : List Row) (row : Row) → AreColumns xs ys zs rows
    → xs' ≡ xs ++ row.at.x ∷ [] → ys' ≡ ys ++ row.at.y ∷ [] → zs' ≡ zs ++ row.at.z ∷ [] → AreColumns xs' ys' zs' (rows ++ row ∷ [])
columns_more xs ys zs xs' ys' zs' rows row are x y z = record {
  x = column_more (λ (r : Row). r.at.x) xs xs' rows row are.x x;
  y = column_more (λ (r : Row). r.at.y) ys ys' rows row are.y y;
  z = column_more (λ (r : Row). r.at.z) zs zs' rows row are.z z;
}

pub labels_more : (labels labels' : List Label) (rows : List Row) (row : Row) → labels ≡ map label_of rows → labels' ≡ labels ++ label_of row ∷ [] → labels' ≡ map label_of (rows ++ row ∷ [])
labels_more labels labels' rows row is more = more ∙ ap (λ ls. ls ++ label_of row ∷ []) is ∙ sym (map-append label_of rows (row ∷ []))

-- a label that was pushed to a list as it was
pub pushed : (old kept new : List Label) (feature number group : ℕ) → new ≡ kept ++ record { feature = feature; group = group } ∷ [] → kept ≡ old → feature ≡ number → new ≡ old ++ record { feature = number; group = group } ∷ []
pushed old kept new feature number group is same equal = is ∙ rw (same, equal) refl

-- the labels of rows have their features
pub labels_below : (count : ℕ) (labels : List Label) (rows : List Row) → labels ≡ map label_of rows → All (λ (r : Row). r.feature < count) rows → All (λ (l : Label). l.feature < count) labels
labels_below count labels rows is all = rw is (All-map (λ (l : Label). l.feature < count) label_of rows all)
