-- The points of a table as they are kept: the feature and group of each, and beside them its coordinates, axis by axis.
use Rattle.std.specs.Prelude.{ℤ, ◌≡◌, List, [], ◌∷◌, map}
use Rattle.gd_points.specs.Table.{IsTable, Table}
use Rattle.gd_points.specs.declared.table.Label.{Label}
use Rattle.gd_points.specs.declared.table.Row.{Row}

-- the feature and the group of a row
abbrev pub label_of : Row → Label
label_of row = record { feature = row.feature; group = row.group }

-- the row of a label and its coordinates
abbrev pub row_of : Label → ℤ → ℤ → ℤ → Row
row_of label x y z = record { feature = label.feature; group = label.group; at = record { x = x; y = y; z = z } }

-- the rows of labels and their coordinates, in order
abbrev pub rows_of : List Label → List ℤ → List ℤ → List ℤ → List Row
rows_of (label ∷ labels) (x ∷ xs) (y ∷ ys) (z ∷ zs) = row_of label x y z ∷ rows_of labels xs ys zs
rows_of labels xs ys zs = []

-- the coordinates of the rows in order
pub record AreColumns (xs ys zs : List ℤ) (rows : List Row) : Type 0 where
  pub x : xs ≡ map (λ (row : Row). row.at.x) rows
  pub y : ys ≡ map (λ (row : Row). row.at.y) rows
  pub z : zs ≡ map (λ (row : Row). row.at.z) rows

-- a table whose rows have these labels and coordinates
pub record HasColumns (t : Table) (labels : List Label) (xs ys zs : List ℤ) : Type 0 where
  pub table : IsTable t
  pub kept : labels ≡ map label_of t.rows
  pub columns : AreColumns xs ys zs t.rows
