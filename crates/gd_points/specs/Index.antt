-- The points of a feature, and of a feature and group, by their numbers. A point's number is the place of its row, from 0.
use Rattle.std.specs.Prelude.{ℕ, ◌+◌, ◌*◌, ◌<◌, ◌≡◌, ℤ, pos, Bool, false, List, Option, Some, None, get_or, length, slice_get}
use Rattle.std.specs.Prelude.{filter, map, ◌==◌, ◌&&◌}
use Rattle.std.specs.List.{All, list_any, range_with_len}
use Rattle.std.specs.List.Sorted.{IsNonDecreasingBy}
use Rattle.gd_points.specs.Columns.{AreColumns, label_of}
use Rattle.gd_points.specs.declared.index.OrderBy.{OrderBy}
use Rattle.gd_points.specs.declared.index.OrderBy.TheVariants as by
use Rattle.gd_points.specs.declared.table.Label.{Label}
use Rattle.gd_points.specs.declared.table.Row.{Row}

-- a row is of the feature
abbrev pub is_of : ℕ → Row → Bool
is_of feature row = row.feature == feature

-- a row is of the feature, and of this group of it
abbrev pub is_of_group : ℕ → ℕ → Row → Bool
is_of_group feature group row = (row.feature == feature) && (row.group == group)

-- some point of a feature has a group
abbrev pub has_group : List Row → ℕ → ℕ → Bool
has_group rows feature group = list_any (is_of_group feature group) rows

abbrev pub passes : (Row → Bool) → Option Row → Bool
passes test None = false
passes test (Some row) = test row

-- the numbers of the rows that pass a test, ascending
abbrev pub numbers_where : (Row → Bool) → List Row → List ℕ
numbers_where test rows = filter (λ i. passes test (slice_get rows i)) (range_with_len 0 (length rows))

-- the row with a number, and one of noughts where there is none
abbrev pub row_at : List Row → ℕ → Row
row_at rows i = get_or rows i (record { feature = 0; group = 0; at = record { x = pos 0; y = pos 0; z = pos 0 } })

-- ---- how an index keeps them
-- what numbers are ordered by: the feature, or the feature and then the group
abbrev pub key_of : OrderBy → Label → ℕ
key_of by.Feature label = label.feature
key_of by.Group label = label.feature * 4294967296 + label.group

-- the key of a point by its number, and 0 where there is none
abbrev pub key_in : OrderBy → Option Label → ℕ
key_in order None = 0
key_in order (Some label) = key_of order label

abbrev pub key_at : OrderBy → List Label → ℕ → ℕ
key_at order labels i = key_in order (slice_get labels i)

-- these are the numbers of all points, ordered by their keys, and those of one key ascend
pub record IsOrdered (order : OrderBy) (labels : List Label) (numbers : List ℕ) : Type 0 where
  pub up : IsNonDecreasingBy (key_at order labels) numbers
  pub same : (key : ℕ) → filter (λ i. key_at order labels i == key) numbers
      ≡ filter (λ i. key_at order labels i == key) (range_with_len 0 (length labels))

-- these are the numbers of all points in this order, and beside them the coordinates of the same points
pub record IsInOrder (order : OrderBy) (rows : List Row) (numbers : List ℕ) (xs ys zs : List ℤ) : Type 0 where
  pub ordered : IsOrdered order (map label_of rows) numbers
  pub below : All (λ i. i < length rows) numbers
  pub columns : AreColumns xs ys zs (map (row_at rows) numbers)
