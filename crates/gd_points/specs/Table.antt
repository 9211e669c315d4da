-- A table of points: its rows, and the names of its features in the order of their first rows.
use Rattle.std.specs.Prelude.{ℕ, ◌≡◌, true, ◌≤◌, ◌<◌, ◌++◌, List, [], ◌∷◌, length, nat_eq}
use Rattle.std.specs.Cmp.Lexicographic.{pointwise}
use Rattle.std.specs.List.{position_or_len, All, Any, IsDistinct}
use Rattle.gd_base.specs.Limits.{COORDINATE, POINTS}
use Rattle.indexmap.specs.IndexSet.{insert_key}
use Rattle.gd_base.specs.Names.{is_name}
use Rattle.gd_points.specs.declared.table.Row.{Row}
use Rattle.gd_vec.specs.Vector.{IsWithin}
use Rattle.gd_vec.specs.declared.vector.V3.{V3}

pub record Table : Type 0 where
  pub rows : List Row
  pub names : List (List ℕ)

abbrev pub empty_table : Table
empty_table = record { rows = []; names = [] }

-- the number of a feature: where its name stands, or the next one
abbrev pub number_of_name : Table → List ℕ → ℕ
number_of_name t name = position_or_len (pointwise nat_eq name) t.names

-- the table with one more row
abbrev pub with_point : Table → List ℕ → ℕ → V3 → Table
with_point t name group at = record {
  rows = t.rows ++ record { feature = number_of_name t name; group = group; at = at } ∷ [];
  names = insert_key (pointwise nat_eq) t.names name;
}

-- each feature number below the count has a row
abbrev pub HasRows : List Row → ℕ → Type 0
HasRows rows count = (feature : ℕ) → feature < count → Any (λ row. row.feature ≡ feature) rows

abbrev pub AreNames : List (List ℕ) → Type 0
AreNames names = All (λ name. is_name name ≡ true) names

-- at most 200,000 rows; the names are names, differ, and each has a row;
-- each row's feature has a name, its group is at most 999 and its coordinates lie within 8,000,000 units
pub record IsTable (t : Table) : Type 0 where
  pub few : length t.rows ≤ POINTS
  pub names : length t.names ≤ length t.rows
  pub distinct : IsDistinct (pointwise nat_eq) t.names
  pub spelled : AreNames t.names
  pub used : HasRows t.rows (length t.names)
  pub features : All (λ row. row.feature < length t.names) t.rows
  pub groups : All (λ row. row.group ≤ 999) t.rows
  pub within : All (λ row. IsWithin COORDINATE row.at) t.rows
