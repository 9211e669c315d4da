-- A table with one row more is a table.
use Rattle.std.proofs.Common.{◌≡◌, ℕ, ◌<◌, ◌≤◌, ◌++◌, length, List, [], ◌∷◌, true, refl, arith}
use Rattle.std.specs.Prelude.{nat_eq}
use Rattle.std.specs.Cmp.Lexicographic.{pointwise}
use Rattle.std.specs.List.{IsDistinct, position_or_len}
use Rattle.std.proofs.lemmas.List.{length-append}
use Rattle.std.proofs.lemmas.List.Elements.{All-push}
use Rattle.gd_base.specs.Limits.{COORDINATE, POINTS}
use Rattle.indexmap.specs.IndexSet.{insert_key}
use Rattle.gd_base.specs.Names.{is_name}
use Rattle.gd_points.proofs.Used.{features_more, longer_names, new_below, spelled_more, used_more}
use Rattle.gd_points.specs.Table.{IsTable, Table}
use Rattle.gd_points.specs.declared.table.Row.{Row}
use Rattle.gd_vec.specs.Vector.{IsWithin}

-- a row of the feature with this name, which is new or not
pub table_more : (t : Table) (row : Row) (name : List ℕ) (names : List (List ℕ)) → names ≡ insert_key (pointwise nat_eq) t.names name → IsTable t → IsDistinct (pointwise nat_eq) names → is_name name ≡ true
    → length t.rows < POINTS → row.feature ≡ position_or_len (pointwise nat_eq name) t.names → row.group ≤ 999 → IsWithin COORDINATE row.at → IsTable (record { rows = t.rows ++ row ∷ []; names = names })
table_more t row name names same is distinct spelled room feature group within =
    let size = length-append t.rows (row ∷ []) in
    let most = longer_names t.names name in
    let fewer = is.names in
    let below = new_below t.names name in
    rw same record {
      few = omega arith;
      names = omega arith;
      distinct = rw same at distinct;
      spelled = spelled_more t.names name is.spelled spelled;
      used = used_more t.rows t.names name row is.used feature;
      features = features_more t.rows t.names name row is.features (rw feature below);
      groups = All-push (λ (r : Row). r.group ≤ 999) t.rows row is.groups group;
      within = All-push (λ (r : Row). IsWithin COORDINATE r.at) t.rows row is.within within;
    }

abbrev pub table_of : List Row → List (List ℕ) → Table
table_of rows names = record { rows = rows; names = names }

pub table_is : (rows rows' : List Row) (names names' : List (List ℕ)) → rows ≡ rows' → names ≡ names' → table_of rows names ≡ table_of rows' names'
table_is rows rows' names names' same sames = rw (same, sames) refl
