-- The table that a points file stands for, or its first fault: row by row, and in a row from left to right.
use Rattle.std.specs.Prelude.{ℕ, ◌+◌, ℤ, pos, negsuc, Bool, false, List, [], ◌∷◌, Option, Some, None, Result, Ok}
use Rattle.std.specs.Prelude.{Err, length, nat_lt, nat_eq, ◌==◌, ◌&&◌, int_le, unsigned_abs, codes, if◌then◌else◌}
use Rattle.std.specs.Cmp.Lexicographic.{pointwise}
use Rattle.gd_base.specs.Causes.{and_then_read}
use Rattle.gd_base.specs.Limits.{COORDINATE, POINTS}
use Rattle.csv.specs.Reading.{default_config, records, strip_bom}
use Rattle.gd_base.specs.Names.{name_of}
use Rattle.gd_base.specs.declared.fault.InputFault.{InputFault}
use Rattle.gd_points.specs.Numbers.{number_of}
use Rattle.gd_points.specs.Rules.{fault}
use Rattle.gd_points.specs.Table.{Table, empty_table, with_point}
use Rattle.gd_points.specs.declared.rule.Rule.TheVariants as rule
use Rattle.gd_vec.specs.declared.vector.V3.{V3}

-- what an option has, or else a fault
abbrev pub or_fault : {A : Type 0} → Option A → InputFault → Result A InputFault
or_fault None e = Err e
or_fault (Some x) e = Ok x

-- the fields of a record of five
pub record Five : Type 0 where
  pub name : List ℕ
  pub group : List ℕ
  pub x : List ℕ
  pub y : List ℕ
  pub z : List ℕ

abbrev pub five_of : List (List ℕ) → Option Five
five_of (name ∷ group ∷ x ∷ y ∷ z ∷ []) = Some (record { name = name; group = group; x = x; y = y; z = z })
five_of fields = None

-- the number of a field: Number where it spells none, and then Range where the number isn't from `low` to `high`
abbrev pub number_in : ℕ → ℕ → ℤ → ℤ → List ℕ → Result ℤ InputFault
number_in row column low high field =
    and_then_read (or_fault (number_of field) (fault rule.Number row column)) (λ n.
    if int_le low n && int_le n high then Ok n else Err (fault rule.Range row column))

-- a group is a number from 0 to 999
abbrev pub group_in : ℕ → List ℕ → Result ℕ InputFault
group_in row field = and_then_read (number_in row 2 (pos 0) (pos 999) field) (λ n. Ok (unsigned_abs n))

-- a coordinate is a number from -8,000,000 to 8,000,000
abbrev pub coordinate_in : ℕ → ℕ → List ℕ → Result ℤ InputFault
coordinate_in row column field = number_in row column (negsuc 7999999) (pos COORDINATE) field

-- the three coordinates, from left to right
abbrev pub place_in : ℕ → Five → Result V3 InputFault
place_in row five =
    and_then_read (coordinate_in row 3 five.x) (λ x.
    and_then_read (coordinate_in row 4 five.y) (λ y.
    and_then_read (coordinate_in row 5 five.z) (λ z. Ok (record { x = x; y = y; z = z }))))

pub record Point : Type 0 where
  pub name : List ℕ
  pub group : ℕ
  pub at : V3

-- the point that five fields spell
abbrev pub point_in : ℕ → Five → Result Point InputFault
point_in row five =
    and_then_read (or_fault (name_of five.name) (fault rule.Name row 1)) (λ name.
    and_then_read (group_in row five.group) (λ group.
    and_then_read (place_in row five) (λ at. Ok (record { name = name; group = group; at = at }))))

-- the row of a point in the file: the header is row 1
abbrev pub next_row : Table → ℕ
next_row t = length t.rows + 2

-- the table with the point of one more record
abbrev pub with_record : Table → List (List ℕ) → Result Table InputFault
with_record t fields =
    and_then_read (or_fault (five_of fields) (fault rule.Fields (next_row t) 0)) (λ five.
    if nat_lt (length t.rows) POINTS
    then and_then_read (point_in (next_row t) five) (λ p. Ok (with_point t p.name p.group p.at))
    else Err (fault rule.TooManyPoints (next_row t) 0))

-- the table with the points of these records
abbrev pub with_records : Table → List (List (List ℕ)) → Result Table InputFault
with_records t [] = Ok t
with_records t (fields ∷ rest) = and_then_read (with_record t fields) (λ u. with_records u rest)

-- a table that has points
abbrev pub with_points : Table → Result Table InputFault
with_points t = if length t.rows == 0 then Err (fault rule.NoPoints 2 0) else Ok t

-- the table with the points of these records, which are the last of the file
abbrev pub points_from : Table → List (List (List ℕ)) → Result Table InputFault
points_from t records = and_then_read (with_records t records) with_points

-- whether five fields are `feature`, `group`, `x`, `y`, `z`
abbrev pub is_header : Option Five → Bool
is_header None = false
is_header (Some f) = pointwise nat_eq f.name (codes "feature") && pointwise nat_eq f.group (codes "group")
    && pointwise nat_eq f.x (codes "x") && pointwise nat_eq f.y (codes "y") && pointwise nat_eq f.z (codes "z")

-- the first record is the header, and the others are points
abbrev pub points_of : List (List (List ℕ)) → Result Table InputFault
points_of [] = Err (fault rule.Header 1 0)
points_of (fields ∷ rest) =
    if is_header (five_of fields) then points_from empty_table rest else Err (fault rule.Header 1 0)

-- the table of a file, or its first fault: a byte order mark is dropped, and `csv` drops one more before it splits the
-- rest into records
abbrev pub points : List ℕ → Result Table InputFault
points bytes = points_of (records default_config (strip_bom (strip_bom bytes)))
