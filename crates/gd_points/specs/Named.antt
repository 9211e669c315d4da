-- Which feature a point is of: one that has points, by its number, or the one with a name.
use Rattle.std.specs.Prelude.{ℕ, ◌<◌, List, [], length, get_or, ⊤}
use Rattle.gd_points.specs.declared.table.Named.{Named}
use Rattle.gd_points.specs.declared.table.Named.TheVariants as named

-- the name that is meant, where these names have their numbers
abbrev pub name_in : List (List ℕ) → Named → List ℕ
name_in names (named.Again feature) = get_or names feature []
name_in names (named.Other name) = name

-- a number is that of one of these names
abbrev pub IsNamed : List (List ℕ) → Named → Type 0
IsNamed names (named.Again feature) = feature < length names
IsNamed names (named.Other name) = ⊤
