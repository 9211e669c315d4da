-- Flatness: a feature conforms where a zone between two parallel planes, as wide as the tolerance, holds all its
-- points.
use Rattle.std.specs.Prelude.{ℕ, pos, ◌≤◌, List}
use Rattle.std.specs.List.{All}
use Rattle.gd_dir.specs.Directions.{LeadsAlong}
use Rattle.gd_int.specs.Comparisons.{AtMost}
use Rattle.gd_points.specs.declared.table.Row.{Row}
use Rattle.gd_vec.specs.Vector.{difference, dot_of, norm2_of}
use Rattle.gd_vec.specs.declared.vector.V3.{V3}

-- two points are no further apart along n than the tolerance, both times the length of n
abbrev pub IsWithinTolerance : ℕ → V3 → V3 → V3 → Type 0
IsWithinTolerance tolerance n a b = AtMost (dot_of n (difference a b)) (pos tolerance) (norm2_of n)

-- the zone normal to n that is as wide as the tolerance holds all points: no two of them are further apart along n
abbrev pub HasZone : List Row → ℕ → V3 → Type 0
HasZone rows tolerance n = All (λ (a : Row). All (λ (b : Row). IsWithinTolerance tolerance n a.at b.at) rows) rows

-- the points are flat to the tolerance along a direction that leads along one of the three axes
pub record IsFlatAlong (rows : List Row) (tolerance : ℕ) (axis : ℕ) (n : V3) : Type 0 where
  pub first : 1 ≤ axis
  pub last : axis ≤ 3
  pub leads : LeadsAlong axis n
  pub zone : HasZone rows tolerance n

-- the points are flat to the tolerance: they are so along some direction
pub record IsFlat (rows : List Row) (tolerance : ℕ) : Type 0 where
  pub axis : ℕ
  pub direction : V3
  pub along : IsFlatAlong rows tolerance axis direction
