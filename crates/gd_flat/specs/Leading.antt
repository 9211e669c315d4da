-- The coordinates of the points along the axis on which a box of directions leads, and along the two others.
use Rattle.std.specs.Prelude.{ℕ, ℤ, pos, ◌≡◌, ◌≤◌, List, map}
use Rattle.gd_base.specs.Scales.{ONE}
use Rattle.gd_dir.specs.Directions.{entry}
use Rattle.gd_dir.specs.declared.shape.DirBox.{DirBox}
use Rattle.gd_points.specs.declared.table.Row.{Row}

-- along its leading axis every direction of the box is 1
pub record LeadsByOne (b : DirBox) : Type 0 where
  pub first : 1 ≤ b.lead
  pub last : b.lead ≤ 3
  pub lo : entry b.lead b.lo ≡ pos ONE
  pub hi : entry b.lead b.hi ≡ pos ONE

-- the coordinates of the points along an axis
abbrev pub coordinates : ℕ → List Row → List ℤ
coordinates axis rows = map (λ (row : Row). entry axis row.at) rows

-- the coordinates along an axis, and the ends of the box's entry there
pub record IsAxis (axis : ℕ) (b : DirBox) (rows : List Row) (values : List ℤ) (low high : ℤ) : Type 0 where
  pub along : values ≡ coordinates axis rows
  pub lo : low ≡ entry axis b.lo
  pub hi : high ≡ entry axis b.hi
