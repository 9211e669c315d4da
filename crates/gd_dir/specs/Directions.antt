-- Directions that lead along an axis, and the cells in which they lie.
use Rattle.std.specs.Prelude.{ℕ, ℤ, pos, ◌≤◌, ◌≡◌, ◌*ℤ◌, ◌≤ℤ◌, ◌<ℤ◌, ◌==◌, unsigned_abs, if◌then◌else◌}
use Rattle.gd_base.specs.Scales.{ONE}
use Rattle.gd_cells.specs.declared.cell.Cell.{Cell}
use Rattle.gd_dir.specs.Faces.{high_end, low_end}
use Rattle.gd_vec.specs.declared.vector.V3.{V3}

-- the entry of a vector along an axis, numbered from 1
abbrev pub entry : ℕ → V3 → ℤ
entry axis n = if axis == 1 then n.x else (if axis == 2 then n.y else n.z)

-- a direction that leads along an axis: its entry there is positive, and no other entry is larger in size
pub record LeadsAlong (axis : ℕ) (n : V3) : Type 0 where
  pub positive : pos 0 <ℤ entry axis n
  pub x : unsigned_abs n.x ≤ unsigned_abs (entry axis n)
  pub y : unsigned_abs n.y ≤ unsigned_abs (entry axis n)
  pub z : unsigned_abs n.z ≤ unsigned_abs (entry axis n)

-- the two other axes, in ascending order
abbrev pub first_other : ℕ → ℕ
first_other axis = if axis == 1 then 2 else 1

abbrev pub second_other : ℕ → ℕ
second_other axis = if axis == 3 then 2 else 3

-- the ratio x / lead, in 2^-30, is no less than lo and no greater than hi, where lead is positive: stated by products,
-- so that nothing is rounded
abbrev pub RatioWithin : ℤ → ℤ → ℤ → ℤ → Type 0
RatioWithin lo hi lead x = ((lo *ℤ lead) ≤ℤ (pos ONE *ℤ x)) × ((pos ONE *ℤ x) ≤ℤ (hi *ℤ lead))

-- a direction that leads along an axis lies in a cell: the axis is the cell's root, and the ratios of the other entries
-- to the leading one lie in the cell's boxes
pub record LiesIn (c : Cell) (axis : ℕ) (n : V3) : Type 0 where
  pub root : c.root ≡ axis
  pub first : RatioWithin (low_end 0 c) (high_end 0 c) (entry axis n) (entry (first_other axis) n)
  pub second : RatioWithin (low_end 1 c) (high_end 1 c) (entry axis n) (entry (second_other axis) n)
