-- The cells of three faces of a cube: on each face a grid of two ratios from -1 to 1, in 2^-30, that are halved in
-- turn.
use Rattle.std.specs.Prelude.{ℕ, ◌*◌, ◌/◌, ◌%◌, ◌^◌, ◌≤◌, ◌<◌, ℤ, pos, neg_ℤ, ◌+ℤ◌, get_or}
use Rattle.gd_base.specs.Scales.{ONE}
use Rattle.gd_cells.specs.Grid.{halvings, Grid}
use Rattle.gd_cells.specs.declared.cell.Cell.{Cell}

-- their grid: each step halves a ratio, the first (0) or the second (1)
abbrev pub faces : Grid
faces = record { roots = 3; dims = 2; numbers = 2; finest = 60; steps = λ step. step % 2 }

-- the number of a cell's box of a ratio, from 0, among the boxes of its size
abbrev pub index_at : ℕ → Cell → ℕ
index_at ratio c = get_or c.index ratio 0

-- how wide the boxes of a ratio are at a level
abbrev pub width_of : ℕ → ℕ → ℕ
width_of ratio level = 2 ^ 31 / 2 ^ halvings faces ratio level

-- the ends of a cell's box of a ratio, and its middle
abbrev pub low_end : ℕ → Cell → ℤ
low_end ratio c = neg_ℤ (pos ONE) +ℤ pos (index_at ratio c * width_of ratio c.level)

abbrev pub high_end : ℕ → Cell → ℤ
high_end ratio c = low_end ratio c +ℤ pos (width_of ratio c.level)

abbrev pub middle : ℕ → Cell → ℤ
middle ratio c = low_end ratio c +ℤ pos (width_of ratio c.level / 2)

-- a cell of one of three faces, no ratio of which was halved more than 30 times
pub record IsFaceCell (c : Cell) : Type 0 where
  pub first_root : 1 ≤ c.root
  pub last_root : c.root ≤ 3
  pub deepest : c.level ≤ 60
  pub first : index_at 0 c < 2 ^ halvings faces 0 c.level
  pub second : index_at 1 c < 2 ^ halvings faces 1 c.level
