-- The grid of cells: roots, and a list of steps that halve one coordinate each.
use Rattle.std.specs.Prelude.{ℕ, zero, suc, ◌+◌, ◌*◌, ◌/◌, ◌%◌, ◌-◌, ◌^◌, ◌≤◌, ◌<◌, ◌≡◌, ◌==◌, List, [], ◌∷◌, replicate, ◌++◌, map, if◌then◌else◌}
use Rattle.gd_cells.specs.declared.cell.Cell.{Cell}

-- the most coordinates of a cell, and the most numbers of a witness
abbrev pub MOST_DIMS : ℕ
MOST_DIMS = 12

pub record Grid : Type 0 where
  -- how many roots, coordinates, and numbers of a witness there are
  pub roots : ℕ
  pub dims : ℕ
  pub numbers : ℕ
  -- the finest level: its cells aren't halved
  pub finest : ℕ
  -- the coordinate that each step halves, counted from 0
  pub steps : ℕ → ℕ

-- how often the first l steps halve a coordinate
abbrev pub halvings : Grid → ℕ → ℕ → ℕ
halvings g coordinate zero = 0
halvings g coordinate (suc l) = if g.steps l == coordinate then halvings g coordinate l + 1 else halvings g coordinate l

-- the index of a coordinate: the number that its own choices on the path spell. The last step's choice is the last bit of the path
abbrev pub index_of : Grid → ℕ → ℕ → ℕ → ℕ
index_of g coordinate zero path = 0
index_of g coordinate (suc l) path =
    if g.steps l == coordinate then 2 * index_of g coordinate l (path / 2) + path % 2 else index_of g coordinate l (path / 2)

-- n numbers from a on
abbrev pub count_from : ℕ → ℕ → List ℕ
count_from a zero = []
count_from a (suc n) = a ∷ count_from (a + 1) n

-- the cell of a root, a level and a path: the indexes of its coordinates, and 0 after them
unfoldable pub cell_of : Grid → ℕ → ℕ → ℕ → Cell
cell_of g root level path =
    record { root = root; level = level; index = map (λ c. index_of g c level path) (count_from 0 g.dims) ++ replicate (MOST_DIMS - g.dims) 0 }

-- a cell that the roots and halvings of the grid give
pub record IsCell (g : Grid) (c : Cell) : Type 0 where
  pub root : ℕ
  pub level : ℕ
  pub path : ℕ
  pub first_root : 1 ≤ root
  pub last_root : root ≤ g.roots
  pub deepest : level ≤ g.finest
  pub inside : path < 2 ^ level
  pub same : c ≡ cell_of g root level path
