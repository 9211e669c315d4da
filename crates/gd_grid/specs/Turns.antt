-- Grids whose coordinates are halved in turn: first each of them once, then each a second time, and on.
use Rattle.std.specs.Prelude.{ℕ, ◌+◌, ◌*◌, ◌-◌, ◌/◌, ◌%◌, ◌^◌, ◌≤◌, ◌<◌, min, nat_lt, List, [], ◌∷◌, length, get_or}
use Rattle.std.specs.Prelude.{if◌then◌else◌}
use Rattle.gd_cells.specs.Grid.{Grid, MOST_DIMS}
use Rattle.gd_cells.specs.declared.cell.Cell.{Cell}
use Rattle.gd_grid.specs.Coordinates.{IsCoordinate}
use Rattle.gd_grid.specs.declared.coordinate.Coordinate.{Coordinate}

-- the coordinate that a step halves
abbrev pub in_turn : ℕ → ℕ → ℕ
in_turn dims step = step % dims

-- how often a coordinate is halved in so many full turns and some steps of the next
abbrev pub at_turn : ℕ → ℕ → ℕ → ℕ
at_turn full steps number = if nat_lt number steps then full + 1 else full

-- how often the first steps halve a coordinate
abbrev pub turns : ℕ → ℕ → ℕ → ℕ
turns dims number level = at_turn (level / dims) (level % dims) number

-- how many full turns leave each coordinate at least 2 wide, but no more than 60
abbrev pub full_turns : List Coordinate → ℕ
full_turns [] = 60
full_turns (k ∷ ks) = min (k.bits - 1) (full_turns ks)

-- the grid of some roots and coordinates
abbrev pub grid_of : ℕ → List Coordinate → Grid
grid_of roots ks = record {
  roots = roots;
  dims = length ks;
  numbers = length ks;
  finest = length ks * full_turns ks;
  steps = in_turn (length ks);
}

-- a coordinate has a box in a cell: it can be halved once more, and the cell's index counts boxes of that size
pub record HasBox (k : Coordinate) (number dims : ℕ) (c : Cell) : Type 0 where
  pub coordinate : IsCoordinate k
  pub inside : number < dims
  pub few : dims ≤ MOST_DIMS
  pub level : c.level ≤ 1000
  pub halvings : turns dims number c.level < k.bits
  pub index : get_or c.index number 0 < 2 ^ turns dims number c.level
