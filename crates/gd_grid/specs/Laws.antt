-- What the boxes of cells cover, for any list of coordinates and any grid that halves them.
use Rattle.std.specs.Prelude.{ℕ, ℤ, pos, suc, ◌+◌, ◌*◌, ◌<◌, ◌≤◌, ◌≡◌, ◌≢◌, ◌⊎◌, ◌+ℤ◌, ◌*ℤ◌, ◌≤ℤ◌, true, List, length}
use Rattle.gd_cells.specs.Grid.{Grid, IsCell, MOST_DIMS, cell_of, halvings}
use Rattle.gd_cells.specs.Laws.{IsGrid, NamesPlace}
use Rattle.gd_cells.specs.declared.cell.Cell.{Cell}
use Rattle.gd_cells.specs.declared.cell.Witness.{Witness}
use Rattle.gd_grid.specs.Cells.{AreInRange, Fraction, IsGridOf, LieIn, centre_of, coordinate_at, high_end, high_in}
use Rattle.gd_grid.specs.Cells.{is_in_range, low_end, low_in, middle, middle_in, number_at}
use Rattle.gd_grid.specs.Coordinates.{IsCoordinate, high}
use Rattle.gd_grid.specs.Turns.{HasBox, grid_of, turns}
use Rattle.gd_grid.specs.declared.coordinate.Coordinate.{Coordinate}

-- 1 to 4 roots and 1 to 12 coordinates make a grid, and it halves them
pub record AreCoordinates (ks : List Coordinate) : Type 0 where
  pub some : 1 ≤ length ks
  pub few : length ks ≤ MOST_DIMS
  pub each : (n : ℕ) → n < length ks → IsCoordinate (coordinate_at ks n)

abbrev pub CoordinatesMakeGrid : Type 0
CoordinatesMakeGrid = (roots : ℕ) (ks : List Coordinate) → 1 ≤ roots → roots ≤ 4 → AreCoordinates ks
    → IsGrid (grid_of roots ks) × IsGridOf (grid_of roots ks) ks

-- fractions in range lie in each root
abbrev pub RootsCover : Type 0
RootsCover = (g : Grid) (ks : List Coordinate) (vs : List Fraction) (root : ℕ) → g.dims ≡ length ks → AreInRange ks vs
    → LieIn g ks vs (cell_of g root 0 0)

-- fractions that lie in a cell lie in one of its halves
abbrev pub HalvesCover : Type 0
HalvesCover = (g : Grid) (ks : List Coordinate) (vs : List Fraction) (root level path : ℕ) → IsGridOf g ks
    → level < g.finest → LieIn g ks vs (cell_of g root level path)
    → (LieIn g ks vs (cell_of g root (suc level) (2 * path)))
    ⊎ (LieIn g ks vs (cell_of g root (suc level) (2 * path + 1)))

-- a half has the cell's boxes of the coordinates that its step doesn't halve
abbrev pub OthersStay : Type 0
OthersStay = (g : Grid) (ks : List Coordinate) (n root level path side : ℕ) → IsGridOf g ks → n < length ks → side < 2
    → g.steps level ≢ n
    → (low_end g ks n (cell_of g root (suc level) (2 * path + side)) ≡ low_end g ks n (cell_of g root level path))
    × (high_end g ks n (cell_of g root (suc level) (2 * path + side)) ≡ high_end g ks n (cell_of g root level path))

-- each box of a half lies in the cell's box
abbrev pub BoxesNest : Type 0
BoxesNest = (g : Grid) (ks : List Coordinate) (n root level path side : ℕ) → IsGridOf g ks → level < g.finest
    → n < length ks → side < 2
    → (low_end g ks n (cell_of g root level path) ≤ℤ low_end g ks n (cell_of g root (suc level) (2 * path + side)))
    × (high_end g ks n (cell_of g root (suc level) (2 * path + side)) ≤ℤ high_end g ks n (cell_of g root level path))

-- coordinates that are halved in turn: how often the first steps halve one
abbrev pub TurnsAreHalvings : Type 0
TurnsAreHalvings = (roots : ℕ) (ks : List Coordinate) (n level : ℕ) → n < length ks
    → halvings (grid_of roots ks) n level ≡ turns (length ks) n level

-- so the boxes of a cell are those of the closed form
abbrev pub BoxesInTurn : Type 0
BoxesInTurn = (roots : ℕ) (ks : List Coordinate) (n : ℕ) (c : Cell) → n < length ks
    → (low_end (grid_of roots ks) ks n c ≡ low_in ks n c)
    × (high_end (grid_of roots ks) ks n c ≡ high_in ks n c)
    × (middle (grid_of roots ks) ks n c ≡ middle_in ks n c)

-- each of them has a box in each cell
abbrev pub HaveBoxes : List Coordinate → Cell → Type 0
HaveBoxes ks c = (n : ℕ) → n < length ks → HasBox (coordinate_at ks n) n (length ks) c

abbrev pub CellsHaveBoxes : Type 0
CellsHaveBoxes = (roots : ℕ) (ks : List Coordinate) (c : Cell) → AreCoordinates ks → IsCell (grid_of roots ks) c
    → HaveBoxes ks c

-- a box lies in its coordinate's range, and its middle is a whole number of the scale: twice it is the sum of the ends
pub record IsBoxIn (k : Coordinate) (lo hi mid : ℤ) : Type 0 where
  pub above : k.low ≤ℤ lo
  pub below : hi ≤ℤ high k
  pub low : lo ≤ℤ mid
  pub high : mid ≤ℤ hi
  pub whole : pos 2 *ℤ mid ≡ lo +ℤ hi

abbrev pub BoxesAreInRange : Type 0
BoxesAreInRange = (g : Grid) (ks : List Coordinate) (c : Cell) (n : ℕ) → IsGridOf g ks → IsCell g c → n < length ks
    → IsBoxIn (coordinate_at ks n) (low_end g ks n c) (high_end g ks n c) (middle g ks n c)

-- the centre of a cell is in range and names a place
abbrev pub CentresAreInRange : Type 0
CentresAreInRange = (g : Grid) (ks : List Coordinate) (c : Cell) → IsGridOf g ks → IsGrid g → g.numbers ≡ length ks
    → IsCell g c
    → (is_in_range g.roots ks (centre_of g ks c) ≡ true) × (NamesPlace g (centre_of g ks c))

-- what it means that a witness is in range: it names a root, each number lies in the range of its coordinate, and 0
-- stands after them
pub record IsPlaceInRange (roots : ℕ) (ks : List Coordinate) (w : Witness) : Type 0 where
  pub first : 1 ≤ w.root
  pub last : w.root ≤ roots
  pub numbers : (n : ℕ) → n < length ks
      → ((coordinate_at ks n).low ≤ℤ number_at n w) × (number_at n w ≤ℤ high (coordinate_at ks n))
  pub rest : (n : ℕ) → length ks ≤ n → number_at n w ≡ pos 0

abbrev pub InRangeMeans : Type 0
InRangeMeans = (roots : ℕ) (ks : List Coordinate) (w : Witness) → is_in_range roots ks w ≡ true
    → IsPlaceInRange roots ks w
