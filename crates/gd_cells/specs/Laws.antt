-- The laws of a task: what its grid and its tests mean for the assignments that it judges.
-- An assignment is a list of whole numbers, which each task lays out for itself. A task names which assignments are
-- feasible, and which lie inside a cell.
use Rattle.std.specs.Prelude.{ℕ, suc, ◌+◌, ◌*◌, ◌-◌, ◌^◌, ◌≤◌, ◌<◌, ◌≡◌, true, false, Some, None, List, ℤ, pos, ◌⊎◌, drop, length, replicate, unsigned_abs}
use Rattle.std.specs.List.{All}
use Rattle.gd_cells.specs.Grid.{Grid, IsCell, MOST_DIMS, cell_of, halvings}
use Rattle.gd_cells.specs.Meaning.{Questions}
use Rattle.gd_cells.specs.declared.cell.Cell.{Cell}
use Rattle.gd_cells.specs.declared.cell.Evidence.{Evidence}
use Rattle.gd_cells.specs.declared.cell.Witness.{Witness}

-- the sizes of a grid: each step halves one of its coordinates, and none is halved more often than a u64 can count
pub record IsGrid (g : Grid) : Type 0 where
  pub some_roots : 1 ≤ g.roots
  pub few_roots : g.roots ≤ 4
  pub some_dims : 1 ≤ g.dims
  pub few_dims : g.dims ≤ g.numbers
  pub few_numbers : g.numbers ≤ MOST_DIMS
  pub few_levels : g.finest ≤ 1000
  pub coordinates : (l : ℕ) → l < g.finest → g.steps l < g.dims
  pub few_halvings : (coordinate : ℕ) → halvings g coordinate g.finest ≤ 60

-- a root whose whole box an assignment lies inside
pub record HasRoot (g : Grid) (inside : List ℤ → Cell → Type 0) (a : List ℤ) : Type 0 where
  pub root : ℕ
  pub first : 1 ≤ root
  pub last : root ≤ g.roots
  pub lies_inside : inside a (cell_of g root 0 0)

-- every feasible assignment lies inside a root
abbrev pub RootsCover : Grid → (List ℤ → Type 0) → (List ℤ → Cell → Type 0) → Type 0
RootsCover g feasible inside = (a : List ℤ) → feasible a → HasRoot g inside a

-- an assignment inside a cell lies inside one of its halves
abbrev pub HalvesCover : Grid → (List ℤ → Cell → Type 0) → Type 0
HalvesCover g inside = (a : List ℤ) (root level path : ℕ) → 1 ≤ root → root ≤ g.roots → level < g.finest → path < 2 ^ level
    → inside a (cell_of g root level path)
    → (inside a (cell_of g root (suc level) (2 * path))) ⊎ (inside a (cell_of g root (suc level) (2 * path + 1)))

-- the first evidence refutes the cell
abbrev pub FirstRefutes : Questions → Type 0
FirstRefutes q = (c : Cell) (e : Evidence) → IsCell q.grid c → q.tests.first c ≡ Some e → q.tests.refuted c e ≡ true

-- where there is no first evidence, none refutes the cell
abbrev pub NoneRefutes : Questions → Type 0
NoneRefutes q = (c : Cell) (e : Evidence) → IsCell q.grid c → q.tests.first c ≡ None → q.tests.refuted c e ≡ false

-- the numbers of a first evidence are below 2^32
pub record IsShort (e : Evidence) : Type 0 where
  pub condition : e.condition < 2 ^ 32
  pub a : e.a < 2 ^ 32
  pub b : e.b < 2 ^ 32

abbrev pub FirstIsShort : Questions → Type 0
FirstIsShort q = (c : Cell) (e : Evidence) → IsCell q.grid c → q.tests.first c ≡ Some e → IsShort e

-- no feasible assignment lies inside a refuted cell
abbrev pub RefutedIsEmpty : Questions → (List ℤ → Type 0) → (List ℤ → Cell → Type 0) → Type 0
RefutedIsEmpty q feasible inside =
    (c : Cell) (e : Evidence) (a : List ℤ) → IsCell q.grid c → q.tests.refuted c e ≡ true → inside a c → feasible a → ⊥

-- the centre of a cell is in range
abbrev pub CentreInRange : Questions → Type 0
CentreInRange q = (c : Cell) → IsCell q.grid c → q.tests.in_range (q.tests.centre c) ≡ true

-- the assignment of a witness in range that holds is feasible
abbrev pub HoldsIsFeasible : Questions → (List ℤ → Type 0) → (Witness → List ℤ) → Type 0
HoldsIsFeasible q feasible assignment =
    (w : Witness) → q.tests.in_range w ≡ true → q.tests.holds w ≡ true → feasible (assignment w)

-- the witness names a root, has room for the most numbers, all below 2^62 in size, and 0 stands after the grid's
pub record NamesPlace (g : Grid) (w : Witness) : Type 0 where
  pub room : length w.at ≡ MOST_DIMS
  pub first : 1 ≤ w.root
  pub last : w.root ≤ g.roots
  pub sizes : All (λ x. unsigned_abs x < 2 ^ 62) w.at
  pub behind : drop g.numbers w.at ≡ replicate (MOST_DIMS - g.numbers) (pos 0)

-- the centre of a cell is such a witness
abbrev pub CentreNamesPlace : Questions → Type 0
CentreNamesPlace q = (c : Cell) → IsCell q.grid c → NamesPlace q.grid (q.tests.centre c)

-- all of them
pub record Laws (q : Questions) (feasible : List ℤ → Type 0) (inside : List ℤ → Cell → Type 0) (assignment : Witness → List ℤ) : Type 0 where
  pub is_grid : IsGrid q.grid
  pub roots_cover : RootsCover q.grid feasible inside
  pub halves_cover : HalvesCover q.grid inside
  pub first_refutes : FirstRefutes q
  pub none_refutes : NoneRefutes q
  pub first_is_short : FirstIsShort q
  pub refuted_is_empty : RefutedIsEmpty q feasible inside
  pub centre_in_range : CentreInRange q
  pub holds_is_feasible : HoldsIsFeasible q feasible assignment
  pub centre_names_place : CentreNamesPlace q
