-- Fractions by the cells in which they lie, for any list of coordinates and any grid that halves them.
use Rattle.std.specs.Prelude.{ℕ, ℤ, pos, ◌+◌, ◌<◌, ◌≡◌, ◌*ℤ◌, ◌≤ℤ◌, Bool, true, false, ◌&&◌, nat_le, int_le, List, []}
use Rattle.std.specs.Prelude.{◌∷◌, length, get_or}
use Rattle.gd_cells.specs.Grid.{Grid, halvings}
use Rattle.gd_cells.specs.Witnesses.{witness_of, zeros_behind}
use Rattle.gd_cells.specs.declared.cell.Cell.{Cell}
use Rattle.gd_cells.specs.declared.cell.Witness.{Witness}
use Rattle.gd_grid.specs.Coordinates.{IsCoordinate, high, high_after, low_after, middle_after}
use Rattle.gd_grid.specs.Turns.{turns}
use Rattle.gd_grid.specs.declared.coordinate.Coordinate.{Coordinate}

-- the coordinate with a number, from 0
abbrev pub coordinate_at : List Coordinate → ℕ → Coordinate
coordinate_at ks n = get_or ks n (record { low = pos 0; bits = 0 })

-- a grid halves these coordinates: it has as many, and at its finest level each box is at least 2 wide
pub record IsGridOf (g : Grid) (ks : List Coordinate) : Type 0 where
  pub dims : g.dims ≡ length ks
  pub steps : (l : ℕ) → l < g.finest → g.steps l < g.dims
  pub coordinates : (n : ℕ) → n < length ks → IsCoordinate (coordinate_at ks n)
  pub wide : (n : ℕ) → n < length ks → halvings g n g.finest < (coordinate_at ks n).bits

-- ---- the box of a coordinate in a cell
abbrev pub index_at : ℕ → Cell → ℕ
index_at n c = get_or c.index n 0

abbrev pub low_end : Grid → List Coordinate → ℕ → Cell → ℤ
low_end g ks n c = low_after (coordinate_at ks n) (halvings g n c.level) (index_at n c)

abbrev pub high_end : Grid → List Coordinate → ℕ → Cell → ℤ
high_end g ks n c = high_after (coordinate_at ks n) (halvings g n c.level) (index_at n c)

abbrev pub middle : Grid → List Coordinate → ℕ → Cell → ℤ
middle g ks n c = middle_after (coordinate_at ks n) (halvings g n c.level) (index_at n c)

-- the same where coordinates are halved in turn: how often each was has a closed form
abbrev pub low_in : List Coordinate → ℕ → Cell → ℤ
low_in ks n c = low_after (coordinate_at ks n) (turns (length ks) n c.level) (index_at n c)

abbrev pub high_in : List Coordinate → ℕ → Cell → ℤ
high_in ks n c = high_after (coordinate_at ks n) (turns (length ks) n c.level) (index_at n c)

abbrev pub middle_in : List Coordinate → ℕ → Cell → ℤ
middle_in ks n c = middle_after (coordinate_at ks n) (turns (length ks) n c.level) (index_at n c)

-- ---- what lies in a box
-- value / under is no less than lo and no greater than hi, where under is positive: stated by products, so that
-- nothing is rounded
abbrev pub IsBetween : ℤ → ℤ → ℤ → ℤ → Type 0
IsBetween lo hi under value = ((lo *ℤ under) ≤ℤ value) × (value ≤ℤ (hi *ℤ under))

-- a fraction, in the scale of its coordinate
pub record Fraction : Type 0 where
  pub under : ℤ
  pub value : ℤ

abbrev pub fraction_at : List Fraction → ℕ → Fraction
fraction_at vs n = get_or vs n (record { under = pos 1; value = pos 0 })

-- the fraction with a number lies in the box of its coordinate
abbrev pub InBox : Grid → List Coordinate → List Fraction → ℕ → Cell → Type 0
InBox g ks vs n c = IsBetween (low_end g ks n c) (high_end g ks n c) (fraction_at vs n).under (fraction_at vs n).value

-- fractions lie in a cell: each lies in the box of its coordinate
abbrev pub LieIn : Grid → List Coordinate → List Fraction → Cell → Type 0
LieIn g ks vs c = (n : ℕ) → n < length ks → InBox g ks vs n c

-- fractions are in range: each lies in the range of its coordinate
abbrev pub AreInRange : List Coordinate → List Fraction → Type 0
AreInRange ks vs = (n : ℕ) → n < length ks
    → IsBetween (coordinate_at ks n).low (high (coordinate_at ks n)) (fraction_at vs n).under (fraction_at vs n).value

-- ---- places of the grid
-- the number of a witness at a place, from 0
abbrev pub number_at : ℕ → Witness → ℤ
number_at n w = get_or w.at n (pos 0)

-- the middles of a cell's boxes, from the coordinate with a number on
abbrev pub middles_from : Grid → Cell → ℕ → List Coordinate → List ℤ
middles_from g c n [] = []
middles_from g c n (k ∷ ks) = middle_after k (halvings g n c.level) (index_at n c) ∷ middles_from g c (n + 1) ks

-- the same where coordinates are halved in turn
abbrev pub middles_in : ℕ → Cell → ℕ → List Coordinate → List ℤ
middles_in dims c n [] = []
middles_in dims c n (k ∷ ks) = middle_after k (turns dims n c.level) (index_at n c) ∷ middles_in dims c (n + 1) ks

abbrev pub centre_of : Grid → List Coordinate → Cell → Witness
centre_of g ks c = witness_of c.root (middles_from g c 0 ks)

-- each number lies in the range of its coordinate
abbrev pub are_in_range : List Coordinate → List ℤ → Bool
are_in_range [] xs = true
are_in_range (k ∷ ks) [] = false
are_in_range (k ∷ ks) (x ∷ xs) = (int_le k.low x && int_le x (high k)) && are_in_range ks xs

-- a witness names one of so many roots, its numbers are in range, and 0 stands after them
abbrev pub is_in_range : ℕ → List Coordinate → Witness → Bool
is_in_range roots ks w =
    nat_le 1 w.root && (nat_le w.root roots && (are_in_range ks w.at && zeros_behind (length ks) w))
