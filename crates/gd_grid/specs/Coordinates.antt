-- A coordinate of a grid, and the boxes into which halving cuts it. All are in the coordinate's own scale.
use Rattle.std.specs.Prelude.{ℕ, ℤ, pos, ◌+◌, ◌*◌, ◌-◌, ◌/◌, ◌^◌, ◌≤◌, ◌+ℤ◌, ◌-ℤ◌, unsigned_abs}
use Rattle.gd_grid.specs.declared.coordinate.Coordinate.{Coordinate}

-- how wide a coordinate's range is at most, and how far from 0 it begins
abbrev pub COORDINATE_SIZE : ℕ
COORDINATE_SIZE = 2 ^ 45

-- how far from 0 a number of it is at most
abbrev pub END_SIZE : ℕ
END_SIZE = 2 ^ 46

-- at least 2 wide and at most 2^45, and it begins no further from 0 than that
pub record IsCoordinate (k : Coordinate) : Type 0 where
  pub some : 1 ≤ k.bits
  pub few : k.bits ≤ 45
  pub near : unsigned_abs k.low ≤ COORDINATE_SIZE

-- where its range ends
abbrev pub high : Coordinate → ℤ
high k = k.low +ℤ pos (2 ^ k.bits)

-- what goes from 2^bits below a centre to 2^bits above it
abbrev pub about : ℤ → ℕ → Coordinate
about centre bits = record { low = centre -ℤ pos (2 ^ bits); bits = bits + 1 }

-- how wide its boxes are after so many halvings
abbrev pub width_after : Coordinate → ℕ → ℕ
width_after k halvings = 2 ^ (k.bits - halvings)

-- after so many halvings: the ends of the box with an index, counted from 0, and its middle
abbrev pub low_after : Coordinate → ℕ → ℕ → ℤ
low_after k halvings index = k.low +ℤ pos (index * width_after k halvings)

abbrev pub high_after : Coordinate → ℕ → ℕ → ℤ
high_after k halvings index = low_after k halvings index +ℤ pos (width_after k halvings)

abbrev pub middle_after : Coordinate → ℕ → ℕ → ℤ
middle_after k halvings index = low_after k halvings index +ℤ pos (width_after k halvings / 2)
