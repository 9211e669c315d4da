-- Ranges of placements: which placements are in range, the coordinates of their grid, and the placements that lie in
-- a cell.
use Rattle.std.specs.Prelude.{ℕ, zero, suc, ℤ, pos, ◌+◌, ◌*◌, ◌-◌, ◌^◌, ◌≤◌, ◌<◌, ◌≡◌, ◌==◌, ◌-ℤ◌, ◌*ℤ◌, ◌<ℤ◌, nat_le}
use Rattle.std.specs.Prelude.{unsigned_abs, List, [], ◌∷◌, if◌then◌else◌}
use Rattle.gd_base.specs.Limits.{LARGE_COORDINATE, LARGE_SHIFT, TURN}
use Rattle.gd_base.specs.Scales.{FINE, ONE}
use Rattle.gd_cells.specs.Grid.{Grid}
use Rattle.gd_cells.specs.declared.cell.Cell.{Cell}
use Rattle.gd_grid.specs.Cells.{Fraction, LieIn}
use Rattle.gd_grid.specs.Coordinates.{about}
use Rattle.gd_grid.specs.Turns.{grid_of}
use Rattle.gd_grid.specs.declared.coordinate.Coordinate.{Coordinate}
use Rattle.gd_quat.specs.Placements.{Placement}
use Rattle.gd_quat.specs.Rotations.{Rotation}
use Rattle.gd_turn.specs.declared.ranges.Ranges.{Ranges}
use Rattle.gd_turn.specs.declared.ranges.TurnRange.{TurnRange}
use Rattle.gd_turn.specs.declared.ranges.TurnRange.TheVariants.{All, Within}
use Rattle.gd_vec.specs.Vector.{IsWithin}
use Rattle.gd_vec.specs.declared.vector.V3.{V3}

-- ---- ranges
-- ratios lie within 2^-k; where every rotation is in range, k is 0
abbrev pub turn_of : TurnRange → ℕ
turn_of All = 0
turn_of (Within k) = k

-- the ranges are within the limits
pub record AreRanges (r : Ranges) : Type 0 where
  pub turn : turn_of r.turn ≤ TURN
  pub shift : r.shift ≤ LARGE_SHIFT
  pub centre : IsWithin LARGE_COORDINATE r.centre
  pub offsets : r.offsets ≤ 2

-- a rotation is in range: all are, or the first component is positive and the others are no larger than it over 2^k
pub record IsWithinTurn (k : ℕ) (q : Rotation) : Type 0 where
  pub positive : pos 0 <ℤ q.q0
  pub q1 : 2 ^ k * unsigned_abs q.q1 ≤ unsigned_abs q.q0
  pub q2 : 2 ^ k * unsigned_abs q.q2 ≤ unsigned_abs q.q0
  pub q3 : 2 ^ k * unsigned_abs q.q3 ≤ unsigned_abs q.q0

abbrev pub IsTurnInRange : TurnRange → Rotation → Type 0
IsTurnInRange All q = Unit {0}
IsTurnInRange (Within k) q = IsWithinTurn k q

-- no entry of v / scale is further than 2^shift from that of a centre
pub record IsNear (shift scale : ℕ) (centre v : V3) : Type 0 where
  pub x : unsigned_abs (v.x -ℤ pos scale *ℤ centre.x) ≤ scale * 2 ^ shift
  pub y : unsigned_abs (v.y -ℤ pos scale *ℤ centre.y) ≤ scale * 2 ^ shift
  pub z : unsigned_abs (v.z -ℤ pos scale *ℤ centre.z) ≤ scale * 2 ^ shift

abbrev pub ORIGIN : V3
ORIGIN = record { x = pos 0; y = pos 0; z = pos 0 }

-- a placement is in range: its rotation, its translation and its offsets are, and an offset that the ranges don't
-- have is 0
pub record IsInRange (r : Ranges) (p : Placement) : Type 0 where
  pub turn : IsTurnInRange r.turn p.turn
  pub shift : IsNear r.shift p.scale r.centre p.shift
  pub first : 1 ≤ r.offsets → IsNear r.shift p.scale ORIGIN p.first
  pub second : 2 ≤ r.offsets → IsNear r.shift p.scale ORIGIN p.second
  pub no_first : r.offsets < 1 → p.first ≡ ORIGIN
  pub no_second : r.offsets < 2 → p.second ≡ ORIGIN

-- ---- coordinates
-- how large an entry of a translation or an offset is at most, in fine units: 2^29 units
abbrev pub LENGTH_SIZE : ℕ
LENGTH_SIZE = 2 ^ 45

-- a ratio goes from -2^-k to 2^-k, in 2^-30
abbrev pub ratio : TurnRange → Coordinate
ratio turn = about (pos 0) (30 - turn_of turn)

-- a shift and an offset go from -2^shift to 2^shift units about an entry of a centre, in fine units of 2^-16
abbrev pub length_about : ℕ → ℤ → Coordinate
length_about shift centre = about (centre *ℤ pos FINE) (shift + 16)

abbrev pub offset_coordinates : ℕ → Coordinate → List Coordinate
offset_coordinates zero k = []
offset_coordinates (suc n) k = k ∷ k ∷ k ∷ offset_coordinates n k

-- three ratios, three shifts, and three numbers of each offset
abbrev pub coordinates_of : Ranges → List Coordinate
coordinates_of r =
    ratio r.turn ∷ ratio r.turn ∷ ratio r.turn
    ∷ length_about r.shift r.centre.x ∷ length_about r.shift r.centre.y ∷ length_about r.shift r.centre.z
    ∷ offset_coordinates r.offsets (length_about r.shift (pos 0))

-- the coordinates of two offsets, of which those of fewer are the first
abbrev pub all_coordinates : Ranges → List Coordinate
all_coordinates r = coordinates_of (record { turn = r.turn; shift = r.shift; centre = r.centre; offsets = 2 })

-- where every rotation is in range each of the four components leads in one root
abbrev pub roots_of : TurnRange → ℕ
roots_of All = 4
roots_of (Within k) = 1

abbrev pub cells_of : Ranges → Grid
cells_of r = grid_of (roots_of r.turn) (coordinates_of r)

-- ---- placements by their numbers
-- a component of a rotation, by its number from 0
abbrev pub component : ℕ → Rotation → ℤ
component n q = if n == 0 then q.q0 else (if n == 1 then q.q1 else (if n == 2 then q.q2 else q.q3))

-- the component that leads in the cells of a root, and the three others in ascending order
abbrev pub face_of : TurnRange → ℕ → ℕ
face_of All root = root - 1
face_of (Within k) root = 0

abbrev pub first_other : ℕ → ℕ
first_other face = if face == 0 then 1 else 0

abbrev pub second_other : ℕ → ℕ
second_other face = if nat_le face 1 then 2 else 1

abbrev pub third_other : ℕ → ℕ
third_other face = if nat_le face 2 then 3 else 2

-- a component over the leading one, in 2^-30: over the square of the leading one, so that its sign doesn't matter
abbrev pub ratio_to : ℤ → ℤ → Fraction
ratio_to lead x = record { under = lead *ℤ lead; value = pos ONE *ℤ (x *ℤ lead) }

-- the entries of v / scale, in fine units
abbrev pub fine : ℕ → ℤ → Fraction
fine scale x = record { under = pos scale; value = pos FINE *ℤ x }

abbrev pub fine_entries : ℕ → V3 → List Fraction → List Fraction
fine_entries scale v rest = fine scale v.x ∷ fine scale v.y ∷ fine scale v.z ∷ rest

-- the numbers of a placement whose component with a number leads
abbrev pub numbers_of : ℕ → Placement → List Fraction
numbers_of face p =
    ratio_to (component face p.turn) (component (first_other face) p.turn)
    ∷ ratio_to (component face p.turn) (component (second_other face) p.turn)
    ∷ ratio_to (component face p.turn) (component (third_other face) p.turn)
    ∷ fine_entries p.scale p.shift (fine_entries p.scale p.first (fine_entries p.scale p.second []))

-- a placement lies in a cell: the component that leads in it isn't 0, and the numbers lie in the cell's boxes
pub record LiesIn (r : Ranges) (c : Cell) (p : Placement) : Type 0 where
  pub face : ℕ
  pub is_face : face ≡ face_of r.turn c.root
  pub leads : 0 < unsigned_abs (component face p.turn)
  pub numbers : LieIn (cells_of r) (coordinates_of r) (numbers_of face p) c
  pub no_first : r.offsets < 1 → p.first ≡ ORIGIN
  pub no_second : r.offsets < 2 → p.second ≡ ORIGIN
