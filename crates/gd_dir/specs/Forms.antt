-- The forms by their grids: the coordinates of each form, and the candidates that lie in a cell.
-- A candidate is an axis, a direction that leads along it, and the offset o / s of a line's point, in units, which is
-- 0 along the axis.
use Rattle.std.specs.Prelude.{ℕ, ℤ, pos, ◌+◌, ◌^◌, ◌≤◌, ◌≡◌, ◌&&◌, ◌*ℤ◌, ◌+ℤ◌, ◌-ℤ◌, ◌≤ℤ◌, ◌<ℤ◌, nat_le, unsigned_abs}
use Rattle.std.specs.Prelude.{List, [], ◌∷◌, if◌then◌else◌}
use Rattle.gd_base.specs.Scales.{FINE, ONE}
use Rattle.gd_cells.specs.Grid.{Grid}
use Rattle.gd_cells.specs.declared.cell.Cell.{Cell}
use Rattle.gd_dir.specs.Directions.{LeadsAlong, LiesIn, entry, first_other, second_other}
use Rattle.gd_dir.specs.declared.shape.FormShape.{FormShape}
use Rattle.gd_dir.specs.declared.shape.FormShape.TheVariants.{Flat, Line, Circle, Cylinder}
use Rattle.gd_grid.specs.Cells.{Fraction, LieIn}
use Rattle.gd_grid.specs.Coordinates.{about}
use Rattle.gd_grid.specs.Turns.{grid_of}
use Rattle.gd_grid.specs.declared.coordinate.Coordinate.{Coordinate}
use Rattle.gd_vec.specs.declared.vector.V3.{V3}

-- ---- coordinates
-- a ratio goes from -1 to 1, in 2^-30
abbrev pub ratio : Coordinate
ratio = about (pos 0) 30

-- an offset goes from -2^shift units to 2^shift units, in fine units of 2^-16
abbrev pub offset : ℕ → Coordinate
offset shift = about (pos 0) (shift + 16)

-- a flatness has two ratios, a line or a cylinder two offsets more, and a circle two offsets alone
abbrev pub coordinates_of : FormShape → ℕ → List Coordinate
coordinates_of Flat shift = ratio ∷ ratio ∷ []
coordinates_of Line shift = ratio ∷ ratio ∷ offset shift ∷ offset shift ∷ []
coordinates_of Circle shift = offset shift ∷ offset shift ∷ []
coordinates_of Cylinder shift = ratio ∷ ratio ∷ offset shift ∷ offset shift ∷ []

-- a circle, whose direction is given, has one root, and any other form one for each axis
abbrev pub roots_of : FormShape → ℕ
roots_of Flat = 3
roots_of Line = 3
roots_of Circle = 1
roots_of Cylinder = 3

abbrev pub cells_of : FormShape → ℕ → Grid
cells_of shape shift = grid_of (roots_of shape) (coordinates_of shape shift)

-- ---- candidates
-- an entry of a direction over the leading one, in 2^-30, and of an offset o / s, in fine units
abbrev pub ratio_to : ℤ → ℤ → Fraction
ratio_to lead x = record { under = lead; value = pos ONE *ℤ x }

abbrev pub fine : ℤ → ℤ → Fraction
fine s x = record { under = s; value = pos FINE *ℤ x }

-- the numbers of a line or a cylinder: both ratios of its direction, then both offsets, each at the axes that don't
-- lead, in ascending order
abbrev pub line_numbers : ℕ → V3 → ℤ → V3 → List Fraction
line_numbers axis n s o =
    ratio_to (entry axis n) (entry (first_other axis) n) ∷ ratio_to (entry axis n) (entry (second_other axis) n)
    ∷ fine s (entry (first_other axis) o) ∷ fine s (entry (second_other axis) o) ∷ []

-- the numbers of a circle
abbrev pub circle_numbers : ℕ → ℤ → V3 → List Fraction
circle_numbers axis s o = fine s (entry (first_other axis) o) ∷ fine s (entry (second_other axis) o) ∷ []

-- a line lies in a cell: the axis is the cell's root, and its numbers lie in the cell's boxes
pub record LineLiesIn (shape : FormShape) (shift : ℕ) (c : Cell) (axis : ℕ) (n : V3) (s : ℤ) (o : V3) : Type 0 where
  pub root : c.root ≡ axis
  pub numbers : LieIn (cells_of shape shift) (coordinates_of shape shift) (line_numbers axis n s o) c

-- a candidate of a form lies in a cell
abbrev pub FormLiesIn : FormShape → ℕ → Cell → ℕ → V3 → ℤ → V3 → Type 0
FormLiesIn Flat shift c axis n s o = LiesIn c axis n
FormLiesIn Line shift c axis n s o = LineLiesIn Line shift c axis n s o
FormLiesIn Circle shift c axis n s o =
    LieIn (cells_of Circle shift) (coordinates_of Circle shift) (circle_numbers axis s o) c
FormLiesIn Cylinder shift c axis n s o = LineLiesIn Cylinder shift c axis n s o

-- the first axis along which a direction has its greatest entry in size
abbrev pub leading_axis : V3 → ℕ
leading_axis d =
    if nat_le (unsigned_abs d.y) (unsigned_abs d.x) && nat_le (unsigned_abs d.z) (unsigned_abs d.x) then 1
    else (if nat_le (unsigned_abs d.z) (unsigned_abs d.y) then 2 else 3)

-- a direction that a form may take: one that leads along the axis, but a circle's is given, and so is its axis
abbrev pub IsDirectionOf : FormShape → V3 → ℕ → V3 → Type 0
IsDirectionOf Flat d axis n = LeadsAlong axis n
IsDirectionOf Line d axis n = LeadsAlong axis n
IsDirectionOf Circle d axis n = (axis ≡ leading_axis d) × (n ≡ d)
IsDirectionOf Cylinder d axis n = LeadsAlong axis n

-- an offset within s 2^shift, in units times s
pub record IsNear (shift : ℕ) (s : ℤ) (o : V3) : Type 0 where
  pub x : pos (unsigned_abs o.x) ≤ℤ (s *ℤ pos (2 ^ shift))
  pub y : pos (unsigned_abs o.y) ≤ℤ (s *ℤ pos (2 ^ shift))
  pub z : pos (unsigned_abs o.z) ≤ℤ (s *ℤ pos (2 ^ shift))

-- a candidate of a form: a direction of it, and an offset over a positive number that is 0 along the axis
pub record IsCandidate (shape : FormShape) (d : V3) (axis : ℕ) (n : V3) (s : ℤ) (o : V3) : Type 0 where
  pub first : 1 ≤ axis
  pub last : axis ≤ 3
  pub direction : IsDirectionOf shape d axis n
  pub scale : pos 0 <ℤ s
  pub offset : entry axis o ≡ pos 0

-- ---- lines
-- twice the distance between a point at o / s and the line along n through the origin is at most t: stated by
-- squares, times the squares of s and of n's length
abbrev pub square : ℤ → ℤ
square z = z *ℤ z

abbrev pub crossed : V3 → V3 → ℤ
crossed n o =
    square (n.y *ℤ o.z -ℤ n.z *ℤ o.y) +ℤ square (n.z *ℤ o.x -ℤ n.x *ℤ o.z) +ℤ square (n.x *ℤ o.y -ℤ n.y *ℤ o.x)

abbrev pub PassesWithin : ℕ → V3 → ℤ → V3 → Type 0
PassesWithin t n s o = (pos 4 *ℤ crossed n o) ≤ℤ (square (pos t *ℤ s) *ℤ (square n.x +ℤ square n.y +ℤ square n.z))
