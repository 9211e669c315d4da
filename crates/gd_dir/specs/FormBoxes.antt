-- The boxes of directions and offsets of a form's cells, and what the cells cover.
use Rattle.std.specs.Prelude.{ℕ, ℤ, pos, suc, ◌+◌, ◌*◌, ◌^◌, ◌≤◌, ◌<◌, ◌≡◌, ◌==◌, ◌⊎◌, ◌<ℤ◌, if◌then◌else◌}
use Rattle.gd_base.specs.Limits.{LARGE_SHIFT}
use Rattle.gd_base.specs.Scales.{ONE}
use Rattle.gd_cells.specs.Grid.{cell_of}
use Rattle.gd_cells.specs.declared.cell.Cell.{Cell}
use Rattle.gd_dir.specs.Boxes.{HoldsDirection, HoldsOffset, ORIGIN, box_of, direction_of}
use Rattle.gd_dir.specs.Covers.{IsPart}
use Rattle.gd_dir.specs.Directions.{LeadsAlong, entry}
use Rattle.gd_dir.specs.Forms.{FormLiesIn, IsCandidate, IsNear, PassesWithin, cells_of, coordinates_of, leading_axis}
use Rattle.gd_dir.specs.Forms.{ratio}
use Rattle.gd_dir.specs.declared.shape.DirBox.{DirBox}
use Rattle.gd_dir.specs.declared.shape.FormShape.{FormShape}
use Rattle.gd_dir.specs.declared.shape.FormShape.TheVariants.{Flat, Line, Circle, Cylinder}
use Rattle.gd_grid.specs.Cells.{high_in, index_at, low_in}
use Rattle.gd_grid.specs.Coordinates.{high_after, low_after}
use Rattle.gd_grid.specs.Turns.{turns}
use Rattle.gd_vec.specs.declared.vector.V3.{V3}

-- an offset by its two entries off an axis, in ascending order: it is 0 along the axis
abbrev pub offset_at : ℕ → ℤ → ℤ → V3
offset_at axis a b =
    if axis == 1 then record { x = pos 0; y = a; z = b }
    else (if axis == 2 then record { x = a; y = pos 0; z = b } else record { x = a; y = b; z = pos 0 })

-- the ends of a ratio's box in a cell of a line or a cylinder
abbrev pub low_ratio : ℕ → Cell → ℤ
low_ratio n c = low_after ratio (turns 4 n c.level) (index_at n c)

abbrev pub high_ratio : ℕ → Cell → ℤ
high_ratio n c = high_after ratio (turns 4 n c.level) (index_at n c)

-- the box of both ratios at the axes other than the root's, without offsets
abbrev pub ratios_box : Cell → DirBox
ratios_box c = record {
  lead = c.root;
  lo = direction_of c.root (low_ratio 0 c) (low_ratio 1 c);
  hi = direction_of c.root (high_ratio 0 c) (high_ratio 1 c);
  offset_lo = ORIGIN;
  offset_hi = ORIGIN;
}

-- the box of a line or a cylinder: two ratios and two offsets at the axes other than the root's
abbrev pub line_box : FormShape → ℕ → Cell → DirBox
line_box shape shift c =
    let ks = coordinates_of shape shift in
    record {
      lead = c.root;
      lo = direction_of c.root (low_in ks 0 c) (low_in ks 1 c);
      hi = direction_of c.root (high_in ks 0 c) (high_in ks 1 c);
      offset_lo = offset_at c.root (low_in ks 2 c) (low_in ks 3 c);
      offset_hi = offset_at c.root (high_in ks 2 c) (high_in ks 3 c);
    }

-- the box of a circle: the given direction alone, and two offsets at the axes other than its leading one
abbrev pub circle_box : V3 → ℕ → Cell → DirBox
circle_box d shift c =
    let ks = coordinates_of Circle shift in
    record {
      lead = leading_axis d;
      lo = d;
      hi = d;
      offset_lo = offset_at (leading_axis d) (low_in ks 0 c) (low_in ks 1 c);
      offset_hi = offset_at (leading_axis d) (high_in ks 0 c) (high_in ks 1 c);
    }

abbrev pub form_box : FormShape → V3 → ℕ → Cell → DirBox
form_box Flat d shift c = box_of c
form_box Line d shift c = line_box Line shift c
form_box Circle d shift c = circle_box d shift c
form_box Cylinder d shift c = line_box Cylinder shift c

-- the number that a direction's entries are taken over: its leading entry, but a circle's direction is taken as it is
abbrev pub lead_of : FormShape → ℕ → V3 → ℤ
lead_of Flat axis n = entry axis n
lead_of Line axis n = entry axis n
lead_of Circle axis n = pos ONE
lead_of Cylinder axis n = entry axis n

-- a flatness has no offset
abbrev pub OffsetIsHeld : FormShape → DirBox → ℤ → V3 → Type 0
OffsetIsHeld Flat b s o = Unit {0}
OffsetIsHeld Line b s o = HoldsOffset b s o
OffsetIsHeld Circle b s o = HoldsOffset b s o
OffsetIsHeld Cylinder b s o = HoldsOffset b s o

-- the box holds the direction and the offset of every candidate that lies in the cell
abbrev pub EnclosesForm : FormShape → V3 → ℕ → DirBox → Cell → Type 0
EnclosesForm shape d shift b c = (axis : ℕ) (n : V3) (s : ℤ) (o : V3) → IsCandidate shape d axis n s o
    → FormLiesIn shape shift c axis n s o
    → HoldsDirection b (lead_of shape axis n) n × OffsetIsHeld shape b s o

-- ---- what the cells cover
-- the cell of a form by its root, its level and its path
abbrev pub form_cell : FormShape → ℕ → ℕ → ℕ → ℕ → Cell
form_cell shape shift root level path = cell_of (cells_of shape shift) root level path

-- the root in which a candidate lies: that of its axis, but a circle has one root
abbrev pub root_of : FormShape → ℕ → ℕ
root_of Flat axis = axis
root_of Line axis = axis
root_of Circle axis = 1
root_of Cylinder axis = axis

-- every candidate whose offset is within 2^shift units lies in a root
abbrev pub FormRootsCover : Type 0
FormRootsCover = (shape : FormShape) (d : V3) (shift axis : ℕ) (n : V3) (s : ℤ) (o : V3)
    → IsCandidate shape d axis n s o → IsNear shift s o
    → FormLiesIn shape shift (form_cell shape shift (root_of shape axis) 0 0) axis n s o

-- a candidate that lies in a cell lies in one of its halves
abbrev pub FormHalvesCover : Type 0
FormHalvesCover = (shape : FormShape) (shift root level path axis : ℕ) (n : V3) (s : ℤ) (o : V3) → shift ≤ LARGE_SHIFT
    → level < (cells_of shape shift).finest
    → FormLiesIn shape shift (form_cell shape shift root level path) axis n s o
    → (FormLiesIn shape shift (form_cell shape shift root (suc level) (2 * path)) axis n s o)
    ⊎ (FormLiesIn shape shift (form_cell shape shift root (suc level) (2 * path + 1)) axis n s o)

-- the boxes of both halves of a cell lie in the cell's box
abbrev pub FormBoxesNest : Type 0
FormBoxesNest = (shape : FormShape) (d : V3) (shift root level path side : ℕ) → shift ≤ LARGE_SHIFT
    → 1 ≤ root → root ≤ 3
    → level < (cells_of shape shift).finest → side < 2
    → IsPart (form_box shape d shift (form_cell shape shift root (suc level) (2 * path + side)))
    (form_box shape d shift (form_cell shape shift root level path))

-- a line that passes within t / 2 of the origin has its point, where it crosses the plane through the origin and
-- across the leading axis, within t of the origin: so the range of offsets loses no line
abbrev pub NoLineIsLost : Type 0
NoLineIsLost = (axis t shift : ℕ) (n : V3) (s : ℤ) (o : V3) → 1 ≤ axis → axis ≤ 3 → LeadsAlong axis n → pos 0 <ℤ s
    → entry axis o ≡ pos 0 → t ≤ 2 ^ shift → PassesWithin t n s o → IsNear shift s o
