-- Boxes of directions, in 2^-30, and of offsets, in fine units of 2^-16: the corners with the least entries and those
-- with the greatest.
use Rattle.std.specs.Prelude.{ℕ, ℤ, pos, ◌^◌, ◌≡◌, ◌≤ℤ◌, ◌+ℤ◌, ◌*ℤ◌, ◌==◌, if◌then◌else◌}
use Rattle.gd_base.specs.Scales.{FINE, ONE}
use Rattle.gd_cells.specs.declared.cell.Cell.{Cell}
use Rattle.gd_dir.specs.Directions.{LeadsAlong, LiesIn, RatioWithin, entry, first_other, second_other}
use Rattle.gd_dir.specs.Faces.{high_end, low_end, width_of}
use Rattle.gd_dir.specs.declared.shape.DirBox.{DirBox}
use Rattle.gd_vec.specs.Vector.{IsWithin}
use Rattle.gd_vec.specs.declared.vector.V3.{V3}

-- the direction of two ratios on a face: 1 along the face's axis, and the ratios along the others in ascending order
abbrev pub direction_of : ℕ → ℤ → ℤ → V3
direction_of root a b =
    if root == 1 then record { x = pos ONE; y = a; z = b }
    else (if root == 2 then record { x = a; y = pos ONE; z = b } else record { x = a; y = b; z = pos ONE })

-- how large an entry of an offset is at most, in fine units: 2^28 units
abbrev pub OFFSET_SIZE : ℕ
OFFSET_SIZE = 2 ^ 44

-- no offset
abbrev pub ORIGIN : V3
ORIGIN = record { x = pos 0; y = pos 0; z = pos 0 }

-- the box of a cell of two ratios: 1 along its root's axis, and its boxes of the ratios along the others
abbrev pub box_of : Cell → DirBox
box_of c = record {
  lead = c.root;
  lo = direction_of c.root (low_end 0 c) (low_end 1 c);
  hi = direction_of c.root (high_end 0 c) (high_end 1 c);
  offset_lo = ORIGIN;
  offset_hi = ORIGIN;
}

-- each entry of a is at most that of b
pub record IsBelow (a b : V3) : Type 0 where
  pub x : a.x ≤ℤ b.x
  pub y : a.y ≤ℤ b.y
  pub z : a.z ≤ℤ b.z

-- the corners are in order, no entry of a direction is larger than 1, and no offset is too large
pub record IsBox (b : DirBox) : Type 0 where
  pub ordered : IsBelow b.lo b.hi
  pub lo : IsWithin ONE b.lo
  pub hi : IsWithin ONE b.hi
  pub offset_ordered : IsBelow b.offset_lo b.offset_hi
  pub offset_lo : IsWithin OFFSET_SIZE b.offset_lo
  pub offset_hi : IsWithin OFFSET_SIZE b.offset_hi

-- a box holds a direction with a leading entry: the ratio of each entry to that one lies between the corners
pub record HoldsDirection (b : DirBox) (lead : ℤ) (n : V3) : Type 0 where
  pub x : RatioWithin b.lo.x b.hi.x lead n.x
  pub y : RatioWithin b.lo.y b.hi.y lead n.y
  pub z : RatioWithin b.lo.z b.hi.z lead n.z

-- o over s units, in fine units, is no less than lo and no greater than hi, where s is positive: stated by products, so
-- that nothing is rounded
abbrev pub OffsetWithin : ℤ → ℤ → ℤ → ℤ → Type 0
OffsetWithin lo hi s o = ((lo *ℤ s) ≤ℤ (pos FINE *ℤ o)) × ((pos FINE *ℤ o) ≤ℤ (hi *ℤ s))

-- a box holds an offset, the vector o over the whole number s
pub record HoldsOffset (b : DirBox) (s : ℤ) (o : V3) : Type 0 where
  pub x : OffsetWithin b.offset_lo.x b.offset_hi.x s o.x
  pub y : OffsetWithin b.offset_lo.y b.offset_hi.y s o.y
  pub z : OffsetWithin b.offset_lo.z b.offset_hi.z s o.z

-- the box holds every direction that leads along an axis and lies in the cell
abbrev pub Encloses : DirBox → Cell → Type 0
Encloses b c = (axis : ℕ) (n : V3) → LeadsAlong axis n → LiesIn c axis n → HoldsDirection b (entry axis n) n

-- the box is as wide as the cell's boxes of the ratios
pub record IsAsWideAs (b : DirBox) (c : Cell) : Type 0 where
  pub first : entry (first_other c.root) b.hi ≡ entry (first_other c.root) b.lo +ℤ pos (width_of 0 c.level)
  pub second : entry (second_other c.root) b.hi ≡ entry (second_other c.root) b.lo +ℤ pos (width_of 1 c.level)
