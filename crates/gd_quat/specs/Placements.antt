-- Placements of a part: a rotation about its first point and a translation, with one whole denominator, and up to two
-- offsets of features.
use Rattle.std.specs.Prelude.{ℕ, ℤ, pos, ◌*◌, ◌≤◌, ◌+ℤ◌, ◌*ℤ◌, ◌==◌, unsigned_abs, if◌then◌else◌}
use Rattle.gd_base.specs.Scales.{FINE, ONE}
use Rattle.gd_quat.specs.Rotations.{Rotation, IsRotation, applied, matrix_of, norm_of}
use Rattle.gd_quat.specs.declared.shape.Assignment.{Assignment}
use Rattle.gd_quat.specs.declared.shape.Ratios.{Ratios}
use Rattle.gd_vec.specs.declared.vector.V3.{V3}

-- the translation is shift / scale, and an offset is first / scale or second / scale, in units
pub record Placement : Type 0 where
  pub turn : Rotation
  pub scale : ℕ
  pub shift : V3
  pub first : V3
  pub second : V3

pub record IsPlacement (p : Placement) : Type 0 where
  pub turn : IsRotation p.turn
  pub scale : 1 ≤ p.scale

-- the denominator of all images: the sum of the squares times the scale
abbrev pub denominator_of : Placement → ℕ
denominator_of p = norm_of p.turn * p.scale

abbrev pub times : ℤ → V3 → V3
times f v = record { x = f *ℤ v.x; y = f *ℤ v.y; z = f *ℤ v.z }

abbrev pub plus : V3 → V3 → V3
plus a b = record { x = a.x +ℤ b.x; y = a.y +ℤ b.y; z = a.z +ℤ b.z }

-- where a point goes that lies at v from the part's first point: v is turned, and the translation is added. The first
-- point goes to the translation
abbrev pub image_of : Placement → V3 → V3
image_of p v = plus (times (pos p.scale) (applied (matrix_of p.turn) v)) (times (pos (norm_of p.turn)) p.shift)

-- the offset of a number from 0 to 2: 0 is none
abbrev pub offset_of : Placement → ℕ → V3
offset_of p number = if number == 1 then p.first else (if number == 2 then p.second else record {
  x = pos 0;
  y = pos 0;
  z = pos 0;
})

-- where it goes under an offset
abbrev pub image_under : Placement → ℕ → V3 → V3
image_under p number v = plus (image_of p v) (times (pos (norm_of p.turn)) (offset_of p number))

-- the rotation whose leading component is 1, with the three others in ascending order, all in 2^-30
abbrev pub rotation_at : ℕ → Ratios → Rotation
rotation_at face r =
    if face == 0 then record { q0 = pos ONE; q1 = r.first; q2 = r.second; q3 = r.third }
    else (if face == 1 then record { q0 = r.first; q1 = pos ONE; q2 = r.second; q3 = r.third }
    else (if face == 2 then record { q0 = r.first; q1 = r.second; q2 = pos ONE; q3 = r.third }
    else record { q0 = r.first; q1 = r.second; q2 = r.third; q3 = pos ONE }))

-- the placement on the grid that an assignment stands for
abbrev pub placement_of : Assignment → Placement
placement_of a = record {
  turn = rotation_at a.face a.ratios;
  scale = FINE;
  shift = a.shift;
  first = a.first;
  second
      = a.second;
}

-- the leading component is one of four, and no other is larger
pub record IsOnGrid (a : Assignment) : Type 0 where
  pub face : a.face ≤ 3
  pub first : unsigned_abs a.ratios.first ≤ ONE
  pub second : unsigned_abs a.ratios.second ≤ ONE
  pub third : unsigned_abs a.ratios.third ≤ ONE
