-- The written tests of flatness: when two points refute a box of directions, and when a direction holds.
use Rattle.std.specs.Prelude.{ℕ, ◌≡◌, ◌+◌, ◌-◌, ℤ, pos, ◌+ℤ◌, ◌-ℤ◌, ◌*ℤ◌, Bool, ◌&&◌, nat_eq, nat_le, Option, Some}
use Rattle.std.specs.Prelude.{None, List, [], ◌∷◌, get_or, length, map, if◌then◌else◌}
use Rattle.std.specs.Int.{int_max, int_min}
use Rattle.std.specs.List.{fold, position_or_len}
use Rattle.std.specs.Ordering.{int_eq, is_gt, is_le}
use Rattle.gd_base.specs.Scales.{ONE}
use Rattle.gd_cells.specs.declared.cell.Evidence.{Evidence}
use Rattle.gd_dir.specs.declared.shape.DirBox.{DirBox}
use Rattle.gd_int.specs.Roots.{cmp_root_of}
use Rattle.gd_points.specs.declared.table.Row.{Row}
use Rattle.gd_vec.specs.Vector.{difference, dot_of, norm2_of}
use Rattle.gd_vec.specs.declared.vector.V3.{V3}

-- ---- values along the directions of a box
-- the lesser and the greater of both ends times k
abbrev pub scale_lo : ℤ → ℤ → ℤ → ℤ
scale_lo lo hi k = int_min (lo *ℤ k) (hi *ℤ k)

abbrev pub scale_hi : ℤ → ℤ → ℤ → ℤ
scale_hi lo hi k = int_max (lo *ℤ k) (hi *ℤ k)

-- both ends of an entry are 1, as along the axis that leads
abbrev pub AreOne : ℤ → ℤ → Type 0
AreOne lo hi = (lo ≡ pos ONE) × (hi ≡ pos ONE)

-- the least and the greatest value of a vector along the directions of a box
abbrev pub low_along : DirBox → V3 → ℤ
low_along b d = scale_lo b.lo.x b.hi.x d.x +ℤ scale_lo b.lo.y b.hi.y d.y +ℤ scale_lo b.lo.z b.hi.z d.z

abbrev pub high_along : DirBox → V3 → ℤ
high_along b d = scale_hi b.lo.x b.hi.x d.x +ℤ scale_hi b.lo.y b.hi.y d.y +ℤ scale_hi b.lo.z b.hi.z d.z

-- the greater of both ends squared
abbrev pub square_hi : ℤ → ℤ → ℤ
square_hi lo hi = int_max (lo *ℤ lo) (hi *ℤ hi)

-- the greatest squared length of the directions of a box
abbrev pub most_norm2 : DirBox → ℤ
most_norm2 b = square_hi b.lo.x b.hi.x +ℤ square_hi b.lo.y b.hi.y +ℤ square_hi b.lo.z b.hi.z

-- the point at a place, from 0
abbrev pub point_at : List Row → ℕ → V3
point_at rows i = (get_or rows i (record {
  feature = 0;
  group = 0;
  at = record { x = pos 0; y = pos 0; z = pos 0 };
})).at

-- the first judged point
abbrev pub first_point : List Row → V3
first_point [] = record { x = pos 0; y = pos 0; z = pos 0 }
first_point (row ∷ rows) = row.at

-- the least values of all points, and the greatest, each taken from the first point
abbrev pub lows : DirBox → List Row → List ℤ
lows b rows = map (λ (row : Row). low_along b (difference row.at (first_point rows))) rows

abbrev pub highs : DirBox → List Row → List ℤ
highs b rows = map (λ (row : Row). high_along b (difference row.at (first_point rows))) rows

-- ---- what refutes a box
-- the points at two places, from 0, are further apart than the tolerance along each direction of a box
abbrev pub parts : List Row → ℕ → DirBox → ℕ → ℕ → Bool
parts rows tolerance b i j =
    is_gt (cmp_root_of (get_or (lows b rows) i (pos 0) -ℤ get_or (highs b rows) j (pos 0)) (pos tolerance)
    (most_norm2 b))

-- the greatest and the least of some numbers
abbrev pub greatest : List ℤ → ℤ
greatest [] = pos 0
greatest (v ∷ vs) = fold int_max v vs

abbrev pub least : List ℤ → ℤ
least [] = pos 0
least (v ∷ vs) = fold int_min v vs

-- the first place, from 0, of a number among some
abbrev pub place_of : ℤ → List ℤ → ℕ
place_of v vs = position_or_len (int_eq v) vs

-- the first point whose least value is the greatest, and the first whose greatest value is the least
abbrev pub farthest : DirBox → List Row → ℕ
farthest b rows = place_of (greatest (lows b rows)) (lows b rows)

abbrev pub nearest : DirBox → List Row → ℕ
nearest b rows = place_of (least (highs b rows)) (highs b rows)

-- ---- evidence: condition 1, and two points by their numbers from 1
abbrev pub evidence_of : ℕ → ℕ → Evidence
evidence_of i j = record { condition = 1; a = i + 1; b = j + 1 }

-- the number of a point, from 1
abbrev pub is_point : List Row → ℕ → Bool
is_point rows k = nat_le 1 k && nat_le k (length rows)

-- the evidence names condition 1 and two points that part the box
abbrev pub is_refuted : List Row → ℕ → DirBox → Evidence → Bool
is_refuted rows tolerance b e =
    nat_eq e.condition 1 && (is_point rows e.a && (is_point rows e.b && parts rows tolerance b (e.a - 1) (e.b - 1)))

-- the first evidence names the farthest point and the nearest: where these two don't part the box, no two do
abbrev pub first_evidence : List Row → ℕ → DirBox → Option Evidence
first_evidence rows tolerance b =
    if parts rows tolerance b (farthest b rows) (nearest b rows)
    then Some (evidence_of (farthest b rows) (nearest b rows)) else None

-- ---- when a direction holds
-- how far the points lie along a direction
abbrev pub along : V3 → List Row → List ℤ
along n rows = map (λ (row : Row). dot_of n row.at) rows

-- the greatest of some numbers less the least
abbrev pub spread : List ℤ → ℤ
spread vs = greatest vs -ℤ least vs

-- the spread along n is at most the tolerance times the length of n
abbrev pub is_within : List Row → ℕ → V3 → Bool
is_within rows tolerance n = is_le (cmp_root_of (spread (along n rows)) (pos tolerance) (norm2_of n))
