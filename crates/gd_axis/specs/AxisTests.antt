-- The written tests of the forms about an axis: values of points over a box of directions and offsets, what refutes the
-- box, and when it holds. The values don't depend on the tolerance.
use Rattle.std.specs.Prelude.{ℕ, ℤ, pos, ◌+◌, ◌-◌, ◌&&◌, ◌*ℤ◌, ◌-ℤ◌, Bool, Option, Some, None, List, get_or}
use Rattle.std.specs.Prelude.{int_le, int_lt, map, nat_eq, nat_le, if◌then◌else◌, option_map}
use Rattle.std.specs.List.{find, list_all, list_any}
use Rattle.std.specs.Ordering.{is_gt, is_le}
use Rattle.gd_axis.specs.Sizes.{UNIT_SQUARE}
use Rattle.gd_base.specs.Scales.{FINE}
use Rattle.gd_cells.specs.declared.cell.Evidence.{Evidence}
use Rattle.gd_dir.specs.declared.shape.DirBox.{DirBox}
use Rattle.gd_dir.specs.declared.shape.FormShape.{FormShape}
use Rattle.gd_dir.specs.declared.shape.FormShape.TheVariants.{Flat, Line, Circle, Cylinder}
use Rattle.gd_flat.specs.FlatTests.{evidence_of, greatest, least, place_of, point_at}
use Rattle.gd_int.specs.Roots.{cmp_root_of}
use Rattle.gd_points.specs.declared.table.Row.{Row}
use Rattle.gd_quat.specs.Formulas.{Ends, VectorEnds, difference, multiple, narrowed, product}
use Rattle.gd_vec.specs.declared.vector.V3.{V3}
use Rattle.gd_zone.specs.Tests.{ceil_root, floor_root}
use Rattle.gd_zone.specs.Values.{squares_of}

-- ---- values
-- the entries of a direction are in 2^-30; those of a section's stated direction are whole
abbrev pub bits_of : FormShape → ℕ
bits_of Flat = 30
bits_of Line = 30
bits_of Circle = 0
bits_of Cylinder = 30

abbrev pub span_of : ℤ → ℤ → Ends
span_of lo hi = record { lo = lo; hi = hi }

-- the directions of a box
abbrev pub direction_ends : DirBox → VectorEnds
direction_ends b = record { x = span_of b.lo.x b.hi.x; y = span_of b.lo.y b.hi.y; z = span_of b.lo.z b.hi.z }

-- from a to p less the offsets, in fine units
abbrev pub less_offset : ℤ → ℤ → ℤ → ℤ → Ends
less_offset lo hi a p = span_of (pos FINE *ℤ (p -ℤ a) -ℤ hi) (pos FINE *ℤ (p -ℤ a) -ℤ lo)

abbrev pub from_offset : DirBox → V3 → V3 → VectorEnds
from_offset b a p = record {
  x = less_offset b.offset_lo.x b.offset_hi.x a.x p.x;
  y = less_offset b.offset_lo.y b.offset_hi.y a.y p.y;
  z = less_offset b.offset_lo.z b.offset_hi.z a.z p.z;
}

-- an entry of a cross product, in the unit of y and z, where the entries of n and m have so many bits
abbrev pub minor : ℕ → Ends → Ends → Ends → Ends → Ends
minor bits n z m y = narrowed (difference (product n z) (product m y)) bits

-- the cross product of directions and vectors: of the length of the vector's part normal to the direction, times the
-- direction's length
unfoldable pub across : ℕ → VectorEnds → VectorEnds → VectorEnds
across bits n y = record {
  x = minor bits n.y y.z n.z y.y;
  y = minor bits n.z y.x n.x y.z;
  z = minor bits n.x y.y n.y y.x;
}

-- the squared distance of p from the axis, times the direction's squared length, in squares of fine units
abbrev pub value_of : FormShape → DirBox → V3 → V3 → Ends
value_of shape b a p = squares_of (across (bits_of shape) (direction_ends b) (from_offset b a p))

-- the squared length of the direction, in squares of fine units
abbrev pub length2_of : FormShape → DirBox → Ends
length2_of Flat b = narrowed (squares_of (direction_ends b)) 28
length2_of Line b = narrowed (squares_of (direction_ends b)) 28
length2_of Circle b = multiple (squares_of (direction_ends b)) (pos UNIT_SQUARE)
length2_of Cylinder b = narrowed (squares_of (direction_ends b)) 28

-- the value of the point at a place, from 0, of a table
abbrev pub value_at : FormShape → DirBox → V3 → List Row → ℕ → Ends
value_at shape b a rows i = value_of shape b a (point_at rows i)

-- the lower and the upper ends of the values of some points
abbrev pub lower_ends : FormShape → DirBox → V3 → List Row → List ℕ → List ℤ
lower_ends shape b a rows judged = map (λ (i : ℕ). (value_at shape b a rows i).lo) judged

abbrev pub upper_ends : FormShape → DirBox → V3 → List Row → List ℕ → List ℤ
upper_ends shape b a rows judged = map (λ (i : ℕ). (value_at shape b a rows i).hi) judged

-- the least distances of the points from the axis, and the greatest, times the direction's length
abbrev pub near_ends : FormShape → DirBox → V3 → List Row → List ℕ → List ℤ
near_ends shape b a rows judged = map floor_root (lower_ends shape b a rows judged)

abbrev pub far_ends : FormShape → DirBox → V3 → List Row → List ℕ → List ℤ
far_ends shape b a rows judged = map ceil_root (upper_ends shape b a rows judged)

-- ---- the points that are judged: places in a table, from 0. Evidence names points by their numbers, from 1
-- this is the number of one of them
abbrev pub is_judged : List ℕ → ℕ → Bool
is_judged judged number = nat_le 1 number && list_any (λ (n : ℕ). nat_eq n (number - 1)) judged

-- ---- straightness
-- the square of t times a squared length
abbrev pub square_times : ℕ → ℤ → ℤ
square_times t m = (pos t *ℤ pos t) *ℤ m

-- twice the distance of a point from each axis of the box is more than the tolerance
abbrev pub is_outside : ℕ → ℤ → Ends → Bool
is_outside t m c = int_lt (square_times t m) (pos 4 *ℤ c.lo)

-- twice its distance from each axis of the box is at most the tolerance
abbrev pub is_inside : ℕ → ℤ → Ends → Bool
is_inside t m c = int_le (pos 4 *ℤ c.hi) (square_times t m)

-- the evidence of one point
abbrev pub point_evidence : ℕ → Evidence
point_evidence i = record { condition = 1; a = i + 1; b = 0 }

abbrev pub line_refuted : FormShape → List Row → List ℕ → ℕ → DirBox → V3 → Evidence → Bool
line_refuted shape rows judged t b a e =
    nat_eq e.condition 1 && (is_judged judged e.a
    && (nat_eq e.b 0 && is_outside t (length2_of shape b).hi (value_at shape b a rows (e.a - 1))))

-- the first point that lies outside
abbrev pub line_evidence : FormShape → List Row → List ℕ → ℕ → DirBox → V3 → Option Evidence
line_evidence shape rows judged t b a =
    option_map point_evidence
    (find (λ (i : ℕ). is_outside t (length2_of shape b).hi (value_at shape b a rows i)) judged)

abbrev pub line_holds : FormShape → List Row → List ℕ → ℕ → DirBox → V3 → Bool
line_holds shape rows judged t b a =
    list_all (λ (i : ℕ). is_inside t (length2_of shape b).lo (value_at shape b a rows i)) judged

-- ---- circularity and cylindricity
-- the point at one place is further from each axis of the box than that at another by more than the tolerance
abbrev pub ring_parts : FormShape → List Row → ℕ → DirBox → V3 → ℕ → ℕ → Bool
ring_parts shape rows t b a i j =
    is_gt (cmp_root_of (floor_root (value_at shape b a rows i).lo -ℤ ceil_root (value_at shape b a rows j).hi) (pos t)
    (length2_of shape b).hi)

abbrev pub ring_refuted : FormShape → List Row → List ℕ → ℕ → DirBox → V3 → Evidence → Bool
ring_refuted shape rows judged t b a e =
    nat_eq e.condition 1 && (is_judged judged e.a
    && (is_judged judged e.b && ring_parts shape rows t b a (e.a - 1) (e.b - 1)))

-- the first point whose least distance is the greatest, and the first whose greatest distance is the least
abbrev pub farthest_point : FormShape → List Row → List ℕ → DirBox → V3 → ℕ
farthest_point shape rows judged b a =
    get_or judged (place_of (greatest (near_ends shape b a rows judged)) (near_ends shape b a rows judged)) 0

abbrev pub nearest_point : FormShape → List Row → List ℕ → DirBox → V3 → ℕ
nearest_point shape rows judged b a =
    get_or judged (place_of (least (far_ends shape b a rows judged)) (far_ends shape b a rows judged)) 0

-- where these two don't part the box, no two do
abbrev pub ring_evidence : FormShape → List Row → List ℕ → ℕ → DirBox → V3 → Option Evidence
ring_evidence shape rows judged t b a =
    if ring_parts shape rows t b a (farthest_point shape rows judged b a) (nearest_point shape rows judged b a)
    then Some (evidence_of (farthest_point shape rows judged b a) (nearest_point shape rows judged b a)) else None

-- the greatest distance less the least is at most the tolerance, at each axis of the box
abbrev pub ring_holds : FormShape → List Row → List ℕ → ℕ → DirBox → V3 → Bool
ring_holds shape rows judged t b a =
    is_le (cmp_root_of (greatest (far_ends shape b a rows judged) -ℤ least (near_ends shape b a rows judged)) (pos t)
    (length2_of shape b).lo)
