-- The grid of a form: its coordinates by their number, and the candidates that witnesses stand for.
use Rattle.std.proofs.Common.{arith, ◌≡◌, refl, ap, ◌∙◌, ℕ, zero, suc, ◌+◌, ◌*◌, ◌^◌, ◌≤◌, ℤ, pos, ◌-ℤ◌, ◌*ℤ◌, ◌≤ℤ◌}
use Rattle.std.proofs.Common.{unsigned_abs, Bool, true, false, ◌&&◌, ◌==◌, nat_le, if◌then◌else◌, take}
use Rattle.std.proofs.lemmas.Int.{ints}
use Rattle.std.proofs.lemmas.Nat.{pow-add}
use Rattle.gd_base.specs.Limits.{LARGE_SHIFT}
use Rattle.gd_cells.specs.Grid.{IsCell}
use Rattle.gd_cells.specs.declared.cell.Cell.{Cell}
use Rattle.gd_cells.specs.declared.cell.Witness.{Witness}
use Rattle.gd_dir.proofs.FormCells.{are_circles, are_lines, by_axis}
use Rattle.gd_dir.proofs.Halves.{are_faces}
use Rattle.gd_dir.specs.Boxes.{ORIGIN, direction_of}
use Rattle.gd_dir.specs.Directions.{LeadsAlong, entry}
use Rattle.gd_dir.specs.FormBoxes.{offset_at}
use Rattle.gd_dir.specs.FormPlaces.{WitnessesAreCandidates, dims_of, direction_at, four_coordinates, offset_of}
use Rattle.gd_dir.specs.Forms.{IsCandidate, IsNear, cells_of, coordinates_of, leading_axis, offset, ratio, roots_of}
use Rattle.gd_dir.specs.declared.shape.FormShape.{FormShape}
use Rattle.gd_dir.specs.declared.shape.FormShape.TheVariants.{Flat, Line, Circle, Cylinder}
use Rattle.gd_grid.proofs.Grids.{all_have_boxes}
use Rattle.gd_grid.proofs.Numbers.{in_range_means}
use Rattle.gd_grid.proofs.Ranges.{within_about}
use Rattle.gd_grid.specs.Cells.{number_at}
use Rattle.gd_grid.specs.Coordinates.{high}
use Rattle.gd_grid.specs.Laws.{AreCoordinates, HaveBoxes, IsPlaceInRange}
use Rattle.gd_vec.specs.declared.vector.V3.{V3}

-- ---- the coordinates
pub taken_is : (shape : FormShape) (shift n : ℕ) → n ≡ dims_of shape
    → take n (four_coordinates shape shift) ≡ coordinates_of shape shift
taken_is shape shift n e = ap (λ m. take m (four_coordinates shape shift)) e ∙ first_of shape
  where
    first_of : (s : FormShape) → take (dims_of s) (four_coordinates s shift) ≡ coordinates_of s shift
    first_of Flat = refl
    first_of Line = refl
    first_of Circle = refl
    first_of Cylinder = refl

pub are_coordinates : (shape : FormShape) (shift : ℕ) → shift ≤ LARGE_SHIFT
    → AreCoordinates (coordinates_of shape shift)
are_coordinates Flat shift h = are_faces
are_coordinates Line shift h = are_lines shift h
are_coordinates Circle shift h = are_circles shift h
are_coordinates Cylinder shift h = are_lines shift h

pub have_boxes : (shape : FormShape) (shift : ℕ) (c : Cell) → shift ≤ LARGE_SHIFT → IsCell (cells_of shape shift) c
    → HaveBoxes (coordinates_of shape shift) c
have_boxes shape shift c h cell = all_have_boxes (roots_of shape)
    (coordinates_of shape shift) c (are_coordinates shape shift h) cell

-- ---- directions
ratio_small : (x : ℤ) → (ratio.low ≤ℤ x) × (x ≤ℤ high ratio) → unsigned_abs x ≤ 2 ^ 30
ratio_small x h = sized (within_about (pos 0) 30 x h)
  where
    sized : unsigned_abs (x -ℤ pos 0) ≤ 2 ^ 30 → unsigned_abs x ≤ 2 ^ 30
    sized h = omega (arith, ints)

leads : (root : ℕ) (a b : ℤ) → 1 ≤ root → root ≤ 3 → unsigned_abs a ≤ 2 ^ 30 → unsigned_abs b ≤ 2 ^ 30
    → LeadsAlong root (direction_of root a b)
leads zero a b one three h k = absurd (omega arith)
leads (suc zero) a b one three h k = record { positive = omega (arith, ints); x = omega arith; y = h; z = k }
leads (suc (suc zero)) a b one three h k = record { positive = omega (arith, ints); x = h; y = omega arith; z = k }
leads (suc (suc (suc zero))) a b one three h k = record {
  positive = omega (arith, ints);
  x = h;
  y = k;
  z = omega arith;
}
leads (suc (suc (suc (suc m)))) a b one three h k = absurd (omega arith)

-- ---- offsets
flat_along : (axis : ℕ) (a b : ℤ) → 1 ≤ axis → axis ≤ 3 → entry axis (offset_at axis a b) ≡ pos 0
flat_along zero a b one three = absurd (omega arith)
flat_along (suc zero) a b one three = refl
flat_along (suc (suc zero)) a b one three = refl
flat_along (suc (suc (suc zero))) a b one three = refl
flat_along (suc (suc (suc (suc m)))) a b one three = absurd (omega arith)

lead_first : (d : V3) → (1 ≤ leading_axis d) × (leading_axis d ≤ 3)
lead_first d = choose (nat_le (unsigned_abs d.y) (unsigned_abs d.x)
    && nat_le (unsigned_abs d.z) (unsigned_abs d.x)) (nat_le (unsigned_abs d.z) (unsigned_abs d.y))
  where
    choose : (u v : Bool) → (1 ≤ (if u then 1 else (if v then 2 else 3)))
        × ((if u then 1 else (if v then 2 else 3)) ≤ 3)
    choose true v = (omega arith, omega arith)
    choose false true = (omega arith, omega arith)
    choose false false = (omega arith, omega arith)

near_number : (shift : ℕ) (x : ℤ) → ((offset shift).low ≤ℤ x) × (x ≤ℤ high (offset shift))
    → pos (unsigned_abs x) ≤ℤ (pos (2 ^ 16) *ℤ pos (2 ^ shift))
near_number shift x h = sized (2 ^ shift) (2 ^ (shift + 16)) (pow-add 2 shift 16) (within_about (pos 0)
    (shift + 16) x h)
  where
    sized : (w v : ℕ) → v ≡ w * 2 ^ 16 → unsigned_abs (x -ℤ pos 0) ≤ v → pos (unsigned_abs x) ≤ℤ (pos (2 ^ 16) *ℤ pos w)
    sized w v e h = omega (arith, ints, e, h)

near_nothing : (shift : ℕ) → pos 0 ≤ℤ (pos (2 ^ 16) *ℤ pos (2 ^ shift))
near_nothing shift = sized (2 ^ shift)
  where
    sized : (w : ℕ) → pos 0 ≤ℤ (pos (2 ^ 16) *ℤ pos w)
    sized w = omega (arith, ints)

near_offset : (shift axis : ℕ) (a b : ℤ) → pos (unsigned_abs a) ≤ℤ (pos (2 ^ 16) *ℤ pos (2 ^ shift))
    → pos (unsigned_abs b) ≤ℤ (pos (2 ^ 16) *ℤ pos (2 ^ shift)) → IsNear shift (pos (2 ^ 16)) (offset_at axis a b)
near_offset shift axis a b h k = choose (axis == 1) (axis == 2)
  where
    choose : (u v : Bool) → IsNear shift (pos (2 ^ 16))
        (if u then record { x = pos 0; y = a; z = b } else (if v then record { x = a; y = pos 0; z = b } else record {
          x = a;
          y = b;
          z = pos 0;
        }))
    choose true v = record { x = near_nothing shift; y = h; z = k }
    choose false true = record { x = h; y = near_nothing shift; z = k }
    choose false false = record { x = h; y = k; z = near_nothing shift }

-- ---- candidates
line_candidate : (d : V3) (shift : ℕ) (w : Witness) → IsPlaceInRange 3 (coordinates_of Line shift) w
    → IsCandidate Line d w.root (direction_at Line d w) (pos (2 ^ 16)) (offset_of Line d w)
    × IsNear shift (pos (2 ^ 16)) (offset_of Line d w)
line_candidate d shift w p = (
  record {
    first = p.first;
    last = p.last;
    direction = leads w.root (number_at 0 w) (number_at 1 w) p.first p.last (ratio_small (number_at 0 w)
        (p.numbers 0 (omega arith))) (ratio_small (number_at 1 w) (p.numbers 1 (omega arith)));
    scale = omega (arith, ints);
    offset = flat_along w.root (number_at 2 w) (number_at 3 w) p.first p.last;
  },
  near_offset shift w.root (number_at 2 w) (number_at 3 w) (near_number shift (number_at 2 w)
      (p.numbers 2 (omega arith))) (near_number shift (number_at 3 w) (p.numbers 3 (omega arith))),
)

nothing_along : (axis : ℕ) → entry axis ORIGIN ≡ pos 0
nothing_along axis = by_axis axis ORIGIN (λ z. z ≡ pos 0) refl refl refl

pub witnesses_are_candidates : WitnessesAreCandidates
witnesses_are_candidates Flat d shift w range =
    let p = in_range_means 3 (coordinates_of Flat shift) w range in (
      record {
        first = p.first;
        last = p.last;
        direction = leads w.root (number_at 0 w) (number_at 1 w) p.first p.last (ratio_small (number_at 0 w)
            (p.numbers 0 (omega arith))) (ratio_small (number_at 1 w) (p.numbers 1 (omega arith)));
        scale = omega (arith, ints);
        offset = nothing_along w.root;
      },
      record { x = near_nothing shift; y = near_nothing shift; z = near_nothing shift },
    )
witnesses_are_candidates Line d shift w range = line_candidate d shift w (in_range_means 3 (coordinates_of Line shift)
    w range)
witnesses_are_candidates Circle d shift w range =
    let p = in_range_means 1 (coordinates_of Circle shift) w range in
    let lead = lead_first d in (
      record {
        first = lead.0;
        last = lead.1;
        direction = (refl, refl);
        scale = omega (arith, ints);
        offset =
            flat_along (leading_axis d) (number_at 0 w) (number_at 1 w) lead.0 lead.1;
      },
      near_offset shift (leading_axis d) (number_at 0 w) (number_at 1 w) (near_number shift (number_at 0 w)
          (p.numbers 0 (omega arith))) (near_number shift (number_at 1 w) (p.numbers 1 (omega arith))),
    )
witnesses_are_candidates Cylinder d shift w range =
    let line = line_candidate d shift w (in_range_means 3 (coordinates_of Cylinder shift) w range) in (
      record {
        first = line.0.first;
        last = line.0.last;
        direction = line.0.direction;
        scale = line.0.scale;
        offset =
            line.0.offset;
      },
      line.1,
    )
