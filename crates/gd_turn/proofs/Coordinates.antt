-- The coordinates of ranges: how many there are, which they are, and that they make a grid.
use Rattle.std.proofs.Common.{arith, ◌≡◌, refl, sym, ap, subst, ◌∙◌, ℕ, zero, suc, ◌+◌, ◌-◌, ◌*◌, ◌^◌, ◌≤◌, ◌<◌, ℤ, pos}
use Rattle.std.proofs.Common.{◌*ℤ◌, unsigned_abs, length, get_or, take}
use Rattle.std.proofs.lemmas.Int.{ints}
use Rattle.gd_base.specs.Limits.{LARGE_COORDINATE, LARGE_SHIFT, TURN}
use Rattle.gd_cells.specs.Grid.{IsCell}
use Rattle.gd_cells.specs.declared.cell.Cell.{Cell}
use Rattle.gd_grid.proofs.Ranges.{about_is}
use Rattle.gd_grid.proofs.Grids.{all_have_boxes, coordinates_make_grid}
use Rattle.gd_grid.specs.Cells.{IsGridOf, coordinate_at, high_in, index_at, low_in}
use Rattle.gd_grid.specs.Coordinates.{IsCoordinate, high_after, low_after}
use Rattle.gd_grid.specs.Laws.{AreCoordinates, HaveBoxes}
use Rattle.gd_grid.specs.Turns.{HasBox, turns}
use Rattle.gd_grid.specs.declared.coordinate.Coordinate.{Coordinate}
use Rattle.gd_turn.specs.Ranges.{AreRanges, all_coordinates, cells_of, coordinates_of, length_about, offset_coordinates}
use Rattle.gd_turn.specs.Ranges.{ratio, roots_of, turn_of}
use Rattle.gd_turn.specs.declared.ranges.Ranges.{Ranges}
use Rattle.gd_turn.specs.declared.ranges.TurnRange.{TurnRange}
use Rattle.gd_turn.specs.declared.ranges.TurnRange.TheVariants.{All, Within}

-- ---- each is one
pub ratio_is : (turn : TurnRange) → turn_of turn ≤ TURN → IsCoordinate (ratio turn)
ratio_is turn h = about_is (pos 0) (30 - turn_of turn) (omega arith) (omega arith)

pub length_is : (shift : ℕ) (x : ℤ) → shift ≤ LARGE_SHIFT → unsigned_abs x ≤ LARGE_COORDINATE
    → IsCoordinate (length_about shift x)
length_is shift x h k = about_is (x *ℤ pos (2 ^ 16)) (shift + 16) (omega (arith, ints)) (omega (arith, h))

-- ---- the offsets' coordinates
abbrev NONE : Coordinate
NONE = record { low = pos 0; bits = 0 }

length_offsets : (count : ℕ) (k : Coordinate) → length (offset_coordinates count k) ≡ 3 * count
length_offsets zero k = refl
length_offsets (suc n) k = let e = length_offsets n k in omega (arith, e)

pub offset_is : (count m : ℕ) (k : Coordinate) → m < 3 * count → get_or (offset_coordinates count k) m NONE ≡ k
offset_is zero m k h = absurd (omega arith)
offset_is (suc n) zero k h = refl
offset_is (suc n) (suc zero) k h = refl
offset_is (suc n) (suc (suc zero)) k h = refl
offset_is (suc n) (suc (suc (suc m))) k h = offset_is n m k (omega (arith, h))

-- ---- all of them
pub length_of : (r : Ranges) → length (coordinates_of r) ≡ 3 * r.offsets + 6
length_of r = let e = length_offsets r.offsets (length_about r.shift (pos 0)) in omega (arith, e)

pub later_is : (r : Ranges) (m : ℕ) → m < 3 * r.offsets
    → coordinate_at (coordinates_of r) (suc (suc (suc (suc (suc (suc m)))))) ≡ length_about r.shift (pos 0)
later_is r m h = offset_is r.offsets m (length_about r.shift (pos 0)) h

pub are_coordinates : (r : Ranges) → AreRanges r → AreCoordinates (coordinates_of r)
are_coordinates r are =
    let n = length_of r in
    record { some = omega (arith, n); few = omega (arith, n, are.offsets); each = each }
  where
    each : (m : ℕ) → m < length (coordinates_of r) → IsCoordinate (coordinate_at (coordinates_of r) m)
    each zero h = ratio_is r.turn are.turn
    each (suc zero) h = ratio_is r.turn are.turn
    each (suc (suc zero)) h = ratio_is r.turn are.turn
    each (suc (suc (suc zero))) h = length_is r.shift r.centre.x are.shift are.centre.x
    each (suc (suc (suc (suc zero)))) h = length_is r.shift r.centre.y are.shift are.centre.y
    each (suc (suc (suc (suc (suc zero))))) h = length_is r.shift r.centre.z are.shift are.centre.z
    each (suc (suc (suc (suc (suc (suc m)))))) h =
        let n = length_of r in
        subst IsCoordinate (sym (later_is r m (omega (arith, n, h))))
        (length_is r.shift (pos 0) are.shift (omega arith))

-- ---- the grid
some_roots : (turn : TurnRange) → 1 ≤ roots_of turn
some_roots All = omega arith
some_roots (Within k) = omega arith

few_roots : (turn : TurnRange) → roots_of turn ≤ 4
few_roots All = omega arith
few_roots (Within k) = omega arith

pub first_root : (r : Ranges) → 1 ≤ roots_of r.turn
first_root r = some_roots r.turn

pub last_root : (r : Ranges) → roots_of r.turn ≤ 4
last_root r = few_roots r.turn

pub is_grid_of : (r : Ranges) → AreRanges r → IsGridOf (cells_of r) (coordinates_of r)
is_grid_of r are = (coordinates_make_grid (roots_of r.turn) (coordinates_of r) (some_roots r.turn) (few_roots r.turn)
    (are_coordinates r are)).1

-- from the seventh on they are those of the offsets
pub default_is : (r : Ranges) (n : ℕ) → 6 ≤ n → n < 3 * r.offsets + 6
    → coordinate_at (coordinates_of r) n ≡ length_about r.shift (pos 0)
default_is r zero some h = absurd (omega arith)
default_is r (suc zero) some h = absurd (omega arith)
default_is r (suc (suc zero)) some h = absurd (omega arith)
default_is r (suc (suc (suc zero))) some h = absurd (omega arith)
default_is r (suc (suc (suc (suc zero)))) some h = absurd (omega arith)
default_is r (suc (suc (suc (suc (suc zero))))) some h = absurd (omega arith)
default_is r (suc (suc (suc (suc (suc (suc m)))))) some h = later_is r m (omega (arith, h))

-- each has a box in each cell
pub has_box : (r : Ranges) (c : Cell) (n : ℕ) → AreRanges r → IsCell (cells_of r) c → n < 3 * r.offsets + 6
    → HasBox (coordinate_at (coordinates_of r) n) n (3 * r.offsets + 6) c
has_box r c n are cell h = subst (λ dims. HasBox (coordinate_at (coordinates_of r) n) n dims c) (length_of r)
    (all_have_boxes (roots_of r.turn)
    (coordinates_of r) c (are_coordinates r are) cell n (omega (arith, h, length_of r)))

-- its ends, by the number of coordinates
pub low_is : (r : Ranges) (c : Cell) (n : ℕ) (k : Coordinate) → k ≡ coordinate_at (coordinates_of r) n
    → low_after k (turns (3 * r.offsets + 6) n c.level) (index_at n c) ≡ low_in (coordinates_of r) n c
low_is r c n k e = ap (λ (m : Coordinate). low_after m (turns (3 * r.offsets + 6) n c.level) (index_at n c)) e
    ∙ ap (λ dims. low_after (coordinate_at (coordinates_of r) n) (turns dims n c.level) (index_at n c))
    (sym (length_of r))

pub high_is : (r : Ranges) (c : Cell) (n : ℕ) (k : Coordinate) → k ≡ coordinate_at (coordinates_of r) n
    → high_after k (turns (3 * r.offsets + 6) n c.level) (index_at n c) ≡ high_in (coordinates_of r) n c
high_is r c n k e = ap (λ (m : Coordinate). high_after m (turns (3 * r.offsets + 6) n c.level) (index_at n c)) e
    ∙ ap (λ dims. high_after (coordinate_at (coordinates_of r) n) (turns dims n c.level) (index_at n c))
    (sym (length_of r))

-- ---- the coordinates are the first ones of those of two offsets
first_of : (r : Ranges) (count : ℕ) → count ≤ 2
    → take (3 * count + 6) (all_coordinates r)
    ≡ coordinates_of (record { turn = r.turn; shift = r.shift; centre = r.centre; offsets = count })
first_of r zero h = refl
first_of r (suc zero) h = refl
first_of r (suc (suc zero)) h = refl
first_of r (suc (suc (suc n))) h = absurd (omega arith)

pub taken_is : (r : Ranges) (n : ℕ) → AreRanges r → n ≡ length (coordinates_of r)
    → take n (all_coordinates r) ≡ coordinates_of r
taken_is r n are e = ap (λ m. take m (all_coordinates r)) (e ∙ length_of r) ∙ first_of r r.offsets are.offsets

pub few_dims : (r : Ranges) → AreRanges r → length (coordinates_of r) ≤ 12
few_dims r are = (are_coordinates r are).few

pub have_boxes : (r : Ranges) (c : Cell) → AreRanges r → IsCell (cells_of r) c → HaveBoxes (coordinates_of r) c
have_boxes r c are cell = all_have_boxes (roots_of r.turn) (coordinates_of r) c (are_coordinates r are) cell
