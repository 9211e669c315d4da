-- The values of points by the columns of the axis on which a box leads.
use Rattle.std.proofs.Common.{arith, ◌≡◌, refl, sym, ◌∙◌, ℕ, zero, suc, ◌<◌, ◌≤◌, ◌^◌, ◌==◌, ℤ, pos, ◌+ℤ◌, ◌-ℤ◌, ◌*ℤ◌, true, false, Bool, List, length, get_or, map, unsigned_abs, if◌then◌else◌}
use Rattle.std.proofs.lemmas.Int.{ints, clamps}
use Rattle.std.specs.List.{All}
use Rattle.gd_dir.specs.Boxes.{box_of, direction_of}
use Rattle.gd_dir.specs.Directions.{entry, first_other, second_other}
use Rattle.gd_dir.specs.Faces.{IsFaceCell, high_end, low_end}
use Rattle.gd_dir.specs.declared.shape.DirBox.{DirBox}
use Rattle.gd_cells.specs.declared.cell.Cell.{Cell}
use Rattle.gd_base.specs.Limits.{COORDINATE}
use Rattle.gd_flat.proofs.Blocks.{column_at, column_length, high_there, low_there}
use Rattle.gd_flat.specs.FlatTests.{high_along, highs, low_along, lows, point_at, scale_hi, scale_lo}
use Rattle.gd_flat.specs.Leading.{LeadsByOne, coordinates}
use Rattle.gd_points.specs.declared.table.Row.{Row}
use Rattle.gd_vec.specs.Vector.{IsWithin, difference}
use Rattle.gd_vec.specs.declared.vector.V3.{V3}

-- ---- the three products in the order of the axes
alike : (lo hi d : ℤ) → lo ≡ pos (2 ^ 30) → hi ≡ pos (2 ^ 30) → (scale_lo lo hi d ≡ pos (2 ^ 30) *ℤ d) × (scale_hi lo hi d ≡ pos (2 ^ 30) *ℤ d)
alike lo hi d h k = rw (h, k) (omega (arith, ints, clamps), omega (arith, ints, clamps))

abbrev led_low : ℕ → V3 → V3 → V3 → ℤ
led_low axis lo hi d =
    pos (2 ^ 30) *ℤ entry axis d +ℤ scale_lo (entry (first_other axis) lo) (entry (first_other axis) hi) (entry (first_other axis) d)
    +ℤ scale_lo (entry (second_other axis) lo) (entry (second_other axis) hi) (entry (second_other axis) d)

abbrev led_high : ℕ → V3 → V3 → V3 → ℤ
led_high axis lo hi d =
    pos (2 ^ 30) *ℤ entry axis d +ℤ scale_hi (entry (first_other axis) lo) (entry (first_other axis) hi) (entry (first_other axis) d)
    +ℤ scale_hi (entry (second_other axis) lo) (entry (second_other axis) hi) (entry (second_other axis) d)

ordered : (axis : ℕ) (b : DirBox) (d : V3) → 1 ≤ axis → axis ≤ 3 → entry axis b.lo ≡ pos (2 ^ 30) → entry axis b.hi ≡ pos (2 ^ 30)
    → (low_along b d ≡ led_low axis b.lo b.hi d) × (high_along b d ≡ led_high axis b.lo b.hi d)
ordered zero b d first last h k = absurd (omega arith)
ordered (suc zero) b d first last h k = let e = alike b.lo.x b.hi.x d.x h k in (rw e.0 refl, rw e.1 refl)
ordered (suc (suc zero)) b d first last h k =
    let e = alike b.lo.y b.hi.y d.y h k in
    (rw e.0 (omega (arith, ints)), rw e.1 (omega (arith, ints)))
ordered (suc (suc (suc zero))) b d first last h k =
    let e = alike b.lo.z b.hi.z d.z h k in
    (rw e.0 (omega (arith, ints)), rw e.1 (omega (arith, ints)))
ordered (suc (suc (suc (suc n)))) b d first last h k = absurd (omega arith)

-- ---- an entry of a difference
entry_difference : (axis : ℕ) (p q : V3) → entry axis (difference p q) ≡ entry axis p -ℤ entry axis q
entry_difference axis p q = at (axis == 1) (axis == 2)
  where
    at : (s t : Bool) → (if s then p.x -ℤ q.x else (if t then p.y -ℤ q.y else p.z -ℤ q.z)) ≡ (if s then p.x else (if t then p.y else p.z)) -ℤ (if s then q.x else (if t then q.y else q.z))
    at true t = refl
    at false true = refl
    at false false = refl

-- ---- a column at a place
nowhere : Row
nowhere = record { feature = 0; group = 0; at = record { x = pos 0; y = pos 0; z = pos 0 } }

pub coordinate_at : (axis : ℕ) (rows : List Row) (values : List ℤ) (i : ℕ) → values ≡ coordinates axis rows → i < length rows → get_or values i (pos 0) ≡ entry axis (point_at rows i)
unfolding nowhere
coordinate_at axis rows values i same h = column_at (λ (row : Row). entry axis row.at) values rows i (pos 0) nowhere same h

pub apart_at : (axis : ℕ) (rows : List Row) (values : List ℤ) (i : ℕ) → values ≡ coordinates axis rows → i < length rows
    → get_or values i (pos 0) -ℤ get_or values 0 (pos 0) ≡ entry axis (difference (point_at rows i) (point_at rows 0))
apart_at axis rows values i same h =
    rw (coordinate_at axis rows values i same h, coordinate_at axis rows values 0 same (omega (arith, h))) (sym (entry_difference axis (point_at rows i) (point_at rows 0)))

pub column_within : (f : Row → ℤ) (xs : List ℤ) (rows : List Row) → xs ≡ map f rows → ((row : Row) → IsWithin COORDINATE row.at → unsigned_abs (f row) ≤ COORDINATE)
    → All (λ (row : Row). IsWithin COORDINATE row.at) rows → All (λ value. unsigned_abs value ≤ COORDINATE) xs
column_within f xs rows same entry-within within k d h =
    let inside : k < length rows = omega (arith, h, column_length f xs rows same) in
    rw (column_at f xs rows k d nowhere same inside) (entry-within (get_or rows k nowhere) (within k nowhere inside))

-- ---- the values of a point
pub lows_at : (b : DirBox) (rows : List Row) (i : ℕ) → LeadsByOne b → i < length rows → get_or (lows b rows) i (pos 0) ≡ led_low b.lead b.lo b.hi (difference (point_at rows i) (point_at rows 0))
lows_at b rows i leads h = low_there b rows i h ∙ (ordered b.lead b (difference (point_at rows i) (point_at rows 0)) leads.first leads.last leads.lo leads.hi).0

pub highs_at : (b : DirBox) (rows : List Row) (i : ℕ) → LeadsByOne b → i < length rows → get_or (highs b rows) i (pos 0) ≡ led_high b.lead b.lo b.hi (difference (point_at rows i) (point_at rows 0))
highs_at b rows i leads h = high_there b rows i h ∙ (ordered b.lead b (difference (point_at rows i) (point_at rows 0)) leads.first leads.last leads.lo leads.hi).1

-- ---- the box of a cell leads by 1
leads_with : (b : DirBox) (root : ℕ) (p q r s : ℤ) → 1 ≤ root → root ≤ 3 → (entry root (direction_of root p q) ≡ pos (2 ^ 30)) × (entry root (direction_of root r s) ≡ pos (2 ^ 30))
leads_with b zero p q r s first last = absurd (omega arith)
leads_with b (suc zero) p q r s first last = (refl, refl)
leads_with b (suc (suc zero)) p q r s first last = (refl, refl)
leads_with b (suc (suc (suc zero))) p q r s first last = (refl, refl)
leads_with b (suc (suc (suc (suc n)))) p q r s first last = absurd (omega arith)

pub box_leads : (c : Cell) → IsFaceCell c → LeadsByOne (box_of c)
box_leads c f =
    let e = leads_with (box_of c) c.root (low_end 0 c) (low_end 1 c) (high_end 0 c) (high_end 1 c) f.first_root f.last_root in
    record { first = f.first_root; last = f.last_root; lo = e.0; hi = e.1 }
