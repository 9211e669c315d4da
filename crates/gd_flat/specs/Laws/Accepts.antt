-- A witness that holds is a direction across which the points are flat.
use Rattle.std.proofs.Common.{arith, ◌≡◌, ℕ, zero, suc, ◌^◌, ◌<◌, ◌≤◌, ℤ, pos, ◌≤ℤ◌, true, List, length, get_or}
use Rattle.std.proofs.Common.{unsigned_abs}
use Rattle.std.proofs.lemmas.Int.{ints}
use Rattle.std.proofs.lemmas.List.{get_or-map, length-map}
use Rattle.gd_base.specs.Scales.{ONE}
use Rattle.gd_dir.specs.Boxes.{direction_of}
use Rattle.gd_dir.specs.Directions.{LeadsAlong}
use Rattle.gd_flat.specs.Laws.Firsts.{above_least, below_greatest}
use Rattle.gd_flat.specs.Laws.Refutations.{dot-difference}
use Rattle.gd_flat.specs.FlatTests.{along, is_within, spread}
use Rattle.gd_flat.specs.Flatness.{HasZone}
use Rattle.gd_int.proofs.Comparisons.{AtMost-below}
use Rattle.gd_int.proofs.Orders.{at_most_from_cmp}
use Rattle.gd_int.specs.Comparisons.{AtMost}
use Rattle.gd_points.specs.declared.table.Row.{Row}
use Rattle.gd_vec.specs.Vector.{difference, dot_of, norm2_of}
use Rattle.gd_vec.specs.declared.vector.V3.{V3}

-- two points are no further apart along n than the spread
apart : (rows : List Row) (n : V3) (i j : ℕ) (d e : Row) → i < length rows → j < length rows
    → dot_of n (difference (get_or rows i d).at (get_or rows j e).at) ≤ℤ spread (along n rows)
apart rows n i j d e p q =
    let f : Row → ℤ = λ row. dot_of n row.at in
    let a = rw (get_or-map f rows i d (pos 0) p) at (below_greatest (along n rows) i (pos 0) (rw length-map p)) in
    let b = rw (get_or-map f rows j e (pos 0) q) at (above_least (along n rows) j (pos 0) (rw length-map q)) in
    rw dot-difference (omega (arith, ints, a, b))

-- points within the tolerance along a direction are flat across it
pub within_is_flat : (rows : List Row) (tolerance : ℕ) (n : V3) → is_within rows tolerance n ≡ true
    → HasZone rows tolerance n
within_is_flat rows tolerance n h = λ i d p j e q.
    let most : AtMost (spread (along n rows)) (pos tolerance) (norm2_of n) =
    (at_most_from_cmp (spread (along n rows)) (pos tolerance) (norm2_of n)).0 h in
    AtMost-below (spread (along n rows)) (dot_of n (difference (get_or rows i d).at (get_or rows j e).at))
    (pos tolerance) (norm2_of n) (apart rows n i j d e p q) most

-- the direction of two ratios leads along its root's axis
pub leads : (root : ℕ) (a b : ℤ) → unsigned_abs a ≤ ONE → unsigned_abs b ≤ ONE → 1 ≤ root → root ≤ 3
    → LeadsAlong root (direction_of root a b)
leads zero a b x y one three = absurd (omega arith)
leads (suc zero) a b x y one three = record { positive = omega (arith, ints); x = omega arith; y = x; z = y }
leads (suc (suc zero)) a b x y one three = record { positive = omega (arith, ints); x = x; y = omega arith; z = y }
leads (suc (suc (suc zero))) a b x y one three =
    record { positive = omega (arith, ints); x = x; y = y; z = omega arith }
leads (suc (suc (suc (suc n)))) a b x y one three = absurd (omega arith)
