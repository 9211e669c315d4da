-- Values about axes worked by hand, so that a wrong definition doesn't check.
use Rattle.std.proofs.Common.{◌≡◌, refl, ℕ, ◌*◌, ◌^◌, pos, true, false, [], ◌∷◌}
use Rattle.gd_dir.specs.Boxes.{ORIGIN}
use Rattle.gd_dir.specs.declared.shape.DirBox.{DirBox}
use Rattle.gd_dir.specs.declared.shape.FormShape.TheVariants.{Circle, Cylinder}
use Rattle.gd_axis.specs.Axes.{Axis, distance2, square_of}
use Rattle.gd_axis.specs.AxisBoxes.{least_power}
use Rattle.gd_axis.specs.AxisTests.{across, is_inside, is_judged, is_outside, length2_of, value_of}
use Rattle.gd_vec.specs.declared.vector.V3.{V3}
use Rattle.gd_zone.specs.Values.{squares_of}

vector : ℕ → ℕ → ℕ → V3
vector x y z = record { x = pos x; y = pos y; z = pos z }

-- an axis along z through (1, 0, 0), as 2 / 2
upright : Axis
upright = record { direction = vector 0 0 1; scale = 2; offset = vector 2 0 0 }

-- (4, 4, 7) lies 5 from it: 25, times the square of the scale
known_distance : (distance2 upright ORIGIN (vector 4 4 7) ≡ pos 100) × (square_of 5 upright ≡ pos 100)
unfolding upright vector
known_distance = (refl, refl)

-- directions of a section along z, with no offset
section : DirBox
section = record { lead = 3; lo = vector 0 0 1; hi = vector 0 0 1; offset_lo = ORIGIN; offset_hi = ORIGIN }

-- the same along z with x from 0 to 1, in 2^-30
fan : DirBox
fan = record { lead = 3; lo = vector 0 0 (2 ^ 30); hi = vector (2 ^ 30) 0 (2 ^ 30); offset_lo = ORIGIN; offset_hi = ORIGIN }

-- (3, 4, 5) lies 5 units from the axis along z: 25 in squares of fine units
known_value : value_of Circle section ORIGIN (vector 3 4 5) ≡ record { lo = pos (25 * 2 ^ 32); hi = pos (25 * 2 ^ 32) }
unfolding section vector across squares_of
known_value = refl

-- over the fan (0, 4, 0) lies 4 units off z, and 4 roots of 2 times as far, times the length, off the diagonal
known_values : value_of Cylinder fan ORIGIN (vector 0 4 0) ≡ record { lo = pos (16 * 2 ^ 32); hi = pos (32 * 2 ^ 32) }
unfolding fan vector across squares_of
known_values = refl

-- directions are between 1 and the root of 2 long
known_lengths : (length2_of Cylinder fan ≡ record { lo = pos (2 ^ 32); hi = pos (2 * 2 ^ 32) }) × (length2_of Circle section ≡ record { lo = pos (2 ^ 32); hi = pos (2 ^ 32) })
unfolding fan section vector squares_of
known_lengths = (refl, refl)

-- points are named by their numbers from 1
known_numbers : (is_judged (4 ∷ 7 ∷ []) 8 ≡ true) × (is_judged (4 ∷ 7 ∷ []) 7 ≡ false) × (is_judged (4 ∷ 7 ∷ []) 0 ≡ false)
known_numbers = (refl, refl, refl)

-- a distance of 3 is in a diameter of 6, and out of one of 5
known_ties : (is_inside 6 (pos 1) (record { lo = pos 9; hi = pos 9 }) ≡ true) × (is_outside 6 (pos 1) (record { lo = pos 9; hi = pos 9 }) ≡ false) × (is_outside 5 (pos 1) (record { lo = pos 9; hi = pos 9 }) ≡ true)
known_ties = (refl, refl, refl)

-- 2^0, 2^1, 2^3 and 2^4 are the least powers that are at least 1, 2, 8 and 10
known_powers : (least_power 0 ≡ 0) × (least_power 1 ≡ 0) × (least_power 2 ≡ 1) × (least_power 8 ≡ 3) × (least_power 10 ≡ 4)
known_powers = (refl, refl, refl, refl, refl)
