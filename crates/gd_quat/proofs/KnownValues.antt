-- Rotations worked by hand, so that a wrong matrix does not check.
use Rattle.std.proofs.Common.{◌≡◌, refl, pos, negsuc}
use Rattle.std.specs.Prelude.{ℤ}
use Rattle.gd_quat.specs.Placements.{image_of, image_under, rotation_at}
use Rattle.gd_quat.specs.Rotations.{Rotation, applied, matrix_of, norm_of}
use Rattle.gd_vec.specs.declared.vector.V3.{V3}

abbrev vector : ℤ → ℤ → ℤ → V3
vector a b c = record { x = a; y = b; z = c }

abbrev rotation : ℤ → ℤ → ℤ → ℤ → Rotation
rotation a b c d = record { q0 = a; q1 = b; q2 = c; q3 = d }

abbrev turn : Rotation → V3 → V3
turn q v = applied (matrix_of q) v

-- a quarter turn about x takes y to z and z to -y, both over 2
pub known_quarter_x : (turn (rotation (pos 1) (pos 1) (pos 0) (pos 0)) (vector (pos 0) (pos 1) (pos 0)) ≡ vector (pos 0) (pos 0) (pos 2))
    × (turn (rotation (pos 1) (pos 1) (pos 0) (pos 0)) (vector (pos 0) (pos 0) (pos 1)) ≡ vector (pos 0) (negsuc 1) (pos 0))
    × (norm_of (rotation (pos 1) (pos 1) (pos 0) (pos 0)) ≡ 2)
known_quarter_x = (refl, refl, refl)

-- about y it takes z to x and x to -z
pub known_quarter_y : (turn (rotation (pos 1) (pos 0) (pos 1) (pos 0)) (vector (pos 0) (pos 0) (pos 1)) ≡ vector (pos 2) (pos 0) (pos 0))
    × (turn (rotation (pos 1) (pos 0) (pos 1) (pos 0)) (vector (pos 1) (pos 0) (pos 0)) ≡ vector (pos 0) (pos 0) (negsuc 1))
known_quarter_y = (refl, refl)

-- about z it takes x to y and y to -x
pub known_quarter_z : (turn (rotation (pos 1) (pos 0) (pos 0) (pos 1)) (vector (pos 1) (pos 0) (pos 0)) ≡ vector (pos 0) (pos 2) (pos 0))
    × (turn (rotation (pos 1) (pos 0) (pos 0) (pos 1)) (vector (pos 0) (pos 1) (pos 0)) ≡ vector (negsuc 1) (pos 0) (pos 0))
known_quarter_z = (refl, refl)

-- a third of a turn about (1, 1, 1) takes x to y, y to z and z to x, over 4
pub known_third : (turn (rotation (pos 1) (pos 1) (pos 1) (pos 1)) (vector (pos 1) (pos 0) (pos 0)) ≡ vector (pos 0) (pos 4) (pos 0))
    × (turn (rotation (pos 1) (pos 1) (pos 1) (pos 1)) (vector (pos 0) (pos 1) (pos 0)) ≡ vector (pos 0) (pos 0) (pos 4))
    × (turn (rotation (pos 1) (pos 1) (pos 1) (pos 1)) (vector (pos 0) (pos 0) (pos 1)) ≡ vector (pos 4) (pos 0) (pos 0))
known_third = (refl, refl, refl)

-- the turn about z whose half has the tangent 1/2 takes x to (3, 4, 0) over 5, and with the opposite numbers too
pub known_three_four_five : (turn (rotation (pos 2) (pos 0) (pos 0) (pos 1)) (vector (pos 1) (pos 0) (pos 0)) ≡ vector (pos 3) (pos 4) (pos 0))
    × (turn (rotation (negsuc 1) (pos 0) (pos 0) (negsuc 0)) (vector (pos 1) (pos 0) (pos 0)) ≡ vector (pos 3) (pos 4) (pos 0))
    × (norm_of (rotation (pos 2) (pos 0) (pos 0) (pos 1)) ≡ 5)
known_three_four_five = (refl, refl, refl)

-- that turn and a translation by (1, 2, 3) / 7: the numerators of the image are over 35, and with an offset of (1, 0, 0) / 7 too
pub known_image : (image_of (record { turn = rotation (pos 2) (pos 0) (pos 0) (pos 1); scale = 7; shift = vector (pos 1) (pos 2) (pos 3); first = vector (pos 1) (pos 0) (pos 0); second = vector (pos 0) (pos 0) (pos 0) }) (vector (pos 1) (pos 0) (pos 0)) ≡ vector (pos 26) (pos 38) (pos 15))
    × (image_under (record { turn = rotation (pos 2) (pos 0) (pos 0) (pos 1); scale = 7; shift = vector (pos 1) (pos 2) (pos 3); first = vector (pos 1) (pos 0) (pos 0); second = vector (pos 0) (pos 0) (pos 0) }) 1 (vector (pos 1) (pos 0) (pos 0)) ≡ vector (pos 31) (pos 38) (pos 15))
known_image = (refl, refl)

-- the leading component stands at its own place, and the others keep their order
pub known_faces : (r : ℤ) → (rotation_at 0 (record { first = pos 1; second = pos 2; third = pos 3 }) ≡ rotation (pos 1_073_741_824) (pos 1) (pos 2) (pos 3))
    × (rotation_at 1 (record { first = pos 1; second = pos 2; third = pos 3 }) ≡ rotation (pos 1) (pos 1_073_741_824) (pos 2) (pos 3))
    × (rotation_at 2 (record { first = pos 1; second = pos 2; third = pos 3 }) ≡ rotation (pos 1) (pos 2) (pos 1_073_741_824) (pos 3))
    × (rotation_at 3 (record { first = pos 1; second = pos 2; third = pos 3 }) ≡ rotation (pos 1) (pos 2) (pos 3) (pos 1_073_741_824))
known_faces r = (refl, refl, refl, refl)
