-- Values worked by hand, so that a wrong definition doesn't check.
use Rattle.std.proofs.Common.{◌≡◌, refl, pos, negsuc, [], ◌∷◌}
use Rattle.gd_vec.specs.declared.vector.V3.{V3}
use Rattle.gd_vec.specs.Vector.{difference, dot_of, cross_of, norm2_of, norm_sum_of}

-- the vectors (3, -3, 1) and (4, 9, 2)
abbrev pub first : V3
first = record { x = pos 3; y = negsuc 2; z = pos 1 }

abbrev pub second : V3
second = record { x = pos 4; y = pos 9; z = pos 2 }

pub known_difference : difference first second ≡ record { x = negsuc 0; y = negsuc 11; z = negsuc 0 }
known_difference = refl

pub known_dot : dot_of first second ≡ negsuc 12
known_dot = refl

pub known_cross : cross_of first second ≡ negsuc 14 ∷ negsuc 1 ∷ pos 39 ∷ []
known_cross = refl

-- x × y = z: the product turns as the axes do
pub known_axes : cross_of (record { x = pos 1; y = pos 0; z = pos 0 }) (record { x = pos 0; y = pos 1; z = pos 0 }) ≡ pos 0 ∷ pos 0 ∷ pos 1 ∷ []
known_axes = refl

pub known_norm2 : norm2_of first ≡ pos 19
known_norm2 = refl

pub known_norm_sum : norm_sum_of first ≡ pos 7
known_norm_sum = refl

-- the sum of the squares is the dot product with itself
pub norm2-is_dot : (v : V3) → norm2_of v ≡ dot_of v v
norm2-is_dot v = refl
