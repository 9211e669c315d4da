-- Vectors of three whole numbers, and what their differences and products are.
use Rattle.std.specs.Prelude.{ℕ, ℤ, pos, ◌+◌, ◌≤◌, ◌+ℤ◌, ◌-ℤ◌, ◌*ℤ◌, unsigned_abs, List, [], ◌∷◌}
use Rattle.gd_vec.specs.declared.vector.V3.{V3}

-- no entry is larger than this size
pub record IsWithin (size : ℕ) (v : V3) : Type 0 where
  pub x : unsigned_abs v.x ≤ size
  pub y : unsigned_abs v.y ≤ size
  pub z : unsigned_abs v.z ≤ size

-- a - b, entry by entry
abbrev pub difference : V3 → V3 → V3
difference a b = record { x = a.x -ℤ b.x; y = a.y -ℤ b.y; z = a.z -ℤ b.z }

-- a · b: the sum of the products of the entries
abbrev pub dot_of : V3 → V3 → ℤ
dot_of a b = (a.x *ℤ b.x) +ℤ (a.y *ℤ b.y) +ℤ (a.z *ℤ b.z)

-- a × b: at right angles to both, and turned as x × y = z
abbrev pub cross_of : V3 → V3 → List ℤ
cross_of a b =
    ((a.y *ℤ b.z) -ℤ (a.z *ℤ b.y)) ∷ ((a.z *ℤ b.x) -ℤ (a.x *ℤ b.z)) ∷ ((a.x *ℤ b.y) -ℤ (a.y *ℤ b.x)) ∷ []

-- the sum of the squares of the entries
abbrev pub norm2_of : V3 → ℤ
norm2_of v = (v.x *ℤ v.x) +ℤ (v.y *ℤ v.y) +ℤ (v.z *ℤ v.z)

-- the sum of the sizes of the entries
abbrev pub norm_sum_of : V3 → ℤ
norm_sum_of v = pos (unsigned_abs v.x + unsigned_abs v.y + unsigned_abs v.z)
