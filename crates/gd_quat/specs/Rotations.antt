-- Rotations of space by four whole numbers: the matrix of a rotation has whole numerators over the sum of their
-- squares.
use Rattle.std.specs.Prelude.{ℕ, ℤ, pos, ◌+◌, ◌*◌, ◌<◌, ◌+ℤ◌, ◌-ℤ◌, ◌*ℤ◌, unsigned_abs}
use Rattle.gd_vec.specs.Vector.{dot_of}
use Rattle.gd_vec.specs.declared.vector.V3.{V3}

-- four whole numbers, not all of them 0, stand for a rotation, and with a common factor for the same one
pub record Rotation : Type 0 where
  pub q0 : ℤ
  pub q1 : ℤ
  pub q2 : ℤ
  pub q3 : ℤ

-- the sum of their squares
abbrev pub norm_of : Rotation → ℕ
norm_of q =
    unsigned_abs q.q0 * unsigned_abs q.q0 + unsigned_abs q.q1 * unsigned_abs q.q1
    + unsigned_abs q.q2 * unsigned_abs q.q2 + unsigned_abs q.q3 * unsigned_abs q.q3

-- not all of them are 0
abbrev pub IsRotation : Rotation → Type 0
IsRotation q = 0 < norm_of q

-- nine whole numbers in three rows
pub record Matrix : Type 0 where
  pub x : V3
  pub y : V3
  pub z : V3

-- a matrix times a vector
abbrev pub applied : Matrix → V3 → V3
applied m v = record { x = dot_of m.x v; y = dot_of m.y v; z = dot_of m.z v }

abbrev pub doubled : ℤ → ℤ
doubled z = pos 2 *ℤ z

-- the numerators of a rotation's matrix, over the sum of the squares
abbrev pub matrix_of : Rotation → Matrix
matrix_of q =
    let a = q.q0 in
    let b = q.q1 in
    let c = q.q2 in
    let d = q.q3 in
    record {
      x = record {
        x = a *ℤ a +ℤ b *ℤ b -ℤ c *ℤ c -ℤ d *ℤ d;
        y = doubled (b *ℤ c -ℤ a *ℤ d);
        z = doubled (b *ℤ d +ℤ a *ℤ c);
      };
      y = record {
        x = doubled (b *ℤ c +ℤ a *ℤ d);
        y = a *ℤ a -ℤ b *ℤ b +ℤ c *ℤ c -ℤ d *ℤ d;
        z = doubled (c *ℤ d -ℤ a *ℤ b);
      };
      z = record {
        x = doubled (b *ℤ d -ℤ a *ℤ c);
        y = doubled (c *ℤ d +ℤ a *ℤ b);
        z = a *ℤ a -ℤ b *ℤ b -ℤ c *ℤ c +ℤ d *ℤ d;
      };
    }
