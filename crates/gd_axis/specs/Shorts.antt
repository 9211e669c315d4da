-- Intervals in 64 bits: their ends and sizes.
use Rattle.std.specs.Prelude.{ℕ, ◌≤◌, unsigned_abs}
use Rattle.gd_axis.specs.declared.short.Short.{Short}
use Rattle.gd_axis.specs.declared.short.ShortVec.{ShortVec}
use Rattle.gd_quat.specs.Formulas.{Ends, VectorEnds}

-- both ends
abbrev pub short_ends : Short → Ends
short_ends a = record { lo = a.lo; hi = a.hi }

abbrev pub short_vector : ShortVec → VectorEnds
short_vector v = record { x = short_ends v.x; y = short_ends v.y; z = short_ends v.z }

-- no end is larger than this size
pub record ShortFits (size : ℕ) (a : Short) : Type 0 where
  pub lo : unsigned_abs a.lo ≤ size
  pub hi : unsigned_abs a.hi ≤ size

pub record ShortVectorFits (size : ℕ) (v : ShortVec) : Type 0 where
  pub x : ShortFits size v.x
  pub y : ShortFits size v.y
  pub z : ShortFits size v.z
