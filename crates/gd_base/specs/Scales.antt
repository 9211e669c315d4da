-- The scales of numbers on the grid, which clauses cite by name. docs/UNITS.md says what each holds.
use Rattle.std.specs.Prelude.{ℕ, ◌^◌}

-- 1 as a ratio: ratios are in 2^-30
abbrev pub ONE : ℕ
ONE = 2 ^ 30

-- one unit in fine units: fine units are 2^-16 of a unit
abbrev pub FINE : ℕ
FINE = 2 ^ 16
