-- How large numbers get in the rule of flatness. docs/UNITS.md says where each comes from.
use Rattle.std.specs.Prelude.{ℕ, ◌*◌, ◌^◌}

-- an entry of a direction times a coordinate, or times a difference of two, in units times 2^-30
abbrev pub PRODUCT_SIZE : ℕ
PRODUCT_SIZE = 2 ^ 54

-- a value along a direction, which is the sum of three products
abbrev pub VALUE_SIZE : ℕ
VALUE_SIZE = 3 * 2 ^ 54
