-- How large numbers get in the rules of forms about an axis. docs/UNITS.md says where each comes from.
use Rattle.std.specs.Prelude.{ℕ, ◌^◌}

-- an entry of a point, and of a form's own point, in units
abbrev pub POINT_SIZE : ℕ
POINT_SIZE = 2 ^ 26

-- an entry of a direction that is stated
abbrev pub DIRECTION_SIZE : ℕ
DIRECTION_SIZE = 2 ^ 10

-- an entry of a point less the own point and an offset, in fine units
abbrev pub FROM_SIZE : ℕ
FROM_SIZE = 2 ^ 45

-- an entry of the cross product of that and a direction, narrowed, in fine units times the direction's length
abbrev pub ACROSS_SIZE : ℕ
ACROSS_SIZE = 2 ^ 56

-- its square
abbrev pub SQUARE_SIZE : ℕ
SQUARE_SIZE = 2 ^ 112

-- the squared length of a direction, in squares of fine units
abbrev pub LENGTH2_SIZE : ℕ
LENGTH2_SIZE = 2 ^ 54

-- a square unit, in squares of fine units
abbrev pub UNIT_SQUARE : ℕ
UNIT_SQUARE = 2 ^ 32
