-- An interval of whole numbers is known by its two ends, and holds every number between them.
use Rattle.std.specs.Prelude.{ℤ, ℕ, pos, neg_ℤ, ◌*ℤ◌, ◌≤ℤ◌, ◌^◌}

-- below this size a number of 128 bits leaves one bit for a sum and one for the sign
abbrev pub ROOM : ℕ
ROOM = 2 ^ 126

-- the fraction x / k lies between the ends lo and hi, where k is at least 1: said by products, so nothing is rounded
-- here
abbrev pub Inside : ℤ → ℤ → ℕ → ℤ → Type 0
Inside lo hi k x = ((lo *ℤ pos k) ≤ℤ x) × (x ≤ℤ (hi *ℤ pos k))

-- the interval from a to b lies in the interval from lo to hi
abbrev pub IsInside : ℤ → ℤ → ℤ → ℤ → Type 0
IsInside a b lo hi = (lo ≤ℤ a) × (b ≤ℤ hi)

-- every number between lo and hi is at most m in size
abbrev pub IsWithin : ℤ → ℤ → ℤ → Type 0
IsWithin lo hi m = (neg_ℤ m ≤ℤ lo) × (hi ≤ℤ m)
