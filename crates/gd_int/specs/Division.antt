-- Quotients of whole numbers, rounded down and up.
use Rattle.std.specs.Prelude.{ℤ, neg_ℤ}
use Rattle.std.specs.Int.{int_div_euclid}

-- the greatest q with q * b at most a, for b above 0
abbrev pub floor_of : ℤ → ℤ → ℤ
floor_of a b = int_div_euclid a b

-- the least q with q * b at least a, for b above 0
abbrev pub ceil_of : ℤ → ℤ → ℤ
ceil_of a b = neg_ℤ (int_div_euclid (neg_ℤ a) b)
