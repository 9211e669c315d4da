-- What it means that an interval r holds the exact result at every pair of members: x / k of a, and y / j or y / k of
-- b.
use Rattle.std.specs.Prelude.{ℤ, ℕ, pos, ◌+ℤ◌, ◌-ℤ◌, ◌*ℤ◌, ◌≤ℤ◌, ◌*◌, ◌^◌}
use Rattle.gd_base.specs.Scales.{ONE}
use Rattle.gd_interval.specs.declared.iv.Iv.{Iv}
use Rattle.gd_interval.specs.Interval.{Inside}

-- the fraction x / k is a member of a
abbrev pub Holds : Iv → ℕ → ℤ → Type 0
Holds a k x = Inside a.lo a.hi k x

-- x / k + y / k
abbrev pub EnclosesSum : Iv → Iv → Iv → Type 0
EnclosesSum a b r = (k : ℕ) (x y : ℤ) → Holds a k x → Holds b k y → Holds r k (x +ℤ y)

-- x / k - y / k
abbrev pub EnclosesDifference : Iv → Iv → Iv → Type 0
EnclosesDifference a b r = (k : ℕ) (x y : ℤ) → Holds a k x → Holds b k y → Holds r k (x -ℤ y)

-- (x / k) (y / j)
abbrev pub EnclosesProduct : Iv → Iv → Iv → Type 0
EnclosesProduct a b r = (k j : ℕ) (x y : ℤ) → Holds a k x → Holds b j y → Holds r (k * j) (x *ℤ y)

-- (x / k) f, for one whole factor f
abbrev pub EnclosesMultiple : Iv → ℤ → Iv → Type 0
EnclosesMultiple a f r = (k : ℕ) (x : ℤ) → Holds a k x → Holds r k (x *ℤ f)

-- (x / k)^2
abbrev pub EnclosesSquare : Iv → Iv → Type 0
EnclosesSquare a r = (k : ℕ) (x : ℤ) → Holds a k x → Holds r (k * k) (x *ℤ x)

-- 2^30 (x / k) / (w / j), which is 2^30 x j / (k w); every member of the divisor d is above 0
abbrev pub EnclosesQuotient : Iv → Iv → Iv → Type 0
EnclosesQuotient n d r = (k j w : ℕ) (x : ℤ) → Holds n k x → Holds d j (pos w) → Holds r (k * w) (x *ℤ pos (ONE * j))

-- (x / k) / 2^bits
abbrev pub EnclosesNarrowed : Iv → ℕ → Iv → Type 0
EnclosesNarrowed a bits r = (k : ℕ) (x : ℤ) → Holds a k x → Holds r (k * 2 ^ bits) x

-- the root of x / k: no end is negative, and x / k lies between their squares
abbrev pub EnclosesRoot : Iv → Iv → Type 0
EnclosesRoot a r = (pos 0 ≤ℤ r.lo) × ((k : ℕ) (x : ℤ) → Holds a k x → Inside (r.lo *ℤ r.lo) (r.hi *ℤ r.hi) k x)
