-- Two comparisons with roots of whole numbers, stated without a root.
use Rattle.std.specs.Prelude.{ℤ, pos, ◌+ℤ◌, ◌-ℤ◌, ◌*ℤ◌, ◌≤ℤ◌, ◌⊎◌}
use Rattle.gd_int.specs.Roots.{signed_square}

-- a is at most h times the root of n, where n is at least 0: squares with their signs keep the order
unfoldable pub AtMost : ℤ → ℤ → ℤ → Type 0
AtMost a h n = signed_square a ≤ℤ (signed_square h *ℤ n)

-- by how much p passes the sum of q and r
abbrev pub excess : ℤ → ℤ → ℤ → ℤ
excess p q r = p -ℤ (q +ℤ r)

-- the root of p is at most the root of q plus the root of r, where none is below 0: the excess is at most twice the root of q times r
unfoldable pub RootAtMost : ℤ → ℤ → ℤ → Type 0
RootAtMost p q r = (excess p q r ≤ℤ pos 0) ⊎ ((excess p q r *ℤ excess p q r) ≤ℤ (pos 4 *ℤ (q *ℤ r)))
