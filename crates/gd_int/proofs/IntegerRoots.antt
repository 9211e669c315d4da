-- Roots rounded down and up, by the two bounds that fix each.
use Rattle.std.proofs.Common.{ℕ, ◌+◌, ◌-◌, ◌*◌, ◌≤◌, ◌<◌, arith, inl, inr}
use Rattle.std.proofs.lemmas.Bool.{cases_lt}
use Rattle.gd_int.proofs.Squares.{square_le}

-- r is the root of a, rounded down: no number with a square of at most a passes it
pub root_floor-greatest : (a r q : ℕ) → a < (r + 1) * (r + 1) → q * q ≤ a → q ≤ r
root_floor-greatest a r q h k = elim (cases_lt r q) as (λ _. q ≤ r) [ inl l ↦ absurd (omega (arith, square_le (r + 1) q (omega arith))) | inr l ↦ l ]

pub root_floor-mono : (a b r s : ℕ) → a ≤ b → r * r ≤ a → b < (s + 1) * (s + 1) → r ≤ s
root_floor-mono a b r s h k l = root_floor-greatest b s r l (omega arith)

-- r is the root of a, rounded up: each number with a square of at least a reaches it
pub root_ceil-least : (a r q : ℕ) → (0 < r → (r - 1) * (r - 1) < a) → a ≤ q * q → r ≤ q
root_ceil-least a r q h k = elim (cases_lt q r) as (λ _. r ≤ q) [ inl l ↦ absurd (omega (arith, h (omega arith), square_le q (r - 1) (omega arith))) | inr l ↦ l ]

pub root_ceil-mono : (a b r s : ℕ) → a ≤ b → (0 < r → (r - 1) * (r - 1) < a) → b ≤ s * s → r ≤ s
root_ceil-mono a b r s h k l = root_ceil-least a r s k (omega arith)

pub root_floor-le_ceil : (a r s : ℕ) → r * r ≤ a → a ≤ s * s → r ≤ s
root_floor-le_ceil a r s h k = elim (cases_lt s r) as (λ _. r ≤ s) [ inl l ↦ absurd (omega (arith, square_le (s + 1) r (omega arith))) | inr l ↦ l ]

pub root_ceil-le_floor : (a r s : ℕ) → a < (r + 1) * (r + 1) → (0 < s → (s - 1) * (s - 1) < a) → s ≤ r + 1
root_ceil-le_floor a r s h k = root_ceil-least a s (r + 1) k (omega arith)
