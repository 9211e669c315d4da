-- How a word spells a whole number: `0`, or digits of which the first is no zero.
use Rattle.std.specs.Prelude.{ℕ, ◌≡◌, ◌≤◌, ◌+◌, ◌*◌, ◌-◌, Bool, true, false, not, nat_le, ◌==◌, ◌&&◌, if◌then◌else◌, List, [], ◌∷◌, Option, Some, None, decimal}

-- the text is the decimal numeral of n, without a sign and without a leading zero
abbrev pub Spells : List ℕ → ℕ → Type 0
Spells text n = text ≡ decimal n

-- the number up to the limit that the text spells, or none where it spells none
abbrev pub IsNumberIn : List ℕ → ℕ → Option ℕ → Type 0
IsNumberIn text limit (Some n) = (n ≤ limit) × Spells text n
IsNumberIn text limit None = (n : ℕ) → n ≤ limit → Spells text n → ⊥

-- `0` to `9`
abbrev pub is_digit : ℕ → Bool
is_digit b = nat_le 48 b && nat_le b 57

-- a word is neither empty nor begins with a zero that something follows
abbrev pub begins_plain : List ℕ → Bool
begins_plain [] = false
begins_plain (b ∷ []) = true
begins_plain (b ∷ c ∷ bs) = not (b == 48)

-- the number that digits write after those of n, or none where another byte stands among them
abbrev pub digits_from : ℕ → List ℕ → Option ℕ
digits_from n [] = Some n
digits_from n (b ∷ bs) = if is_digit b then digits_from (10 * n + (b - 48)) bs else None
