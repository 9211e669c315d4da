-- How a field spells a whole number: blanks, a sign or none, one decimal digit or more, and blanks.
use Rattle.std.specs.Prelude.{ℕ, ◌+◌, ◌-◌, ◌*◌, min, ℤ, pos, negsuc, neg_ℤ, Bool, List, [], ◌∷◌, drop, fold, Option}
use Rattle.std.specs.Prelude.{Some, None, option_map, nat_lt, nat_le, ◌==◌, ◌&&◌, ◌||◌, if◌then◌else◌, take_while}
use Rattle.std.specs.List.{list_all, prefix_len}

-- a space or a tab
abbrev pub is_blank : ℕ → Bool
is_blank b = (b == 32) || (b == 9)

-- `0` to `9`
abbrev pub is_digit : ℕ → Bool
is_digit b = nat_le 48 b && nat_le b 57

-- what follows the bytes at the start that pass a test
abbrev pub after : (ℕ → Bool) → List ℕ → List ℕ
after test bytes = drop (prefix_len test bytes) bytes

-- the number that decimal digits are
abbrev pub value_of : List ℕ → ℕ
value_of digits = fold (λ value digit. 10 * value + (digit - 48)) 0 digits

-- the value of a text of one digit or more and then blanks
abbrev pub size_of : List ℕ → Option ℕ
size_of text = if nat_lt 0 (prefix_len is_digit text) && list_all is_blank (after is_digit text)
    then Some (value_of (take_while is_digit text))
    else None

-- the number of a text that begins with its sign or its first digit
abbrev pub signed_of : List ℕ → Option ℤ
signed_of [] = None
signed_of (b ∷ bs) =
    if b == 45 then option_map (λ size. neg_ℤ (pos size)) (size_of bs)
    else if b == 43 then option_map pos (size_of bs)
    else option_map pos (size_of (b ∷ bs))

-- the whole number that a field spells, if it spells one
abbrev pub number_of : List ℕ → Option ℤ
number_of field = signed_of (after is_blank field)

-- a number whose size is cut at 1,000,000,000, which lies outside each range of a field
abbrev pub cut : ℤ → ℤ
cut (pos n) = pos (min 1000000000 n)
cut (negsuc n) = negsuc (min 999999999 n)
