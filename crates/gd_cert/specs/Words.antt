-- The words of a line, and the numbers that words spell.
use Rattle.std.specs.Prelude.{ℕ, zero, suc, ℤ, pos, negsuc, Bool, List, [], ◌∷◌, Option, Some, None, Result, Ok, Err, nat_eq, nat_lt, nat_le, length, ◌==◌, ◌&&◌, if◌then◌else◌, decimal, option_map}
use Rattle.std.specs.Cmp.Lexicographic.{pointwise}
use Rattle.std.specs.List.{list_all, slice_split}
use Rattle.std.specs.Str.Parse.{digits_value}
pub use Rattle.gd_base.specs.Causes.{and_then_read}
use Rattle.gd_cert.specs.Bounds.{is_requirement_byte}
use Rattle.gd_cert.specs.declared.rule.Rule.{Rule}

-- what an option has, or else a broken rule
abbrev pub or_rule : {A : Type 0} → Option A → Rule → Result A Rule
or_rule None broken = Err broken
or_rule (Some x) broken = Ok x

-- the bytes parted at each byte that is the separator: its pieces are one more than the separators
abbrev pub pieces : ℕ → List ℕ → List (List ℕ)
pieces separator bytes = slice_split (λ b. b == separator) bytes

-- the words of a line, between single spaces
abbrev pub words_of : List ℕ → List (List ℕ)
words_of line = pieces 32 line

abbrev pub is_word : List ℕ → List ℕ → Bool
is_word word other = pointwise nat_eq word other

-- the number below the limit whose numeral the word is: `0`, or digits of which the first is no zero
unfoldable pub number_below : ℕ → List ℕ → Option ℕ
number_below limit word =
    if nat_lt (digits_value 10 word) limit && is_word word (decimal (digits_value 10 word)) then Some (digits_value 10 word) else None

-- most numbers are below 2^32
abbrev pub number_of : List ℕ → Option ℕ
number_of word = number_below 4294967296 word

abbrev pub below_zero : Option ℕ → Option ℤ
below_zero None = None
below_zero (Some zero) = None
below_zero (Some (suc n)) = Some (negsuc n)

-- the number below 2^62 in size that the word spells: a `-` stands before one below 0
unfoldable pub signed_number : List ℕ → Option ℤ
signed_number [] = None
signed_number (b ∷ bs) = if b == 45 then below_zero (number_below 4611686018427387904 bs) else option_map pos (number_below 4611686018427387904 (b ∷ bs))

abbrev pub onto : {A : Type 0} → Option A → Option (List A) → Option (List A)
onto None xs = None
onto (Some x) None = None
onto (Some x) (Some xs) = Some (x ∷ xs)

-- the numbers that all the words spell
abbrev pub signed_numbers : List (List ℕ) → Option (List ℤ)
signed_numbers [] = Some []
signed_numbers (word ∷ words) = onto (signed_number word) (signed_numbers words)

-- a requirement's name: 1 to 48 bytes that may stand in one
abbrev pub is_requirement : List ℕ → Bool
is_requirement name = nat_le 1 (length name) && nat_le (length name) 48 && list_all is_requirement_byte name
