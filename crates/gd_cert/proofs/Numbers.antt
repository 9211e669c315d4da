-- The numbers that words spell, and the words of numbers.
use Rattle.std.proofs.Common.{◌≡◌, ◌≢◌, ℕ, ◌-◌, ◌≤◌, ◌<◌, ◌^◌, Bool, true, false, ◌==◌, ◌&&◌, List, [], ◌∷◌, Option, Some, None, cond, length, get_or, ℤ, pos, negsuc, arith, sym, refl, ap, subst, ◌∙◌, decimal, IsUtf8, zero, suc}
use Rattle.std.specs.Prelude.{nat_lt, unsigned_abs, option_map}
use Rattle.std.specs.Cmp.Lexicographic.{same_text, nat_list_eq_equiv}
use Rattle.std.specs.Fmt.{signed_decimal}
use Rattle.std.specs.List.{All, list_all}
use Rattle.std.specs.Str.Parse.{AllDigits, digits_value}
use Rattle.std.proofs.lemmas.Bool.Decides.{nat_tests}
use Rattle.std.proofs.lemmas.Fmt.{decimal_nonempty, digits_decimal, digits_value-decimal}
use Rattle.std.proofs.lemmas.List.Elements.{All-from_get_or}
use Rattle.std.proofs.lemmas.List.Sums.{AllPass-from_list_all}
use Rattle.std.proofs.lemmas.Option.{cond_some}
use Rattle.std.proofs.lemmas.Str.{IsUtf8-from_ascii}
use Rattle.std.proofs.lemmas.Str.Ascii.{IsAscii-from_all}
use Rattle.std.proofs.lemmas.Str.Parse.{IsNumeralModel, numerals_by_value, tells_digits, not_in_digits}
use Rattle.gd_base.specs.Numerals.{IsNumberIn}
use Rattle.gd_cert.specs.Bounds.{is_requirement_byte}
use Rattle.gd_cert.specs.Words.{below_zero, is_requirement, is_word, number_below, signed_number}

pub own : IsNumeralModel (AllDigits 10) (digits_value 10)
own = numerals_by_value (AllDigits 10) tells_digits

pub both : (a b : Bool) → (a && b) ≡ true → (a ≡ true) × (b ≡ true)
both true b h = (refl, h)
both false b h = cc h

-- a word with a number is its numeral
pub below_spelled : (limit : ℕ) (word : List ℕ) (n : ℕ) → number_below limit word ≡ Some n → (n < limit) × (word ≡ decimal n)
unfolding number_below
below_spelled limit word n h =
    let v = digits_value 10 word in
    let (passed, is) = cond_some (nat_lt v limit && is_word word (decimal v)) v n h in
    let (small, same) = both (nat_lt v limit) (is_word word (decimal v)) passed in
    let less : v < limit = grind (arith, nat_tests) in
    (subst (λ m. m < limit) is less, subst (λ m. word ≡ decimal m) is (same_text word (decimal v) (sym same)))

-- a numeral has its number
pub below_again : (limit n : ℕ) → limit ≤ 2 ^ 63 → n < limit → number_below limit (decimal n) ≡ Some n
unfolding number_below
below_again limit n few lt =
    let value : digits_value 10 (decimal n) ≡ n = digits_value-decimal own n (omega arith) in
    let small : nat_lt n limit ≡ true = grind (arith, nat_tests) in
    rw (value, small, nat_list_eq_equiv.refl (decimal n)) refl

-- an option without a value
pub none_of : {A : Type 0} (o : Option A) → ((x : A) → o ≡ Some x → ⊥) → None ≡ o
none_of None h = refl
none_of (Some x) h = absurd (h x refl)

-- the answer of `plain_number`
pub number_is : (limit : ℕ) (word : List ℕ) (r : Option ℕ) → 1 ≤ limit → limit ≤ 2 ^ 63 → IsNumberIn word (limit - 1) r → r ≡ number_below limit word
number_is limit word None some few h = none_of (number_below limit word) (λ n e. let (lt, is) = below_spelled limit word n e in h n (omega arith) is)
number_is limit word (Some n) some few h = rw h.1 (sym (below_again limit n few (omega arith)))

differs : (b c : ℕ) → b ≢ c → (b == c) ≡ false
differs b c other = grind (arith, nat_tests)

-- a numeral has no other bytes than digits
pub decimal_without : (n c : ℕ) → n < 2 ^ 63 → c < 48 → All (λ b. (b == c) ≡ false) (decimal n)
decimal_without n c small low = All-from_get_or (λ b. (b == c) ≡ false) (decimal n) 0 (λ k lt.
    let other = not_in_digits own (decimal n) c (digits_decimal own n (omega arith)) (λ r. absurd (omega (arith, r.0))) k lt in
    differs (get_or (decimal n) k 0) c other)

unsigned_front : (word : List ℕ) → 0 < length word → get_or word 0 0 ≢ 45 → signed_number word ≡ option_map pos (number_below 4611686018427387904 word)
unfolding signed_number
unsigned_front [] h other = absurd (omega arith)
unsigned_front (b ∷ bs) h other = let no : (b == 45) ≡ false = grind (arith, nat_tests) in rw no refl

pub signed_again : (z : ℤ) → unsigned_abs z < 2 ^ 62 → signed_number (signed_decimal z) ≡ Some z
unfolding signed_number
signed_again (pos n) small =
    let digits = digits_decimal own n (omega arith) in
    let some = decimal_nonempty n (omega arith) in
    let front = not_in_digits own (decimal n) 45 digits (λ r. absurd (omega (arith, r.0))) 0 some in
    unsigned_front (decimal n) some front ∙ ap (option_map pos) (below_again 4611686018427387904 n (omega arith) (omega arith))
signed_again (negsuc n) small = ap below_zero (below_again 4611686018427387904 (suc n) (omega arith) (omega arith))

abbrev IsSigned : List ℕ → ℤ → Type 0
IsSigned word z = (word ≡ signed_decimal z) × (unsigned_abs z < 2 ^ 62)

spelled_below : (bs : List ℕ) (o : Option ℕ) (z : ℤ) → number_below 4611686018427387904 bs ≡ o → below_zero o ≡ Some z → IsSigned (45 ∷ bs) z
spelled_below bs None z e h = cc h
spelled_below bs (Some zero) z e h = cc h
spelled_below bs (Some (suc n)) (pos m) e h = cc h
spelled_below bs (Some (suc n)) (negsuc m) e h =
    let same : n ≡ m = cc h in
    let (lt, is) = below_spelled 4611686018427387904 bs (suc n) e in
    (rw (is, same) refl, omega (arith, lt))

spelled_above : (word : List ℕ) (o : Option ℕ) (z : ℤ) → number_below 4611686018427387904 word ≡ o → option_map pos o ≡ Some z → IsSigned word z
spelled_above word None z e h = cc h
spelled_above word (Some n) (negsuc m) e h = cc h
spelled_above word (Some n) (pos m) e h =
    let same : n ≡ m = cc h in
    let (lt, is) = below_spelled 4611686018427387904 word n e in
    (rw (is, same) refl, omega (arith, lt))

by_sign : (minus : Bool) (b : ℕ) (bs : List ℕ) (z : ℤ) → (b == 45) ≡ minus
    → cond minus (below_zero (number_below 4611686018427387904 bs)) (option_map pos (number_below 4611686018427387904 (b ∷ bs))) ≡ Some z → IsSigned (b ∷ bs) z
by_sign true b bs z e h =
    let same : b ≡ 45 = grind (arith, nat_tests) in
    subst (λ c. IsSigned (c ∷ bs) z) (sym same) (spelled_below bs (number_below 4611686018427387904 bs) z refl h)
by_sign false b bs z e h = spelled_above (b ∷ bs) (number_below 4611686018427387904 (b ∷ bs)) z refl h

-- a word with a signed number is its numeral
pub signed_spelled : (word : List ℕ) (z : ℤ) → signed_number word ≡ Some z → IsSigned word z
unfolding signed_number
signed_spelled [] z h = cc h
signed_spelled (b ∷ bs) z h = by_sign (b == 45) b bs z refl h

requirement_byte_ascii : (b : ℕ) → is_requirement_byte b ≡ true → b < 128
requirement_byte_ascii b h = grind (arith, nat_tests)

bytes_of_requirement : (name : List ℕ) → is_requirement name ≡ true → list_all is_requirement_byte name ≡ true
bytes_of_requirement name h = grind (arith, nat_tests)

pub requirement-utf8 : (name : List ℕ) → is_requirement name ≡ true → IsUtf8 name
requirement-utf8 name h =
    IsUtf8-from_ascii name (IsAscii-from_all name (λ k d lt. requirement_byte_ascii _ (AllPass-from_list_all is_requirement_byte name (bytes_of_requirement name h) k d lt)))
