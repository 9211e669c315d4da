-- The number that digits write is the one of which they are the numeral, where no zero stands in front.
use Rattle.std.proofs.Common.{arith, ◌≡◌, ◌≢◌, ◌∙◌, refl, sym, ap, subst, ℕ, zero, suc, ◌+◌, ◌*◌, ◌-◌, ◌<◌, ◌≤◌, ◌^◌, true, false, List, [], ◌∷◌, Some, None, length, get_or, decimal, cond}
use Rattle.std.proofs.Math.Nat.{pow-le-pow_right, pow-suc}
use Rattle.std.proofs.lemmas.Bool.Decides.{nat_tests}
use Rattle.std.proofs.lemmas.Fmt.{decimal_digit, decimal_nonempty, decimal-digits_value, digits_decimal, digits_value-decimal, first_decimal, length-decimal-le}
use Rattle.std.proofs.lemmas.Str.{digit_value_digit}
use Rattle.std.proofs.lemmas.Str.Parse.{IsNumeralModel, digit_from_value, numerals_by_value, tells_digits}
use Rattle.std.specs.Char.{digit_value}
use Rattle.std.specs.Int.{IsInRange}
use Rattle.std.specs.Str.Parse.{AllDigits, digits_value, digits_value_after}
use Rattle.gd_base.specs.Numerals.{IsNumberIn, Spells, begins_plain, digits_from, is_digit}

own : IsNumeralModel (AllDigits 10) (digits_value 10)
own = numerals_by_value (AllDigits 10) tells_digits

-- a number of at most 18 digits is below 10^18
pub room : (i n : ℕ) → i ≤ 18 → n < 10 ^ i → n < 10 ^ 18
room i n few h = let most : 10 ^ i ≤ 10 ^ 18 = pow-le-pow_right (omega arith) few in omega (arith, most, h)

-- one digit more
pub one_more : (i n b : ℕ) → n < 10 ^ i → b ≤ 57 → 10 * n + (b - 48) < 10 ^ (i + 1)
one_more i n b h digit = let e : 10 ^ (i + 1) ≡ 10 ^ suc i = ap (λ k. 10 ^ k) (omega arith) in rw e (omega (arith, pow-suc 10 i, h))

pub digit_range : (b : ℕ) → is_digit b ≡ true → IsInRange 48 57 b
digit_range b h = grind (arith, nat_tests)

in_range_digit : (b : ℕ) → IsInRange 48 57 b → is_digit b ≡ true
in_range_digit b h = grind (arith, nat_tests)

-- what is read is the value of the digits
digits_read : (bs : List ℕ) (n v : ℕ) → digits_from n bs ≡ Some v → AllDigits 10 bs × (digits_value_after 10 n bs ≡ v)
digits_read [] n v h = (tt, cc)
digits_read (b ∷ bs) n v h =
    elim (is_digit b) as (λ x. is_digit b ≡ x → cond x (digits_from (10 * n + (b - 48)) bs) None ≡ Some v → AllDigits 10 (b ∷ bs) × (digits_value_after 10 n (b ∷ bs) ≡ v)) [
      | true ↦ λ is f.
          let d : digit_value b + 48 ≡ b = digit_value_digit b (digit_range b is) in
          let more = digits_read bs (10 * n + (b - 48)) v f in
          let range = digit_range b is in
          let same : n * 10 + digit_value b ≡ 10 * n + (b - 48) = omega (arith, d) in
          ((omega (arith, d, range), more.0), ap (λ m. digits_value_after 10 m bs) same ∙ more.1)
      | false ↦ λ is f. cc
    ] refl h

digits_unread : (bs : List ℕ) (n : ℕ) → digits_from n bs ≡ None → AllDigits 10 bs → ⊥
digits_unread [] n h all = cc
digits_unread (b ∷ bs) n h all =
    let is : is_digit b ≡ true = in_range_digit b (digit_from_value b all.0) in
    digits_unread bs (10 * n + (b - 48)) (rw is at h) all.1

plain_some : (word : List ℕ) → begins_plain word ≡ true → 0 < length word
plain_some [] h = cc
plain_some (b ∷ bs) h = omega arith

plain_lone : (word : List ℕ) → begins_plain word ≡ true → get_or word 0 0 ≡ 48 → length word ≡ 1
plain_lone [] h e = cc
plain_lone (b ∷ []) h e = refl
plain_lone (b ∷ c ∷ bs) h e = grind (arith, nat_tests)

-- what is read is spelled
pub read_is_spelled : (word : List ℕ) (n : ℕ) → begins_plain word ≡ true → digits_from 0 word ≡ Some n → n < 2 ^ 64 → Spells word n
read_is_spelled word n plain read small =
    let all = digits_read word 0 n read in
    let less : digits_value 10 word < 2 ^ 64 = omega (arith, all.1, small) in
    sym (ap decimal (sym all.1) ∙ decimal-digits_value own word all.0 (plain_some word plain) (plain_lone word plain) less)

-- what is spelled is the number that is read
pub spelled_is_read : (word : List ℕ) (n m : ℕ) → n < 2 ^ 64 → Spells word n → digits_from 0 word ≡ Some m → n ≡ m
spelled_is_read word n m small is read =
    let value : digits_value 10 word ≡ n = ap (digits_value 10) is ∙ digits_value-decimal own n small in
    sym value ∙ (digits_read word 0 m read).1

-- what isn't read isn't spelled
pub unread_is_no_number : (word : List ℕ) (n : ℕ) → n < 2 ^ 64 → digits_from 0 word ≡ None → Spells word n → ⊥
unread_is_no_number word n small unread is = digits_unread word 0 unread (subst (AllDigits 10) (sym is) (digits_decimal own n small))

begins_plainly : (bs : List ℕ) → 0 < length bs → 48 < get_or bs 0 0 → begins_plain bs ≡ true
begins_plainly [] l h = absurd (omega arith)
begins_plainly (b ∷ []) l h = refl
begins_plainly (b ∷ c ∷ bs) l h = grind (arith, nat_tests)

-- a numeral begins plainly
decimal_is_plain : (n : ℕ) → n < 2 ^ 64 → begins_plain (decimal n) ≡ true
decimal_is_plain zero h = rw (decimal_digit 0 (omega arith)) refl
decimal_is_plain (suc n) h = begins_plainly (decimal (suc n)) (decimal_nonempty (suc n) h) (first_decimal (suc n) (omega arith) h)

-- a word that doesn't begin plainly, or is too long, is no numeral
pub not_plain_is_no_number : (word : List ℕ) (n : ℕ) → n < 2 ^ 64 → begins_plain word ≡ false → Spells word n → ⊥
not_plain_is_no_number word n small plain is = let yes = ap begins_plain is ∙ decimal_is_plain n small in cc

pub long_is_no_number : (word : List ℕ) (n : ℕ) → n < 10 ^ 19 → 19 < length word → Spells word n → ⊥
long_is_no_number word n small long is =
    let few = length-decimal-le 19 n (omega arith) small (omega arith) in
    let same : length word ≡ length (decimal n) = ap length is in
    absurd (omega arith)
