-- Bytes that are cut at their first separator.
use Rattle.std.proofs.Common.{◌≡◌, ℕ, ◌+◌, ◌-◌, ◌<◌, Bool, true, false, ◌==◌, List, [], ◌∷◌, Some, None, cond, get_or, ◌≤◌, length, take, drop, arith, refl}
use Rattle.std.specs.List.{position, position_or_len}
use Rattle.std.specs.Prelude.{nat_lt}
use Rattle.std.proofs.lemmas.Bool.Decides.{nat_tests}
use Rattle.std.proofs.lemmas.Option.{cond_some}
use Rattle.std.proofs.lemmas.List.{take_all, length-drop}
use Rattle.std.proofs.lemmas.List.Elements.{All-from_get_or}
use Rattle.std.proofs.lemmas.List.Splits.{slice_split_first, slice_split_none}
use Rattle.std.proofs.lemmas.List.Sums.{fails_before_first}
use Rattle.gd_cert.specs.Words.{pieces}

uncut : (separator : ℕ) (bytes : List ℕ) → ((k : ℕ) → k < length bytes → (get_or bytes k 0 == separator) ≡ false) → pieces separator bytes ≡ bytes ∷ []
uncut separator bytes none = slice_split_none (λ b. b == separator) bytes (All-from_get_or (λ b. (b == separator) ≡ false) bytes 0 none)

-- the bytes are cut at a place
abbrev pub CutAt : ℕ → List ℕ → ℕ → Type 0
CutAt separator bytes at =
    (pieces separator bytes ≡ take at bytes ∷ pieces separator (take (length bytes - (at + 1)) (drop (at + 1) bytes))) × (length (take (length bytes - (at + 1)) (drop (at + 1) bytes)) < length bytes)

cut_at : (separator : ℕ) (bytes : List ℕ) (at : ℕ) → at < length bytes → position_or_len (λ b. b == separator) bytes ≡ at → CutAt separator bytes at
cut_at separator bytes at low place =
    let p : ℕ → Bool = λ b. b == separator in
    let left : length (drop (at + 1) bytes) ≡ length bytes - (at + 1) = length-drop (at + 1) bytes in
    let all : take (length bytes - (at + 1)) (drop (at + 1) bytes) ≡ drop (at + 1) bytes = take_all _ _ (omega arith) in
    let split = slice_split_first p bytes 0 (omega (arith, low, place)) in
    (rw all (rw place at split), rw all (omega (arith, low)))

-- ---- at the first place that a loop found
found_at : (n length : ℕ) (at : ℕ) → cond (nat_lt n length) (Some n) None ≡ Some at → (n < length) × (n ≡ at)
found_at n length at h = let (passed, is) = cond_some (nat_lt n length) n at h in (grind (arith, nat_tests), is)

found_nowhere : (n length : ℕ) → cond (nat_lt n length) (Some n) None ≡ None → length ≤ n
found_nowhere n length h = elim (nat_lt n length) as (λ v. nat_lt n length ≡ v → cond v (Some n) None ≡ None → length ≤ n) [ true ↦ λ e f. cc | false ↦ λ e f. grind (arith, nat_tests) ] refl h

pub cut_none : (separator : ℕ) (bytes : List ℕ) → position (λ b. b == separator) bytes ≡ None → pieces separator bytes ≡ bytes ∷ []
cut_none separator bytes none =
    let far : length bytes ≤ position_or_len (λ b. b == separator) bytes = found_nowhere _ _ none in
    uncut separator bytes (λ k lt. fails_before_first (λ b. b == separator) bytes k 0 (omega (arith, far, lt)))

pub cut_some : (separator : ℕ) (bytes : List ℕ) (at : ℕ) → position (λ b. b == separator) bytes ≡ Some at → CutAt separator bytes at
cut_some separator bytes at found =
    let (low, place) = found_at (position_or_len (λ b. b == separator) bytes) (length bytes) at found in
    cut_at separator bytes at (omega (arith, low, place)) place
