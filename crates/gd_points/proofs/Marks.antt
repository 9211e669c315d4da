-- A byte order mark at the start of a text.
use Rattle.std.proofs.Common.{◌≡◌, ◌≢◌, ℕ, List, [], ◌∷◌, Bool, true, false, refl, arith, cond}
use Rattle.std.proofs.lemmas.Bool.Decides.{nat_tests}
use Rattle.csv.specs.Reading.{is_bom, strip_bom}

pub mark-goes : (bytes rest : List ℕ) → bytes ≡ 239 ∷ 187 ∷ 191 ∷ rest → rest ≡ strip_bom bytes
unfolding strip_bom
mark-goes bytes rest is = rw is refl

is_mark : (a b c : ℕ) → is_bom a b c ≡ true → (a ≡ 239) × (b ≡ 187) × (c ≡ 191)
is_mark a b c is = (grind (arith, nat_tests), grind (arith, nat_tests), grind (arith, nat_tests))

unmarked : (a b c : ℕ) (rest : List ℕ) (marked : Bool) → is_bom a b c ≡ marked → ((more : List ℕ) → a ∷ b ∷ c ∷ rest ≢ 239 ∷ 187 ∷ 191 ∷ more)
    → a ∷ b ∷ c ∷ rest ≡ cond marked rest (a ∷ b ∷ c ∷ rest)
unmarked a b c rest true is other = let (x, y, z) = is_mark a b c is in absurd (other rest (rw (x, y, z) refl))
unmarked a b c rest false is other = refl

pub mark-stays : (bytes : List ℕ) → ((rest : List ℕ) → bytes ≢ 239 ∷ 187 ∷ 191 ∷ rest) → bytes ≡ strip_bom bytes
unfolding strip_bom
mark-stays [] other = refl
mark-stays (a ∷ []) other = refl
mark-stays (a ∷ b ∷ []) other = refl
mark-stays (a ∷ b ∷ c ∷ rest) other = unmarked a b c rest (is_bom a b c) refl other
