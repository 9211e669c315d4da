-- Five and six words, as a pattern of a slice takes them apart.
use Rattle.std.proofs.Common.{arith, ◌≡◌, List, [], ◌∷◌, length, get_or}

pub five_words : {X : Type 0} (xs : List X) (a b c d e : X) → length xs ≡ 5 → a ≡ get_or xs 0 a → b ≡ get_or xs 1 b → c ≡ get_or xs 2 c → d ≡ get_or xs 3 d → e ≡ get_or xs 4 e → xs ≡ a ∷ b ∷ c ∷ d ∷ e ∷ []
five_words [] a b c d e l p q r s t = absurd (omega arith)
five_words (v ∷ []) a b c d e l p q r s t = absurd (omega arith)
five_words (v ∷ w ∷ []) a b c d e l p q r s t = absurd (omega arith)
five_words (v ∷ w ∷ x ∷ []) a b c d e l p q r s t = absurd (omega arith)
five_words (v ∷ w ∷ x ∷ y ∷ []) a b c d e l p q r s t = absurd (omega arith)
five_words (v ∷ w ∷ x ∷ y ∷ z ∷ []) a b c d e l p q r s t = cc
five_words (v ∷ w ∷ x ∷ y ∷ z ∷ u ∷ us) a b c d e l p q r s t = absurd (omega arith)

pub six_words : {X : Type 0} (xs : List X) (a b c d e f : X) → length xs ≡ 6 → a ≡ get_or xs 0 a → b ≡ get_or xs 1 b → c ≡ get_or xs 2 c → d ≡ get_or xs 3 d → e ≡ get_or xs 4 e → f ≡ get_or xs 5 f → xs ≡ a ∷ b ∷ c ∷ d ∷ e ∷ f ∷ []
six_words [] a b c d e f l p q r s t h = absurd (omega arith)
six_words (u ∷ []) a b c d e f l p q r s t h = absurd (omega arith)
six_words (u ∷ v ∷ []) a b c d e f l p q r s t h = absurd (omega arith)
six_words (u ∷ v ∷ w ∷ []) a b c d e f l p q r s t h = absurd (omega arith)
six_words (u ∷ v ∷ w ∷ x ∷ []) a b c d e f l p q r s t h = absurd (omega arith)
six_words (u ∷ v ∷ w ∷ x ∷ y ∷ []) a b c d e f l p q r s t h = absurd (omega arith)
six_words (u ∷ v ∷ w ∷ x ∷ y ∷ z ∷ []) a b c d e f l p q r s t h = cc
six_words (u ∷ v ∷ w ∷ x ∷ y ∷ z ∷ o ∷ more) a b c d e f l p q r s t h = absurd (omega arith)
