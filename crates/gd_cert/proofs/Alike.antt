-- A line of more than 14 words has too many, whatever follows the 14th.
use Rattle.std.proofs.Common.{◌≡◌, ℕ, ◌≤◌, ◌<◌, true, false, List, [], ◌∷◌, ◌++◌, length, arith, sym, refl, ap, subst, ◌∙◌, ◌==◌, ◌⊎◌, inl, inr, cond}
use Rattle.std.specs.Prelude.{Result, Ok, Err, codes, nat_le}
use Rattle.std.proofs.lemmas.Bool.Decides.{nat_tests}
use Rattle.std.specs.Borrow.{Bor}
use Rattle.std.proofs.lemmas.List.{length-append, length-map, map-append}
use Rattle.std.proofs.lemmas.List.Splits.{length-slice_split}
use Rattle.gd_cells.specs.Grid.{MOST_DIMS}
use Rattle.gd_cert.specs.Certificates.{Body}
use Rattle.gd_cert.specs.Drafts.{TellsAlike, texts}
use Rattle.gd_cert.specs.Lines.{place_in, witness_in}
use Rattle.gd_cert.specs.Reading.{Draft, with_body, with_line, with_line_at}
use Rattle.gd_cert.specs.Words.{and_then_read, is_word, words_of}
use Rattle.gd_cert.specs.declared.rule.Rule.{Rule}
use Rattle.gd_cert.specs.declared.rule.Rule.TheVariants as rule
use Rattle.gd_cert.specs.declared.stage.Stage.{Stage}
use Rattle.gd_cert.specs.declared.stage.Stage.TheVariants as stage

-- a witness of more than MOST_DIMS numbers
too_many : (root : List ℕ) (at : List (List ℕ)) → MOST_DIMS < length at → place_in (root ∷ at) ≡ Err rule.Words
too_many root at many =
    let low : nat_le 2 (length at) ≡ true = grind (arith, nat_tests) in
    let high : nat_le (length at) MOST_DIMS ≡ false = grind (arith, nat_tests) in
    rw (low, high) refl

same_place : (a root : List ℕ) (xs ys : List (List ℕ)) → MOST_DIMS < length xs → MOST_DIMS < length ys → witness_in (a ∷ root ∷ xs) ≡ witness_in (a ∷ root ∷ ys)
same_place a root xs ys many other = ap (λ (r : Result Body Rule). cond (is_word a (codes "w")) r (Err rule.Expected)) (too_many root xs many ∙ sym (too_many root ys other))

alike_at : (s : Stage) (line : ℕ) (d : Draft) (a b c e f : List ℕ) (xs ys : List (List ℕ)) → MOST_DIMS < length (c ∷ e ∷ f ∷ xs) → MOST_DIMS < length (c ∷ e ∷ f ∷ ys) → 0 < length xs → 0 < length ys
    → with_line_at s line (a ∷ b ∷ c ∷ e ∷ f ∷ xs) d ≡ with_line_at s line (a ∷ b ∷ c ∷ e ∷ f ∷ ys) d
alike_at s line d a b c e f [] ys many other some others = absurd (omega arith)
alike_at s line d a b c e f (x ∷ xs) [] many other some others = absurd (omega arith)
alike_at stage.Title line d a b c e f (x ∷ xs) (y ∷ ys) many other some others = refl
alike_at stage.Heading line d a b c e f (x ∷ xs) (y ∷ ys) many other some others = refl
alike_at stage.Share line d a b c e f (x ∷ xs) (y ∷ ys) many other some others = refl
alike_at stage.Told line d a b c e f (x ∷ xs) (y ∷ ys) many other some others = refl
alike_at stage.Group line d a b c e f (x ∷ xs) (y ∷ ys) many other some others = refl
alike_at stage.Witness line d a b c e f (x ∷ xs) (y ∷ ys) many other some others =
    ap (λ r. and_then_read r (λ body. Ok (with_body body d))) (same_place a b (c ∷ e ∷ f ∷ x ∷ xs) (c ∷ e ∷ f ∷ y ∷ ys) many other)
alike_at stage.Counts line d a b c e f (x ∷ xs) (y ∷ ys) many other some others = refl
alike_at stage.Reject line d a b c e f (x ∷ xs) (y ∷ ys) many other some others = refl
alike_at (stage.Open o) line d a b c e f (x ∷ xs) (y ∷ ys) many other some others = refl
alike_at stage.Done line d a b c e f (x ∷ xs) (y ∷ ys) many other some others = refl

-- what stands behind 14 words makes no difference
pub alike : (front xs ys : List (List ℕ)) → 14 ≤ length front → 0 < length xs → 0 < length ys → TellsAlike (front ++ xs) (front ++ ys)
unfolding with_line
alike [] xs ys many some others = absurd (omega arith)
alike (a ∷ []) xs ys many some others = absurd (omega arith)
alike (a ∷ b ∷ []) xs ys many some others = absurd (omega arith)
alike (a ∷ b ∷ c ∷ []) xs ys many some others = absurd (omega arith)
alike (a ∷ b ∷ c ∷ e ∷ []) xs ys many some others = absurd (omega arith)
alike (a ∷ b ∷ c ∷ e ∷ f ∷ front) xs ys many some others = λ line d.
    let more = length-append front xs in
    let most = length-append front ys in
    alike_at d.stage line d a b c e f (front ++ xs) (front ++ ys) (omega arith) (omega arith) (omega arith) (omega arith)

abbrev Slice : Type 0
Slice = Bor (List ℕ)

-- the words that were cut off, and what is left as one more
pub words_end : (words : List Slice) (rest : Slice) (line : List ℕ) → texts words ++ words_of rest.now ≡ words_of line → (14 ≤ length words) ⊎ (words_of rest.now ≡ rest.now ∷ [])
    → TellsAlike (texts (words ++ rest ∷ [])) (words_of line)
words_end words rest line is (inl many) =
    let count = length-map words (λ (word : Slice). word.now) in
    let some = length-slice_split (λ b. b == 32) rest.now in
    subst (TellsAlike (texts (words ++ rest ∷ []))) is (
    subst (λ (ws : List (List ℕ)). TellsAlike ws (texts words ++ words_of rest.now)) (sym (map-append (λ (word : Slice). word.now) words (rest ∷ [])))
    (alike (texts words) (rest.now ∷ []) (words_of rest.now) (omega arith) (omega arith) (omega arith))
    )
words_end words rest line is (inr last) =
    let same : texts (words ++ rest ∷ []) ≡ words_of line =
    map-append (λ (word : Slice). word.now) words (rest ∷ []) ∙ ap (λ (ws : List (List ℕ)). texts words ++ ws) (sym last) ∙ is in
    λ number d. ap (λ (ws : List (List ℕ)). with_line number ws d) same
