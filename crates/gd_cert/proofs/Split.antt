-- A line of words is cut again into these words, and a text of lines into these lines.
use Rattle.std.proofs.Common.{◌≡◌, ℕ, ◌+◌, ◌≤◌, ◌<◌, ◌^◌, ◌==◌, Bool, true, false, List, [], ◌∷◌, ◌++◌, length, map, get_or, ℤ, pos, negsuc, arith, sym, refl, ap, ◌∙◌, decimal, suc}
use Rattle.std.specs.Prelude.{codes, nat_le, unsigned_abs, Ok}
use Rattle.std.specs.Fmt.{signed_decimal}
use Rattle.std.specs.List.{All, AllByRecursion, flat_map, list_all}
use Rattle.std.proofs.lemmas.Bool.Decides.{nat_tests}
use Rattle.std.proofs.lemmas.Fmt.{digits_decimal}
use Rattle.std.proofs.lemmas.List.{append_assoc}
use Rattle.std.proofs.lemmas.List.Elements.{All-append, All-cons, All-from_get_or, All-tail}
use Rattle.std.proofs.lemmas.List.Splits.{slice_split_at, slice_split_none}
use Rattle.std.proofs.lemmas.List.Sums.{AllPass-from_list_all, list_all-from_AllPass}
use Rattle.std.proofs.lemmas.Str.Parse.{not_in_digits}
use Rattle.gd_base.specs.Limits.{BUDGET, GROUPS}
use Rattle.gd_base.specs.declared.verdict.Counts.{Counts}
use Rattle.gd_base.specs.declared.verdict.Reason.{Reason}
use Rattle.gd_base.specs.declared.verdict.Reason.TheVariants as reason
use Rattle.gd_cells.specs.declared.node.Node.{Node}
use Rattle.gd_cells.specs.declared.node.Node.TheVariants.{Split, Refuted, Left}
use Rattle.gd_cert.proofs.Lines.{group_line, witness_words}
use Rattle.gd_cert.proofs.Numbers.{own}
use Rattle.gd_cert.proofs.Steps.{took}
use Rattle.gd_cert.specs.Bounds.{CountsFit, HeadingFits, NodeFits, WitnessFits, is_requirement_byte}
use Rattle.gd_cert.specs.Certificates.{Heading, Plain, Probe}
use Rattle.gd_cert.specs.Reading.{Draft, drafted_from, on_line, with_line}
use Rattle.gd_cert.specs.Text.{heading_words, line_text, node_words, reason_word, spaced, title, counts_words}
use Rattle.gd_cert.specs.Words.{pieces, words_of}

-- each byte is above a space, so the word has no separator
abbrev pub Clean : List ℕ → Type 0
Clean word = list_all (nat_le 33) word ≡ true

abbrev pub Lines : Type 0
Lines = List (List (List ℕ))

abbrev pub AreClean : List (List ℕ) → Type 0
AreClean words = AllByRecursion Clean words

abbrev pub IsLine : List (List ℕ) → Type 0
IsLine words = (0 < length words) × AreClean words

other_byte : (b c : ℕ) → c < 33 → nat_le 33 b ≡ true → (b == c) ≡ false
other_byte b c low h = grind (arith, nat_tests)

without : (word : List ℕ) (c : ℕ) → c < 33 → Clean word → All (λ b. (b == c) ≡ false) word
without word c low clean = λ k d lt. other_byte (get_or word k d) c low (AllPass-from_list_all (nat_le 33) word clean k d lt)

-- the words of a line of clean words
words_again : (words : List (List ℕ)) → 0 < length words → AreClean words → words_of (spaced words) ≡ words
words_again [] some clean = absurd (omega arith)
words_again (w ∷ []) some clean = slice_split_none (λ b. b == 32) w (without w 32 (omega arith) clean.0)
words_again (w ∷ v ∷ words) some clean =
    slice_split_at (λ b. b == 32) w 32 (spaced (v ∷ words)) (without w 32 (omega arith) clean.0) refl ∙ ap (λ (ws : List (List ℕ)). w ∷ ws) (words_again (v ∷ words) (omega arith) clean.1)

-- and no line end is among its bytes
one_line : (words : List (List ℕ)) → AreClean words → All (λ b. (b == 10) ≡ false) (spaced words)
one_line [] clean = λ k d lt. absurd (omega arith)
one_line (w ∷ []) clean = without w 10 (omega arith) clean.0
one_line (w ∷ v ∷ words) clean =
    All-append (λ b. (b == 10) ≡ false) w (32 ∷ spaced (v ∷ words)) (without w 10 (omega arith) clean.0)
    (All-cons (λ b. (b == 10) ≡ false) 32 (spaced (v ∷ words)) refl (one_line (v ∷ words) clean.1))

line_cut : (words : List (List ℕ)) (more : List ℕ) → AreClean words → pieces 10 (line_text words ++ more) ≡ spaced words ∷ pieces 10 more
line_cut words more clean =
    ap (pieces 10) (append_assoc (spaced words) (10 ∷ []) more) ∙ slice_split_at (λ b. b == 10) (spaced words) 10 more (one_line words clean) refl

-- a line that is taken leaves the lines behind it
pub line_step : (line : ℕ) (words : List (List ℕ)) (more : Lines) (d e : Draft) → IsLine words → with_line line words d ≡ Ok e
    → drafted_from line d (pieces 10 (flat_map line_text (words ∷ more))) ≡ drafted_from (line + 1) e (pieces 10 (flat_map line_text more))
line_step line words more d e is h =
    sym (took line d e (spaced words) (flat_map line_text more) (flat_map line_text (words ∷ more)) (line_cut words (flat_map line_text more) is.1)
    (ap (on_line line) (ap (λ (ws : List (List ℕ)). with_line line ws d) (words_again words is.0 is.1) ∙ h)))

-- ---- the words of a certificate are clean

at_least : (low b : ℕ) → (b < low → ⊥) → (test : Bool) → nat_le low b ≡ test → nat_le low b ≡ true
at_least low b h true e = e
at_least low b h false e = absurd (h (grind (arith, nat_tests)))

pub decimal_clean : (n : ℕ) → n < 2 ^ 63 → Clean (decimal n)
decimal_clean n small = list_all-from_AllPass (nat_le 33) (decimal n) (All-from_get_or (λ b. nat_le 33 b ≡ true) (decimal n) 0 (λ k lt.
    at_least 33 (get_or (decimal n) k 0) (λ low. not_in_digits own (decimal n) (get_or (decimal n) k 0) (digits_decimal own n (omega arith)) (λ r. absurd (omega (arith, r.0, low))) k lt refl) (nat_le 33 (get_or (decimal n) k 0)) refl))

pub signed_clean : (z : ℤ) → unsigned_abs z < 2 ^ 62 → Clean (signed_decimal z)
signed_clean (pos n) small = decimal_clean n (omega arith)
signed_clean (negsuc n) small = decimal_clean (suc n) (omega arith)

pub all_signed_clean : (xs : List ℤ) → All (λ x. unsigned_abs x < 2 ^ 62) xs → AreClean (map signed_decimal xs)
all_signed_clean [] h = tt
all_signed_clean (x ∷ xs) h = (signed_clean x (h 0 x (omega arith)), all_signed_clean xs (All-tail (λ x. unsigned_abs x < 2 ^ 62) x xs h))

requirement_byte_above : (b : ℕ) → is_requirement_byte b ≡ true → nat_le 33 b ≡ true
requirement_byte_above b h = grind (arith, nat_tests)

requirement_clean : (name : List ℕ) → list_all is_requirement_byte name ≡ true → Clean name
requirement_clean name h = list_all-from_AllPass (nat_le 33) name (λ k d lt. requirement_byte_above (get_or name k d) (AllPass-from_list_all is_requirement_byte name h k d lt))

pub title_line : IsLine title
title_line = (omega arith, (refl, (refl, tt)))

pub heading_line : (h : Heading) → HeadingFits h → IsLine (heading_words h)
heading_line Plain fits = (omega arith, (refl, tt))
heading_line (Probe name t) fits = (omega arith, (refl, (requirement_clean name fits.0.bytes, (decimal_clean t (omega (arith, fits.1)), tt))))

pub share_line : (n : ℕ) → n ≤ BUDGET → IsLine (codes "share" ∷ decimal n ∷ [])
share_line n few = (omega arith, (refl, (decimal_clean n (omega arith), tt)))

pub told_line : (n : ℕ) → n ≤ GROUPS → IsLine (codes "groups" ∷ decimal n ∷ [])
told_line n few = (omega arith, (refl, (decimal_clean n (omega arith), tt)))

pub end_line : IsLine (codes "end" ∷ [])
end_line = (omega arith, (refl, tt))

pub group_is_line : (n : ℕ) (word : List ℕ) → n < 2 ^ 32 → Clean word → IsLine (group_line n word)
group_is_line n word small clean = (omega arith, (refl, (decimal_clean n (omega arith), (clean, tt))))

pub witness_line : (root : ℕ) (at : List ℤ) → WitnessFits root at → IsLine (witness_words root at)
witness_line root at fits = (omega arith, (refl, (decimal_clean root (omega (arith, fits.root_fits)), all_signed_clean at fits.sizes)))

reason_clean : (r : Reason) → Clean (reason_word r)
reason_clean reason.Budget = refl
reason_clean reason.Floor = refl

pub counts_line : (c : Counts) → CountsFit c → IsLine (counts_words c)
counts_line c fits =
    (omega arith, (refl, (decimal_clean c.level (omega (arith, fits.level_fits)), (decimal_clean c.undecided (omega (arith, fits.undecided_fits)), (decimal_clean c.spent (omega (arith, fits.spent_fits)), (reason_clean c.reason, tt))))))

pub node_line : (node : Node) → NodeFits node → IsLine (node_words node)
node_line Split fits = (omega arith, (refl, tt))
node_line (Refuted e) fits =
    (omega arith, (refl, (decimal_clean e.condition (omega (arith, fits.condition)), (decimal_clean e.a (omega (arith, fits.a)), (decimal_clean e.b (omega (arith, fits.b)), tt)))))
node_line Left fits = (omega arith, (refl, tt))
