-- How a text is put together.
use Rattle.std.proofs.Common.{ℕ, ℤ, ◌≡◌, ◌∙◌, sym, ap, append-nil, append_assoc, List, [], ◌∷◌, ◌++◌, map, codes, decimal}
use Rattle.std.specs.Fmt.{signed_decimal}
use Rattle.std.specs.List.{flat_map}
use Rattle.std.proofs.lemmas.List.Concat.{flat_map-append}
use Rattle.gd_cert.specs.Certificates.{Certificate}
use Rattle.gd_cert.specs.Text.{groups_lines, heading_words, line_text, spaced, text}

-- numbers behind a word
pub spaced_numbers : (word : List ℕ) (numbers : List ℤ) → spaced (word ∷ map signed_decimal numbers) ≡ word ++ flat_map (λ z. 32 ∷ signed_decimal z) numbers
spaced_numbers word [] = sym (append-nil word)
spaced_numbers word (z ∷ numbers) = ap (λ v. word ++ 32 ∷ v) (spaced_numbers (signed_decimal z) numbers)

-- the line of a witness
pub witness_text : (before root : List ℕ) (numbers : List ℤ) → (((before ++ 119 ∷ []) ++ 32 ∷ root) ++ flat_map (λ z. 32 ∷ signed_decimal z) numbers) ++ 10 ∷ []
    ≡ before ++ line_text (codes "w" ∷ root ∷ map signed_decimal numbers)
witness_text before root numbers = rw (spaced_numbers root numbers) (simp append_assoc)

-- six pieces of a text
six_pieces : (a b c d e f : List ℕ) → ((((a ++ b) ++ c) ++ d) ++ e) ++ f ≡ a ++ (b ++ (c ++ (d ++ (e ++ f))))
six_pieces a b c d e f = simp append_assoc

-- the whole text
pub whole_text : (c : Certificate) → (((((codes "gdcert 1\n") ++ line_text (heading_words c.heading)) ++ line_text (codes "share" ∷ decimal c.share ∷ [])) ++ line_text (codes "groups" ∷ decimal c.told ∷ []))
    ++ flat_map line_text (groups_lines 1 c.groups)) ++ codes "end\n" ≡ text c
unfolding text
whole_text c =
    let heading = line_text (heading_words c.heading) in
    let share = line_text (codes "share" ∷ decimal c.share ∷ []) in
    let told = line_text (codes "groups" ∷ decimal c.told ∷ []) in
    six_pieces (codes "gdcert 1\n") heading share told (flat_map line_text (groups_lines 1 c.groups)) (codes "end\n")
    ∙ ap (λ v. codes "gdcert 1\n" ++ (heading ++ (share ++ (told ++ v)))) (sym (flat_map-append line_text (groups_lines 1 c.groups) ((codes "end" ∷ []) ∷ [])))
