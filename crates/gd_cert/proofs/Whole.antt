-- What is read of a whole file is spelled so, each byte of it.
use Rattle.std.proofs.Common.{◌≡◌, ℕ, ◌+◌, List, [], ◌∷◌, ◌++◌, arith, sym, refl, ap, subst, ◌∙◌, decimal}
use Rattle.std.specs.Prelude.{Result, Ok, Err, codes}
use Rattle.std.specs.List.{flat_map, join_with_byte}
use Rattle.std.proofs.lemmas.List.{append_assoc, append-nil}
use Rattle.std.proofs.lemmas.List.Concat.{flat_map-append}
use Rattle.std.proofs.lemmas.List.Elements.{All-nil}
use Rattle.std.proofs.lemmas.List.Splits.{join_with_byte-slice_split}
use Rattle.gd_cert.proofs.Found.{IsDraft, Stepped, counts_step, group_step, last_place, open_step, reject_step, told_lines, witness_step}
use Rattle.gd_cert.proofs.Lines.{bind_ok, counts_found, heading_found, ok_same, passed, share_found, title_found, told_found, witness_found}
use Rattle.gd_cert.specs.Bounds.{BodyFits, IsInBounds}
use Rattle.gd_cert.specs.Certificates.{Certificate}
use Rattle.gd_cert.specs.Lines.{counts_in, heading_in, share_in, title_in, told_in, witness_in}
use Rattle.gd_cert.specs.Reading.{Draft, at_stage, bodies_of, certificate_in, drafted, drafted_from, empty_draft, last_fault, lines_of, on_line, reading, unless, with_body, with_line, with_line_at}
use Rattle.gd_cert.specs.Text.{first_lines, groups_lines, heading_words, line_text, lines, spaced, text, title}
use Rattle.gd_cert.specs.Words.{and_then_read, pieces, words_of}
use Rattle.gd_cert.specs.declared.fault.CertFault.{CertFault}
use Rattle.gd_cert.specs.declared.rule.Rule.{Rule}
use Rattle.gd_cert.specs.declared.stage.Stage.{Stage}
use Rattle.gd_cert.specs.declared.stage.Stage.TheVariants as stage

-- ---- the head

title_step : (line : ℕ) (words : List (List ℕ)) (d : Draft) → IsDraft stage.Title line d → words ≡ title → Stepped line [] words (at_stage stage.Heading d)
title_step line words d is h =
    let after : told_lines stage.Heading (at_stage stage.Heading d) ≡ words ∷ [] = λ i. sym h i ∷ [] in
    (after, record { bounds = is.bounds; starts = is.starts; place = last_place line [] _ words after is.place; current = is.current })

heading_step : (line : ℕ) (words : List (List ℕ)) (d e : Draft) → IsDraft stage.Heading line d → with_line_at stage.Heading line words d ≡ Ok e → Stepped line (told_lines stage.Heading d) words e
heading_step line words d e is h =
    let (heading, found, made) = bind_ok (heading_in words) _ e h in
    let (spelling, fits) = heading_found words heading found in
    let b = is.bounds in
    let u : Draft = record { heading = heading; share = d.share; told = d.told; groups = d.groups; stage = stage.Share; begun = d.begun; tree = d.tree } in
    let after : told_lines stage.Share u ≡ told_lines stage.Heading d ++ words ∷ [] = λ i. title ∷ sym spelling i ∷ [] in
    subst (Stepped line (told_lines stage.Heading d) words) (ok_same u e made) (
      after,
      record {
        bounds = record { heading = fits; share = b.share; some_told = b.some_told; few_told = b.few_told; count = b.count; groups = b.groups };
        starts = is.starts;
        place = last_place line (told_lines stage.Heading d) _ words after is.place;
        current = is.current;
      },
    )

share_step : (line : ℕ) (words : List (List ℕ)) (d e : Draft) → IsDraft stage.Share line d → with_line_at stage.Share line words d ≡ Ok e → Stepped line (told_lines stage.Share d) words e
share_step line words d e is h =
    let (n, found, made) = bind_ok (share_in words) _ e h in
    let (spelling, few) = share_found words n found in
    let b = is.bounds in
    let u : Draft = record { heading = d.heading; share = n; told = d.told; groups = d.groups; stage = stage.Told; begun = d.begun; tree = d.tree } in
    let after : told_lines stage.Told u ≡ told_lines stage.Share d ++ words ∷ [] = λ i. title ∷ heading_words d.heading ∷ sym spelling i ∷ [] in
    subst (Stepped line (told_lines stage.Share d) words) (ok_same u e made) (
      after,
      record {
        bounds = record { heading = b.heading; share = few; some_told = b.some_told; few_told = b.few_told; count = b.count; groups = b.groups };
        starts = is.starts;
        place = last_place line (told_lines stage.Share d) _ words after is.place;
        current = is.current;
      },
    )

told_step : (line : ℕ) (words : List (List ℕ)) (d e : Draft) → IsDraft stage.Told line d → with_line_at stage.Told line words d ≡ Ok e → Stepped line (told_lines stage.Told d) words e
told_step line words d e is h =
    let (n, found, made) = bind_ok (told_in words) _ e h in
    let (spelling, some, few) = told_found words n found in
    let b = is.bounds in
    let u : Draft = record { heading = d.heading; share = d.share; told = n; groups = d.groups; stage = stage.Group; begun = d.begun; tree = d.tree } in
    let after : told_lines stage.Group u ≡ told_lines stage.Told d ++ words ∷ [] =
    λ i. title ∷ heading_words d.heading ∷ (codes "share" ∷ decimal d.share ∷ []) ∷ sym spelling i ∷ groups_lines 1 (bodies_of (is.current.1 i)) in
    subst (Stepped line (told_lines stage.Told d) words) (ok_same u e made) (
      after,
      record {
        bounds = record { heading = b.heading; share = b.share; some_told = some; few_told = few; count = b.count; groups = b.groups };
        starts = is.starts;
        place = last_place line (told_lines stage.Told d) _ words after is.place;
        current = is.current.0;
      },
    )

-- ---- each line

step_at : (s : Stage) (line : ℕ) (words : List (List ℕ)) (d e : Draft) → d.stage ≡ s → IsDraft s line d → with_line_at s line words d ≡ Ok e → Stepped line (told_lines s d) words e
step_at stage.Title line words d e at is h =
    let (x, y) = passed (title_in words) _ _ e h in
    subst (Stepped line [] words) (ok_same (at_stage stage.Heading d) e y) (title_step line words d is (title_found words x))
step_at stage.Heading line words d e at is h = heading_step line words d e is h
step_at stage.Share line words d e at is h = share_step line words d e is h
step_at stage.Told line words d e at is h = told_step line words d e is h
step_at stage.Group line words d e at is h = group_step line words d e is h
step_at stage.Witness line words d e at is h =
    let (body, found, made) = bind_ok (witness_in words) _ e h in
    subst (Stepped line (told_lines stage.Witness d) words) (ok_same (with_body body d) e made) (witness_step line words d body is (witness_found words body found))
step_at stage.Counts line words d e at is h =
    let (s, found, made) = bind_ok (counts_in words) _ e h in
    subst (Stepped line (told_lines stage.Counts d) words) (ok_same (at_stage s d) e made) (counts_step line words d s is (counts_found words s found))
step_at stage.Reject line words d e at is h = reject_step line words d e at is h
step_at (stage.Open o) line words d e at is h = open_step line o words d e at is h
step_at stage.Done line words d e at is h = cc h

step : (line : ℕ) (words : List (List ℕ)) (d e : Draft) → IsDraft d.stage line d → with_line line words d ≡ Ok e → Stepped line (told_lines d.stage d) words e
unfolding with_line
step line words d e is h = step_at d.stage line words d e refl is h

-- ---- a whole file

spaced_join : (ws : List (List ℕ)) → spaced ws ≡ join_with_byte 32 ws
spaced_join [] = refl
spaced_join (w ∷ []) = refl
spaced_join (w ∷ v ∷ ws) = ap (λ (bs : List ℕ). w ++ 32 ∷ bs) (spaced_join (v ∷ ws))

-- the words of a line give it back
line_again : (piece : List ℕ) → line_text (words_of piece) ≡ piece ++ 10 ∷ []
line_again piece = ap (λ (bs : List ℕ). bs ++ 10 ∷ []) (spaced_join (words_of piece) ∙ join_with_byte-slice_split 32 piece)

on_ok : {A : Type 0} (line : ℕ) (r : Result A Rule) (x : A) → on_line line r ≡ Ok x → r ≡ Ok x
on_ok line (Ok y) x h = ap Ok (ok_same y x h)
on_ok line (Err broken) x h = cc h

ended : (s : Stage) (piece : List ℕ) (d e : Draft) → unless (last_fault s piece) d ≡ Ok e → (s ≡ stage.Done) × (piece ≡ []) × (d ≡ e)
ended stage.Done [] d e h = (refl, refl, ok_same d e h)
ended stage.Done (b ∷ bs) d e h = cc h
ended stage.Title piece d e h = cc h
ended stage.Heading piece d e h = cc h
ended stage.Share piece d e h = cc h
ended stage.Told piece d e h = cc h
ended stage.Group piece d e h = cc h
ended stage.Witness piece d e h = cc h
ended stage.Counts piece d e h = cc h
ended stage.Reject piece d e h = cc h
ended (stage.Open o) piece d e h = cc h

-- what was read
pub record Spelled (before : List ℕ) (pieces_left : List (List ℕ)) (d : Draft) : Type 0 where
  pub bounds : IsInBounds (certificate_in d)
  pub starts : lines_of d.groups ≡ first_lines 5 (bodies_of d.groups)
  pub spelling : before ++ join_with_byte 10 pieces_left ≡ flat_map line_text (lines (certificate_in d))

abbrev told_text : Draft → List ℕ
told_text d = flat_map line_text (told_lines d.stage d)

join_step : (before piece : List ℕ) (words_text rest : List ℕ) → words_text ≡ piece ++ 10 ∷ [] → (before ++ (words_text ++ [])) ++ rest ≡ before ++ (piece ++ 10 ∷ rest)
join_step before piece words_text rest is =
    ap (λ (w : List ℕ). (before ++ w) ++ rest) (append-nil words_text ∙ is) ∙ append_assoc before (piece ++ 10 ∷ []) rest ∙ ap (λ (w : List ℕ). before ++ w) (append_assoc piece (10 ∷ []) rest)

last_spelled : (line : ℕ) (d e : Draft) (piece : List ℕ) → IsDraft d.stage line d → (d.stage ≡ stage.Done) × (piece ≡ []) × (d ≡ e) → Spelled (told_text d) (piece ∷ []) e
last_spelled line d e piece is (at, none, same) =
    subst (Spelled (flat_map line_text (told_lines d.stage d)) (piece ∷ [])) same (record {
      bounds = is.bounds;
      starts = is.starts;
      spelling = (λ i. flat_map line_text (told_lines (at i) d) ++ none i) ∙ append-nil (flat_map line_text (told_lines stage.Done d));
    })

pieces_spelled : (line : ℕ) (d e : Draft) (left : List (List ℕ)) → IsDraft d.stage line d → drafted_from line d left ≡ Ok e → Spelled (told_text d) left e
pieces_spelled line d e [] is h = cc h
pieces_spelled line d e (piece ∷ []) is h = last_spelled line d e piece is (ended d.stage piece d e (on_ok line _ e h))
pieces_spelled line d e (piece ∷ next ∷ rest) is h =
    let (u, taken, more) = bind_ok _ _ e h in
    let (after, draft) = step line (words_of piece) d u is (on_ok line _ u taken) in
    let later = pieces_spelled (line + 1) u e (next ∷ rest) draft more in
    record {
      bounds = later.bounds;
      starts = later.starts;
      spelling =
          sym (
          ap (λ (ls : List (List (List ℕ))). flat_map line_text ls ++ join_with_byte 10 (next ∷ rest)) after
          ∙ ap (λ (bs : List ℕ). bs ++ join_with_byte 10 (next ∷ rest)) (flat_map-append line_text (told_lines d.stage d) (words_of piece ∷ []))
          ∙ join_step (flat_map line_text (told_lines d.stage d)) piece (line_text (words_of piece)) (join_with_byte 10 (next ∷ rest)) (line_again piece)
          ) ∙ later.spelling;
    }

fresh : IsDraft stage.Title 1 empty_draft
fresh = record {
  bounds = record { heading = tt; share = omega arith; some_told = omega arith; few_told = omega arith; count = omega arith; groups = All-nil BodyFits };
  starts = refl;
  place = refl;
  current = (refl, refl);
}

-- what is read of bytes is spelled by all of them
pub drafted_found : (bytes : List ℕ) (d : Draft) → drafted bytes ≡ Ok d → IsInBounds (certificate_in d) × (bytes ≡ text (certificate_in d)) × (lines_of d.groups ≡ first_lines 5 (bodies_of d.groups))
unfolding drafted text
drafted_found bytes d h =
    let all = pieces_spelled 1 empty_draft d (pieces 10 bytes) fresh h in
    (all.bounds, sym (join_with_byte-slice_split 10 bytes) ∙ all.spelling, all.starts)

taken : (bytes : List ℕ) (r : Result Draft CertFault) → drafted bytes ≡ r → (c : Certificate) → and_then_read r (λ d. Ok (certificate_in d)) ≡ Ok c → IsInBounds c × (bytes ≡ text c)
taken bytes (Ok d) is c h =
    let same : certificate_in d ≡ c = cc in
    let found = drafted_found bytes d is in subst (λ e. IsInBounds e × (bytes ≡ text e)) same (found.0, found.1)
taken bytes (Err f) is c h = cc

-- what reading gives is in bounds, and all bytes spell it
pub reading_takes : (bytes : List ℕ) (c : Certificate) → reading bytes ≡ Ok c → IsInBounds c × (bytes ≡ text c)
unfolding reading
reading_takes bytes c h = taken bytes (drafted bytes) refl c h
