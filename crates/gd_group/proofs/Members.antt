-- What is so of each group of a file that was read, and how many groups there are.
use Rattle.std.proofs.Common.{◌≡◌, ◌∙◌, ap, refl, sym, subst, ℕ, suc, ◌+◌, ◌*◌, ◌≤◌, ◌<◌, ◌^◌, Bool, true, false, cond, List, [], ◌∷◌, ◌++◌, length, filter, map, get_or, Option, Some, None, inl, inr, arith}
use Rattle.std.specs.Prelude.{slice_get}
use Rattle.std.specs.List.{All, range_with_len}
use Rattle.std.specs.Option.{IfSome, option_and_then}
use Rattle.std.proofs.Math.Bool.{beq}
use Rattle.std.proofs.lemmas.Bool.{eq-eqb, false≢true}
use Rattle.std.proofs.lemmas.List.{length-append, length-map}
use Rattle.std.proofs.lemmas.List.Elements.{All-append, All-cons, All-filter, All-map, All-nil}
use Rattle.std.proofs.lemmas.Option.{slice_get_cases}
use Rattle.gd_datum.proofs.Conditions.{found}
use Rattle.gd_datum.specs.Listed.{listed_at}
use Rattle.gd_flat.specs.Judged.{numbers_of}
use Rattle.gd_frames.specs.Combinations.{begin, passes, same_word}
use Rattle.gd_frames.specs.Counts.{is_joined, joins}
use Rattle.gd_frames.specs.Facts.{IsFeature, IsFile, IsFrame}
use Rattle.gd_group.proofs.SectionCounts.{sections-few, sections-seen, some-numbers, some-rows, some-section}
use Rattle.gd_group.specs.Groups.{begins, groups, is_first, is_partner, joined_by, joined_frame, judged_with, partners, whole, wholes, with_partners}
use Rattle.gd_group.specs.Members.{HasJudged, IsGroup, feature_in}
use Rattle.gd_group.specs.Requirements.{first_feature, form_feature, lower_part, of_frame, of_frames, parts, requirement, requirements, sections}
use Rattle.gd_group.specs.declared.requirement.Part.{Part}
use Rattle.gd_group.specs.declared.requirement.Part.TheVariants as part
use Rattle.gd_group.specs.declared.requirement.Requirement.{Requirement}
use Rattle.gd_points.specs.Index.{is_of}
use Rattle.gd_points.specs.Table.{HasRows, Table}
use Rattle.gd_points.specs.declared.table.Row.{Row}
use Rattle.gd_tables.specs.Kinds.{File, Frame}
use Rattle.gd_tables.specs.declared.file.DatumRef.{DatumRef}
use Rattle.gd_tables.specs.declared.file.FeatureDef.{FeatureDef}
use Rattle.gd_tables.specs.declared.kind.Kind.{Kind}
use Rattle.gd_tables.specs.declared.kind.Kind.TheVariants as kind
use Rattle.gd_vec.specs.Vector.{IsWithin}

-- ---- a joined frame is joined to itself
same-word : (w : DatumRef) → same_word w w ≡ true
same-word w = rw (eq-eqb w.datum w.datum refl) (own w.at_mmb)
  where
    own : (b : Bool) → beq b b ≡ true
    own true = refl
    own false = refl

begin-same : (ws : List DatumRef) → begin ws ws ≡ true
begin-same [] = refl
begin-same (w ∷ ws) = rw (same-word w) (begin-same ws)

joins-self : (f : Frame) → is_joined f ≡ true → joins f f ≡ true
joins-self f e = rw (e, eq-eqb (length f.datums) (length f.datums) refl) (begin-same f.datums)

-- ---- lists
shorter : {A : Type 0} (p : A → Bool) (xs : List A) → length (filter p xs) ≤ length xs
shorter p [] = omega arith
shorter p (x ∷ xs) = one (p x) (shorter p xs)
  where
    one : (b : Bool) → length (filter p xs) ≤ length xs → length (cond b (x ∷ filter p xs) (filter p xs)) ≤ suc (length xs)
    one true less = omega arith
    one false less = omega arith

if-more : {A : Type 0} (o : Option A) (P Q : A → Type 0) → ((x : A) → P x → Q x) → IfSome o P → IfSome o Q
if-more None P Q more h = h
if-more (Some x) P Q more h = more x h

-- ---- sizes of a feature
pub direction-fits : (points : ℕ) (def : FeatureDef) → IsFeature points def → IsWithin (2 ^ 10) def.direction
direction-fits points def is = record {
  x = omega (arith, is.direction.x);
  y = omega (arith, is.direction.y);
  z = omega (arith, is.direction.z);
}

pub point-fits : (points : ℕ) (def : FeatureDef) → IsFeature points def → IsWithin (2 ^ 26) def.point
point-fits points def is = record {
  x = omega (arith, is.point.x);
  y = omega (arith, is.point.y);
  z = omega (arith, is.point.z);
}

module _ (points : Table) (file : File) (was : IsFile points file) where
  -- the feature that a frame names
  pub feature-is : (f : Frame) (o : Option FeatureDef) → form_feature file.features f ≡ o → IfSome o (IsFeature (length points.names))
  feature-is f o e = subst (λ o. IfSome o (IsFeature (length points.names))) e (named f.features)
    where
      named : (places : List ℕ) → IfSome (first_feature file.features places) (IsFeature (length points.names))
      named [] = tt
      named (place ∷ more) = found file.features (IsFeature (length points.names)) place was.features

  pub shift-fits : file.shift ≤ 28
  shift-fits = omega (arith, was.shift)

  module _ (used : HasRows points.rows (length points.names)) where
    feature-seen : (def : FeatureDef) → IsFeature (length points.names) def → 0 < length (numbers_of def.feature None points.rows)
    feature-seen def is = some-numbers (is_of def.feature) points.rows (some-rows points.rows def.feature (used def.feature is.used))

    abbrev Judged : Requirement → Type 0
    Judged = HasJudged file points.rows

    -- a frame's first feature has a point
    frame-seen : (o : Option Frame) → IfSome (option_and_then (form_feature file.features) o) (λ (def : FeatureDef). 0 < length (numbers_of def.feature None points.rows))
    frame-seen None = tt
    frame-seen (Some f) =
        if-more (form_feature file.features f) (IsFeature (length points.names)) (λ (def : FeatureDef). 0 < length (numbers_of def.feature None points.rows)) feature-seen
        (feature-is f (form_feature file.features f) refl)

    whole-seen : (number : ℕ) → Judged (requirement number part.Whole)
    whole-seen number = frame-seen (slice_get file.frames number)

    lower-seen : (number : ℕ) → Judged (requirement number part.Lower)
    lower-seen number = frame-seen (slice_get file.frames number)

    -- and one in each section
    sections-judged : (number : ℕ) (o : Option FeatureDef) → feature_in file (requirement number part.Whole) ≡ o
        → All (λ g. Judged (requirement number (part.Section g))) (listed_at (sections points.rows) o)
    sections-judged number None e = All-nil (λ g. Judged (requirement number (part.Section g)))
    sections-judged number (Some def) e = λ k d less.
        let g = get_or (sections points.rows def) k d in
        subst (λ o. IfSome o (λ (def : FeatureDef). 0 < length (numbers_of def.feature (Some g) points.rows))) (sym e) (sections-seen points.rows def k d less)

    segments-seen : (number : ℕ) (o : Option ℕ) → All (λ p. Judged (requirement number p)) (part.Whole ∷ lower_part o)
    segments-seen number None =
        All-cons (λ p. Judged (requirement number p)) part.Whole [] (whole-seen number) (All-nil (λ p. Judged (requirement number p)))
    segments-seen number (Some t) =
        All-cons (λ p. Judged (requirement number p)) part.Whole (part.Lower ∷ []) (whole-seen number)
        (All-cons (λ p. Judged (requirement number p)) part.Lower [] (lower-seen number) (All-nil (λ p. Judged (requirement number p))))

    parts-seen : (number : ℕ) (f : Frame) (k : Kind) → slice_get file.frames number ≡ Some f → All (λ p. Judged (requirement number p)) (parts file.features points.rows k f)
    parts-seen number f kind.Circularity is =
        All-map (λ p. Judged (requirement number p)) part.Section (listed_at (sections points.rows) (form_feature file.features f))
        (sections-judged number (form_feature file.features f) (ap (option_and_then (form_feature file.features)) is))
    parts-seen number f kind.Flatness is = segments-seen number f.lower
    parts-seen number f kind.Straightness is = segments-seen number f.lower
    parts-seen number f kind.Cylindricity is = segments-seen number f.lower
    parts-seen number f kind.Orientation is = segments-seen number f.lower
    parts-seen number f kind.Position is = segments-seen number f.lower
    parts-seen number f kind.Profile is = segments-seen number f.lower
    parts-seen number f kind.CircularRunout is = segments-seen number f.lower
    parts-seen number f kind.TotalRunout is = segments-seen number f.lower

    frames-seen : (frames : List Frame) (number : ℕ) → ((k : ℕ) → slice_get file.frames (number + k) ≡ slice_get frames k) → All Judged (of_frames file.features points.rows number frames)
    frames-seen [] number same = All-nil Judged
    frames-seen (f ∷ more) number same =
        let here : slice_get file.frames number ≡ Some f = ap (slice_get file.frames) (sym (none-more number)) ∙ same 0 in
        All-append Judged (of_frame file.features points.rows number f) (of_frames file.features points.rows (suc number) more)
        (All-map Judged (requirement number) (parts file.features points.rows f.kind f) (parts-seen number f f.kind here))
        (frames-seen more (suc number) (λ k. ap (slice_get file.frames) (one-more number k) ∙ same (suc k)))
      where
        none-more : (n : ℕ) → n + 0 ≡ n
        none-more n = omega arith

        one-more : (n k : ℕ) → suc n + k ≡ n + suc k
        one-more n k = omega arith

    pub requirements-seen : All Judged (requirements file points.rows)
    requirements-seen = frames-seen file.frames 0 (λ k. ap (slice_get file.frames) (from-none k))
      where
        from-none : (k : ℕ) → 0 + k ≡ k
        from-none k = omega arith

    -- ---- what is so of each group
    with-seen : (r : Requirement) (o : Option Frame) → Judged r → All Judged (with_partners file r o)
    with-seen r None seen = All-cons Judged r [] seen (All-nil Judged)
    with-seen r (Some f) seen =
        All-filter (is_partner file f) Judged (wholes file)
        (All-map Judged whole (range_with_len 0 (length file.frames)) (λ k d less. whole-seen (get_or (range_with_len 0 (length file.frames)) k d)))

    group-is : (r : Requirement) → Judged r → IsGroup file points.rows (judged_with file r)
    group-is r seen = record { first = r; together = refl; judged = with-seen r (joined_frame file r) seen }

    pub groups-are : All (IsGroup file points.rows) (groups file (requirements file points.rows))
    groups-are =
        let rs = requirements file points.rows in
        let firsts = filter (is_first file) rs in
        All-map (IsGroup file points.rows) (judged_with file) firsts
        (λ k d less. group-is (get_or firsts k d) (All-filter (is_first file) Judged rs requirements-seen k d less))

    -- ---- there is one: the first requirement begins its own group
    module _ (f : Frame) (more : List Frame) (is : file.frames ≡ f ∷ more) where
      at-first : slice_get file.frames 0 ≡ Some f
      at-first = ap (λ fs. slice_get fs 0) is

      begins-own : (r : Requirement) → r.frame ≡ 0 → begins r (r ∷ []) ≡ true
      begins-own r e = eq-eqb r.frame r.frame refl

      partners-begin : (r : Requirement) → r.frame ≡ 0 → is_joined f ≡ true → begins r (partners file f) ≡ true
      partners-begin r e joined =
          subst (λ n. begins r (filter (is_partner file f) (map whole (range_with_len 0 n))) ≡ true) (sym (ap length is))
          (by (is_partner file f (whole 0)) (ap (passes (joins f)) at-first ∙ joins-self f joined))
        where
          by : (b : Bool) → b ≡ true
              → begins r (cond b (whole 0 ∷ filter (is_partner file f) (map whole (range_with_len 1 (length more)))) (filter (is_partner file f) (map whole (range_with_len 1 (length more))))) ≡ true
          by true h = eq-eqb 0 r.frame (sym e)
          by false h = absurd (false≢true h)

      by-joined : (r : Requirement) (b : Bool) → r.frame ≡ 0 → is_joined f ≡ b → begins r (with_partners file r (cond b (Some f) None)) ≡ true
      by-joined r true e h = partners-begin r e h
      by-joined r false e h = begins-own r e

      by-part : (r : Requirement) (p : Part) → r.frame ≡ 0 → begins r (with_partners file r (joined_by p (Some f))) ≡ true
      by-part r part.Whole e = by-joined r (is_joined f) e refl
      by-part r part.Lower e = begins-own r e
      by-part r (part.Section g) e = begins-own r e

      first-begins : (r : Requirement) → r.frame ≡ 0 → is_first file r ≡ true
      first-begins r e =
          subst (λ o. begins r (with_partners file r (joined_by r.part o)) ≡ true) (sym (ap (slice_get file.frames) e ∙ at-first)) (by-part r r.part e)

      first-parts : (k : Kind) → 0 < length (parts file.features points.rows k f)
      first-parts kind.Circularity =
          let s = listed_at (sections points.rows) (form_feature file.features f) in
          let same = length-map s part.Section in
          let some : 0 < length s = some-of f.features frame-is.features.some frame-is.features.placed in
          omega (arith, same, some)
        where
          frame-is : IsFrame (length file.features) (length file.datums) f
          frame-is = subst (λ o. IfSome o (IsFrame (length file.features) (length file.datums))) at-first (found file.frames (IsFrame (length file.features) (length file.datums)) 0 was.frames)

          at-place : (place : ℕ) → place < length file.features → 0 < length (listed_at (sections points.rows) (slice_get file.features place))
          at-place place less =
              elim ((slice_get_cases file.features place).1) [
                | inl (def, within, is, same) ↦
                    let feature = subst (λ o. IfSome o (IsFeature (length points.names))) is (found file.features (IsFeature (length points.names)) place was.features) in
                    subst (λ o. 0 < length (listed_at (sections points.rows) o)) (sym is) (some-section points.rows def (used def.feature feature.used))
                | inr (past, none) ↦ absurd (omega (arith, past, less))
              ]

          some-of : (places : List ℕ) → 0 < length places → All (λ place. place < length file.features) places
              → 0 < length (listed_at (sections points.rows) (first_feature file.features places))
          some-of [] some all = absurd (omega (arith, some))
          some-of (place ∷ others) some all = at-place place (all 0 place some)
      first-parts kind.Flatness = omega arith
      first-parts kind.Straightness = omega arith
      first-parts kind.Cylindricity = omega arith
      first-parts kind.Orientation = omega arith
      first-parts kind.Position = omega arith
      first-parts kind.Profile = omega arith
      first-parts kind.CircularRunout = omega arith
      first-parts kind.TotalRunout = omega arith

      from-parts : (ps : List Part) (others : List Requirement) → 0 < length ps → 0 < length (groups file (map (requirement 0) ps ++ others))
      from-parts [] others some = absurd (omega (arith, some))
      from-parts (p ∷ ps) others some =
          one (is_first file (requirement 0 p)) (first-begins (requirement 0 p) refl) (map (requirement 0) ps ++ others)
        where
          one : (b : Bool) → b ≡ true → (rs : List Requirement)
              → 0 < length (map (judged_with file) (cond b (requirement 0 p ∷ filter (is_first file) rs) (filter (is_first file) rs)))
          one true h rs = omega arith
          one false h rs = absurd (false≢true h)

      some-first : 0 < length (groups file (of_frames file.features points.rows 0 (f ∷ more)))
      some-first = from-parts (parts file.features points.rows f.kind f) (of_frames file.features points.rows 1 more) (first-parts f.kind)

    pub groups-some : 0 < length (groups file (requirements file points.rows))
    groups-some = by file.frames refl was.some_frames
      where
        by : (frames : List Frame) → file.frames ≡ frames → 0 < length frames → 0 < length (groups file (of_frames file.features points.rows 0 file.frames))
        by [] is some = absurd (omega (arith, some))
        by (f ∷ more) is some = subst (λ fs. 0 < length (groups file (of_frames file.features points.rows 0 fs))) (sym is) (some-first f more is)

  -- ---- at most 1,000 requirements a frame
  module _ (small : All (λ (row : Row). row.group ≤ 999) points.rows) where
    segments-few : (o : Option ℕ) → length (part.Whole ∷ lower_part o) ≤ 1000
    segments-few None = omega arith
    segments-few (Some t) = omega arith

    listed-few : (o : Option FeatureDef) → length (listed_at (sections points.rows) o) ≤ 1000
    listed-few None = omega arith
    listed-few (Some def) = sections-few points.rows def small

    parts-few : (f : Frame) (k : Kind) → length (parts file.features points.rows k f) ≤ 1000
    parts-few f kind.Circularity =
        let s = listed_at (sections points.rows) (form_feature file.features f) in
        let same = length-map s part.Section in
        let few = listed-few (form_feature file.features f) in
        omega (arith, same, few)
    parts-few f kind.Flatness = segments-few f.lower
    parts-few f kind.Straightness = segments-few f.lower
    parts-few f kind.Cylindricity = segments-few f.lower
    parts-few f kind.Orientation = segments-few f.lower
    parts-few f kind.Position = segments-few f.lower
    parts-few f kind.Profile = segments-few f.lower
    parts-few f kind.CircularRunout = segments-few f.lower
    parts-few f kind.TotalRunout = segments-few f.lower

    frames-few : (frames : List Frame) (number : ℕ) → length (of_frames file.features points.rows number frames) ≤ 1000 * length frames
    frames-few [] number = omega arith
    frames-few (f ∷ more) number =
        let ps = parts file.features points.rows f.kind f in
        let both = length-append (of_frame file.features points.rows number f) (of_frames file.features points.rows (suc number) more) in
        let same = length-map ps (requirement number) in
        let here = parts-few f f.kind in
        let rest = frames-few more (suc number) in
        omega (arith, both, same, here, rest)

    pub groups-few : length (groups file (requirements file points.rows)) ≤ 300000
    groups-few =
        let rs = requirements file points.rows in
        let same = length-map (filter (is_first file) rs) (judged_with file) in
        let less = shorter (is_first file) rs in
        let all = frames-few file.frames 0 in
        omega (arith, same, less, all, was.few_frames)
