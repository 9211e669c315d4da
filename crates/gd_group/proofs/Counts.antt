-- What is judged together has at most as many conditions as the reader of the frame file counts, so at most 4,096.
use Rattle.std.proofs.Common.{◌≡◌, ◌∙◌, ap, refl, sym, subst, inl, inr, arith, ℕ, zero, suc, ◌+◌, ◌≤◌, ◌<◌, Bool, true, false, cond, ◌&&◌, if◌then◌else◌, List, [], ◌∷◌, ◌++◌, length, filter, map, take, get_or, nat_eq, Option, Some, None, is_some}
use Rattle.std.specs.Prelude.{slice_get}
use Rattle.std.specs.List.{flat_map, range_with_len, sum_by}
use Rattle.std.proofs.Math.Bool.{beq}
use Rattle.std.proofs.Math.Path.{fun_ext}
use Rattle.std.proofs.lemmas.Bool.{and_parts, cases_Bool, eq-eqb, eqb-true, false≢true}
use Rattle.std.proofs.lemmas.List.{length-append}
use Rattle.std.proofs.lemmas.List.Concat.{length-flat_map}
use Rattle.std.proofs.lemmas.List.FromFn.{filter_of_map_range_with_len_more}
use Rattle.std.proofs.lemmas.List.Sums.{sum_by-append, sum_by-cons, sum_by-le, sum_by_more}
use Rattle.std.proofs.lemmas.Option.{slice_get-get_or}
use Rattle.gd_datum.proofs.Conditions.{words-length}
use Rattle.gd_datum.specs.Listed.{listed_at, of_words}
use Rattle.gd_frames.specs.Combinations.{begin, passes, same_word}
use Rattle.gd_frames.specs.Counts.{count_at, feature_conditions, frame_conditions, is_joined, joins, words_conditions}
use Rattle.gd_frames.specs.Facts.{IsFile}
use Rattle.gd_group.proofs.Conditions.{is_orientation}
use Rattle.gd_group.proofs.Placed.{lower-placed, lower-position, no-lower-words, on-surface, placed, small}
use Rattle.gd_group.specs.Conditions.{group_words, of_group, of_lower, of_part, of_requirement, of_whole, words_of_part}
use Rattle.gd_group.specs.Groups.{is_partner, joined_by, judged_with, partners, whole, with_partners}
use Rattle.gd_group.specs.declared.requirement.Part.{Part}
use Rattle.gd_group.specs.declared.requirement.Part.TheVariants as part
use Rattle.gd_group.specs.declared.requirement.Requirement.{Requirement}
use Rattle.gd_place.proofs.Conditions as place
use Rattle.gd_points.specs.Table.{Table}
use Rattle.gd_surface.proofs.Conditions as surface
use Rattle.gd_tables.specs.Kinds.{File, Frame}
use Rattle.gd_tables.specs.declared.file.DatumRef.{DatumRef}
use Rattle.gd_tables.specs.declared.file.FeatureDef.{FeatureDef}
use Rattle.gd_tables.specs.declared.kind.Kind.{Kind}
use Rattle.gd_tables.specs.declared.kind.Kind.TheVariants as kind

-- ---- frames that are joined have the same datum words
same-mark : (a b : Bool) → beq a b ≡ true → a ≡ b
same-mark true true h = refl
same-mark false false h = refl
same-mark true false h = absurd (false≢true h)
same-mark false true h = absurd (false≢true h)

word-of : ℕ → Bool → DatumRef
word-of datum at_mmb = record { datum = datum; at_mmb = at_mmb }

same-word : (v w : DatumRef) → same_word v w ≡ true → v ≡ w
unfolding word-of
same-word v w h =
    let parts = and_parts (nat_eq v.datum w.datum) (beq v.at_mmb w.at_mmb) h in
    ap (λ d. word-of d v.at_mmb) (eqb-true v.datum w.datum parts.0) ∙ ap (word-of w.datum) (same-mark v.at_mmb w.at_mmb parts.1)

same-words : (vs ws : List DatumRef) → nat_eq (length vs) (length ws) ≡ true → begin vs ws ≡ true → vs ≡ ws
same-words [] [] n h = refl
same-words [] (w ∷ ws) n h =
    let e : 0 ≡ suc (length ws) = eqb-true 0 (suc (length ws)) n in
    absurd (omega (arith, e))
same-words (v ∷ vs) [] n h = absurd (false≢true h)
same-words (v ∷ vs) (w ∷ ws) n h =
    let parts = and_parts (same_word v w) (begin vs ws) h in
    let e : suc (length vs) ≡ suc (length ws) = eqb-true (suc (length vs)) (suc (length ws)) n in
    let lengths : length vs ≡ length ws = omega (arith, e) in
    ap (λ x. x ∷ vs) (same-word v w parts.0) ∙ ap (λ xs. w ∷ xs) (same-words vs ws (eq-eqb (length vs) (length ws) lengths) parts.1)

joined-parts : (f g : Frame) → joins f g ≡ true → (is_joined f ≡ true) × (is_joined g ≡ true) × (f.datums ≡ g.datums)
joined-parts f g h =
    let p = and_parts ((is_joined f && is_joined g) && nat_eq (length f.datums) (length g.datums)) (begin f.datums g.datums) h in
    let q = and_parts (is_joined f && is_joined g) (nat_eq (length f.datums) (length g.datums)) p.0 in
    let r = and_parts (is_joined f) (is_joined g) q.0 in
    (r.0, r.1, same-words f.datums g.datums q.1 p.1)

alike : (f g h : Frame) → joins f g ≡ true → joins g h ≡ joins f h
alike f g h e =
    let p = joined-parts f g e in
    ap (λ b. ((b && is_joined h) && nat_eq (length g.datums) (length h.datums)) && begin g.datums h.datums) (p.1 ∙ sym p.0)
    ∙ ap (λ ws. ((is_joined f && is_joined h) && nat_eq (length ws) (length h.datums)) && begin ws h.datums) (sym p.2)

module _ (points : Table) (file : File) (was : IsFile points file) where
  abbrev size : Requirement → ℕ
  size r = length (of_requirement file points.rows r)

  abbrev counted : Frame → ℕ
  counted = frame_conditions file.features points.rows

  abbrev worded : List DatumRef → ℕ
  worded = words_conditions file.features file.datums points.rows

  abbrev share : Frame → Frame → ℕ
  share f h = if joins f h then counted h else 0

  abbrev first-partners : Frame → ℕ → List Requirement
  first-partners f n = filter (is_partner file f) (map whole (range_with_len 0 n))

  -- ---- a whole frame has no more conditions than are counted
  exactly : (m n : ℕ) → m ≡ n → m ≤ n
  exactly m n e = omega (arith, e)

  nothing : (n : ℕ) → 0 ≤ n
  nothing n = omega arith

  not-located : kind.Position ≡ kind.Orientation → 0 < 0
  not-located o = absurd (false≢true (ap is_orientation o))

  whole-few : (number : ℕ) (f : Frame) (k : Kind) → slice_get file.frames number ≡ Some f → f.kind ≡ k → length (of_whole file points.rows number k f.tolerance) ≤ counted f
  whole-few number f kind.Position is e =
      let long = place.is-long file f.tolerance 0 number (placed points file was number f is 0 (rw e refl) (omega arith) (λ o. not-located (sym e ∙ o))) points.rows in
      exactly _ _ (long ∙ ap (count_at counted) is)
  whole-few number f kind.Orientation is e =
      let up : 0 < 1 = omega arith in
      let long = place.is-long file f.tolerance 1 number (placed points file was number f is 1 (rw e refl) (omega arith) (λ o. up)) points.rows in
      exactly _ _ (long ∙ ap (count_at counted) is)
  whole-few number f kind.Profile is e = exactly _ _ (surface.is-long file points was f.tolerance number (on-surface points file was number f is (rw e refl)) ∙ ap (count_at counted) is)
  whole-few number f kind.CircularRunout is e = exactly _ _ (surface.is-long file points was f.tolerance number (on-surface points file was number f is (rw e refl)) ∙ ap (count_at counted) is)
  whole-few number f kind.TotalRunout is e = exactly _ _ (surface.is-long file points was f.tolerance number (on-surface points file was number f is (rw e refl)) ∙ ap (count_at counted) is)
  whole-few number f kind.Flatness is e = nothing (counted f)
  whole-few number f kind.Straightness is e = nothing (counted f)
  whole-few number f kind.Circularity is e = nothing (counted f)
  whole-few number f kind.Cylindricity is e = nothing (counted f)

  size-few : (number : ℕ) (f : Frame) → slice_get file.frames number ≡ Some f → size (whole number) ≤ counted f
  size-few number f is = subst (λ o. length (listed_at (of_part file points.rows number part.Whole) o) ≤ counted f) (sym is) (whole-few number f f.kind is refl)

  -- ---- one frame more
  partners-next : (f : Frame) (n : ℕ) → n < length file.frames
      → first-partners f (n + 1) ≡ first-partners f n ++ cond (joins f (get_or file.frames n f)) (whole n ∷ []) []
  partners-next f n h =
      let same : 0 + n ≡ n = omega arith in
      filter_of_map_range_with_len_more (is_partner file f) whole 0 n n same
      ∙ ap (λ b. first-partners f n ++ cond b (whole n ∷ []) []) (ap (passes (joins f)) (slice_get-get_or file.frames n f h))

  last : (b : Bool) (r : Requirement) (m : ℕ) → size r ≤ m → sum_by size (cond b (r ∷ []) []) ≤ (if b then m else 0)
  last true r m h =
      let e = sum_by-cons size r [] in
      let z : sum_by size [] ≡ 0 = refl in
      omega (arith, e, z, h)
  last false r m h = nothing 0

  sums-next : (f : Frame) (n : ℕ) → n < length file.frames
      → sum_by size (first-partners f (n + 1)) ≤ sum_by size (first-partners f n) + share f (get_or file.frames n f)
  sums-next f n h =
      let x = get_or file.frames n f in
      let both = ap (sum_by size) (partners-next f n h) ∙ sum_by-append size (first-partners f n) (cond (joins f x) (whole n ∷ []) []) in
      let end = last (joins f x) (whole n) (counted x) (size-few n x (slice_get-get_or file.frames n f h)) in
      omega (arith, both, end)

  partners-few : (f : Frame) (n : ℕ) → n ≤ length file.frames → sum_by size (first-partners f n) ≤ sum_by (share f) (take n file.frames)
  partners-few f zero h = nothing (sum_by (share f) (take zero file.frames))
  partners-few f (suc n) h =
      let one : suc n ≡ n + 1 = omega arith in
      let within : n < length file.frames = omega (arith, h) in
      let before = partners-few f n (omega (arith, h)) in
      let next = sums-next f n within in
      let more = sum_by_more (share f) file.frames n f within in
      subst (λ k. sum_by size (first-partners f k) ≤ sum_by (share f) (take k file.frames)) (sym one) (omega (arith, before, next, more))

  -- ---- the words and the frames so far, of a frame that is joined
  words-few : (number : ℕ) (f : Frame) → slice_get file.frames number ≡ Some f → worded f.datums ≤ 4096
  words-few number f is =
      let few : worded f.datums + (sum_by (share f) (take number file.frames) + counted f) ≤ 4096 = (small points file was number f is).conditions in
      omega (arith, few)

  module _ (number : ℕ) (f : Frame) (is : slice_get file.frames number ≡ Some f) where
    with-joined : (n : ℕ) → n < length file.frames → joins f (get_or file.frames n f) ≡ true → worded f.datums + (sum_by (share f) (take n file.frames) + counted (get_or file.frames n f)) ≤ 4096
    with-joined n h e =
        let x = get_or file.frames n f in
        let few : worded x.datums + (sum_by (share x) (take n file.frames) + counted x) ≤ 4096 = (small points file was n x (slice_get-get_or file.frames n f h)).conditions in
        let p = joined-parts f x e in
        let shares : sum_by (share x) (take n file.frames) ≡ sum_by (share f) (take n file.frames) =
        ap (λ t. sum_by t (take n file.frames)) (fun_ext (λ g. ap (λ b. if b then counted g else 0) (alike f x g e))) in
        let words : worded x.datums ≡ worded f.datums = ap worded (sym p.2) in
        omega (arith, few, shares, words)

    so-far : (n : ℕ) → n ≤ length file.frames → worded f.datums + sum_by size (first-partners f n) ≤ 4096
    so-far zero h =
        let few = words-few number f is in
        let z : sum_by size (first-partners f zero) ≡ 0 = refl in
        omega (arith, few, z)
    so-far (suc n) h =
        let one : suc n ≡ n + 1 = omega arith in
        let within : n < length file.frames = omega (arith, h) in
        let x = get_or file.frames n f in
        let next = sums-next f n within in
        let before = so-far n (omega (arith, h)) in
        subst (λ k. worded f.datums + sum_by size (first-partners f k) ≤ 4096) (sym one) (elim (cases_Bool (joins f x)) [
          | inl e ↦
              let here : share f x ≡ counted x = ap (λ b. if b then counted x else 0) e in
              let all = with-joined n within e in
              let few = partners-few f n (omega (arith, h)) in
              omega (arith, next, here, all, few)
          | inr e ↦
              let here : share f x ≡ 0 = ap (λ b. if b then counted x else 0) e in
              omega (arith, next, here, before)
        ])

    -- ---- the words of the group
    own-words : (k : ℕ) (o : Option Frame) → passes (joins f) o ≡ true → length (of_words file.features file.datums points.rows (listed_at (words_of_part part.Whole) o)) ≤ worded f.datums
    own-words k None h = absurd (false≢true h)
    own-words k (Some g) h =
        let e = words-length file.features file.datums points.rows g.datums in
        let p = joined-parts f g h in
        let same : worded g.datums ≡ worded f.datums = ap worded (sym p.2) in
        omega (arith, e, same)

    with-first : (k : ℕ) (ks : List ℕ) (b : Bool) → is_partner file f (whole k) ≡ b
        → length (of_words file.features file.datums points.rows (group_words file (filter (is_partner file f) (map whole ks)))) ≤ worded f.datums
        → length (of_words file.features file.datums points.rows (group_words file (cond b (whole k ∷ filter (is_partner file f) (map whole ks)) (filter (is_partner file f) (map whole ks))))) ≤ worded f.datums
    with-first k ks true e rest = own-words k (slice_get file.frames k) e
    with-first k ks false e rest = rest

    words-of-partners : (ns : List ℕ) → length (of_words file.features file.datums points.rows (group_words file (filter (is_partner file f) (map whole ns)))) ≤ worded f.datums
    words-of-partners [] = nothing (worded f.datums)
    words-of-partners (k ∷ ks) = with-first k ks (is_partner file f (whole k)) refl (words-of-partners ks)

    pub partners-bounded : length (of_group file points.rows (partners file f)) ≤ 4096
    partners-bounded =
        let ps = partners file f in
        let words = of_words file.features file.datums points.rows (group_words file ps) in
        let both = length-append words (flat_map (of_requirement file points.rows) ps) in
        let few = words-of-partners (range_with_len 0 (length file.frames)) in
        let sum = length-flat_map (of_requirement file points.rows) ps in
        let all = so-far (length file.frames) (omega arith) in
        omega (arith, both, few, sum, all)

  -- ---- a requirement by itself
  at-most-one : (o : Option FeatureDef) → count_at (feature_conditions points.rows kind.Position) o ≤ 1
  at-most-one None = nothing 1
  at-most-one (Some def) = exactly 1 1 refl

  position-few : (f : Frame) → f.kind ≡ kind.Position → counted f ≤ length f.features
  position-few f e =
      let each : ℕ → ℕ = λ spot. count_at (feature_conditions points.rows kind.Position) (slice_get file.features spot) in
      let same : counted f ≡ sum_by each f.features = ap (λ k. sum_by (λ (spot : ℕ). count_at (feature_conditions points.rows k) (slice_get file.features spot)) f.features) e in
      let few = sum_by-le each 1 f.features (λ i d h. at-most-one (slice_get file.features (get_or f.features i d))) in
      omega (arith, same, few)

  module _ (number : ℕ) (f : Frame) (is : slice_get file.frames number ≡ Some f) where
    whole-bounded : length (of_words file.features file.datums points.rows f.datums) + length (of_whole file points.rows number f.kind f.tolerance) ≤ 4096
    whole-bounded =
        let few : worded f.datums + (sum_by (share f) (take number file.frames) + counted f) ≤ 4096 = (small points file was number f is).conditions in
        let words = words-length file.features file.datums points.rows f.datums in
        let own = whole-few number f f.kind is refl in
        omega (arith, few, words, own)

    lower-bounded : (o : Option ℕ) → f.lower ≡ o → length (of_words file.features file.datums points.rows f.lower_datums) + length (of_lower file number o) ≤ 4096
    lower-bounded None e =
        let none = no-lower-words points file was number f is e in
        let zero-words : length (of_words file.features file.datums points.rows f.lower_datums) ≡ 0 = ap (λ ws. length (of_words file.features file.datums points.rows ws)) none in
        let z : length (of_lower file number None) ≡ 0 = refl in
        omega (arith, zero-words, z)
    lower-bounded (Some t) e =
        let words = words-length file.features file.datums points.rows f.lower_datums in
        let limit : worded f.lower_datums + length f.features ≤ 4096 = subst (λ o. (if is_some o then worded f.lower_datums + length f.features else 0) ≤ 4096) e (small points file was number f is).lower in
        let long : length (of_lower file number (Some t)) ≡ counted f = place.is-long file t 1 number (lower-placed points file was number f is t e) points.rows ∙ ap (count_at counted) is in
        let few = position-few f (lower-position points file was number f is t e) in
        omega (arith, words, limit, long, few)

    part-bounded : (p : Part) → length (of_words file.features file.datums points.rows (words_of_part p f)) + length (of_part file points.rows number p f) ≤ 4096
    part-bounded part.Whole = whole-bounded
    part-bounded part.Lower = lower-bounded f.lower refl
    part-bounded (part.Section group) = nothing 4096

  at-bounded : (number : ℕ) (p : Part) (o : Option Frame) → slice_get file.frames number ≡ o
      → length (of_words file.features file.datums points.rows (listed_at (words_of_part p) o)) + length (listed_at (of_part file points.rows number p) o) ≤ 4096
  at-bounded number p None is = nothing 4096
  at-bounded number p (Some f) is = part-bounded number f is p

  alone-bounded : (r : Requirement) → length (of_group file points.rows (r ∷ [])) ≤ 4096
  alone-bounded r =
      let words = of_words file.features file.datums points.rows (group_words file (r ∷ [])) in
      let both = length-append words (flat_map (of_requirement file points.rows) (r ∷ [])) in
      let one = length-flat_map (of_requirement file points.rows) (r ∷ []) in
      let sum = sum_by-cons size r [] in
      let z : sum_by size [] ≡ 0 = refl in
      let few = at-bounded r.frame r.part (slice_get file.frames r.frame) refl in
      omega (arith, both, one, sum, z, few)

  -- ---- what is judged together with any requirement
  joined-bounded : (r : Requirement) (b : Bool) (f : Frame) → slice_get file.frames r.frame ≡ Some f → length (of_group file points.rows (with_partners file r (cond b (Some f) None))) ≤ 4096
  joined-bounded r true f is = partners-bounded r.frame f is
  joined-bounded r false f is = alone-bounded r

  by-part : (r : Requirement) (p : Part) (o : Option Frame) → slice_get file.frames r.frame ≡ o → length (of_group file points.rows (with_partners file r (joined_by p o))) ≤ 4096
  by-part r part.Whole None is = alone-bounded r
  by-part r part.Whole (Some f) is = joined-bounded r (is_joined f) f is
  by-part r part.Lower o is = alone-bounded r
  by-part r (part.Section group) o is = alone-bounded r

  pub together-bounded : (r : Requirement) → length (of_group file points.rows (judged_with file r)) ≤ 4096
  together-bounded r = by-part r r.part (slice_get file.frames r.frame) refl
