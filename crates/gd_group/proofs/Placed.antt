-- What the three tables of kinds ask of the frames of a file that was read.
use Rattle.std.proofs.Common.{List, [], ◌∷◌, ◌≡◌, refl, sym, subst, ℕ, ◌+◌, ◌≤◌, ◌<◌, Bool, true, false, ◌&&◌, ◌||◌, length, Option, Some, None, arith, is_none, is_some, nat_eq, take}
use Rattle.std.specs.Prelude.{slice_get}
use Rattle.std.specs.List.{All}
use Rattle.std.specs.Option.{IfSome}
use Rattle.std.proofs.lemmas.Bool.{and_parts, eqb-true, false≢true}
use Rattle.std.proofs.lemmas.Option.{get_or_from_slice_get, none-some, slice_get_within}
use Rattle.gd_datum.proofs.Conditions.{found}
use Rattle.gd_frames.specs.Combinations.{begin, fits_count, fits_features, fits_lower, fits_words, may_have_above, may_have_lower}
use Rattle.gd_frames.specs.Counts.{frame_offsets}
use Rattle.gd_frames.specs.Facts.{IsFile, IsFrame, IsJudged, IsSmall, IsUpTo}
use Rattle.gd_place.specs.Facts.{IsPlaced, is_placed}
use Rattle.gd_points.specs.Table.{Table}
use Rattle.gd_surface.specs.Facts.{IsOfSurface, is_surface_kind}
use Rattle.gd_tables.specs.Kinds.{File, Frame}
use Rattle.gd_tables.specs.declared.file.DatumRef.{DatumRef}
use Rattle.gd_tables.specs.declared.kind.Kind.{Kind}
use Rattle.gd_tables.specs.declared.kind.Kind.TheVariants as kind

module _ (points : Table) (file : File) (was : IsFile points file) (number : ℕ) (f : Frame) (is : slice_get file.frames number ≡ Some f) where
  at-place : (P : Frame → Type 0) → All P file.frames → P f
  at-place P all = subst (λ o. IfSome o P) is (found file.frames P number all)

  here : (P : Frame → Type 0) → P f → IfSome (slice_get file.frames number) P
  here P h = subst (λ o. IfSome o P) (sym is) h

  frame-is : IsFrame (length file.features) (length file.datums) f
  frame-is = at-place (IsFrame (length file.features) (length file.datums)) was.frames

  pub tolerable : f.tolerance ≤ 16000000
  tolerable = frame-is.tolerance

  pub small : IsSmall file.features file.datums points.rows (take number file.frames) f
  small = subst (IsSmall file.features file.datums points.rows (take number file.frames)) (get_or_from_slice_get file.frames number f f is) (was.small number f (slice_get_within file.frames number f is))

  pub placed : (offset : ℕ) → is_placed f.kind ≡ true → offset ≤ 1 → (f.kind ≡ kind.Orientation → 0 < offset) → IsPlaced file number offset
  placed offset of_kind few moved = record {
    of_kind = here (λ (g : Frame). is_placed g.kind ≡ true) of_kind;
    few = omega (arith, few);
    moved = here (λ (g : Frame). g.kind ≡ kind.Orientation → 0 < offset) moved;
    offsets = here (λ (g : Frame). offset + frame_offsets file.features g ≤ 3) (omega (arith, few, small.offsets));
  }

  pub on-surface : is_surface_kind f.kind ≡ true → IsOfSurface file number
  on-surface of_kind = here (λ (g : Frame). is_surface_kind g.kind ≡ true) of_kind

  -- ---- a lower segment is one of a position
  only-position : (k : Kind) → may_have_lower k ≡ true → is_placed k ≡ true
  only-position kind.Position h = refl
  only-position kind.Orientation h = refl
  only-position kind.Flatness h = absurd (false≢true h)
  only-position kind.Straightness h = absurd (false≢true h)
  only-position kind.Circularity h = absurd (false≢true h)
  only-position kind.Cylindricity h = absurd (false≢true h)
  only-position kind.Profile h = absurd (false≢true h)
  only-position kind.CircularRunout h = absurd (false≢true h)
  only-position kind.TotalRunout h = absurd (false≢true h)

  is-position : (k : Kind) → may_have_lower k ≡ true → k ≡ kind.Position
  is-position kind.Position h = refl
  is-position kind.Orientation h = absurd (false≢true h)
  is-position kind.Flatness h = absurd (false≢true h)
  is-position kind.Straightness h = absurd (false≢true h)
  is-position kind.Circularity h = absurd (false≢true h)
  is-position kind.Cylindricity h = absurd (false≢true h)
  is-position kind.Profile h = absurd (false≢true h)
  is-position kind.CircularRunout h = absurd (false≢true h)
  is-position kind.TotalRunout h = absurd (false≢true h)

  stated : (b : Bool) (o : Option ℕ) (c : Bool) (t : ℕ) → o ≡ Some t → (b || (is_none o && c)) ≡ true → b ≡ true
  stated true o c t e h = refl
  stated false (Some u) c t e h = h
  stated false None c t e h = absurd (none-some t e)

  judged : IsJudged file.features file.datums points.rows f
  judged = at-place (IsJudged file.features file.datums points.rows) was.judged

  lower-fits : fits_lower f ≡ true
  lower-fits = (and_parts (fits_features file.features f && fits_words file.features file.datums f.datums && fits_count file.features file.datums f.kind f.datums && (may_have_above f.kind || is_none f.above)) (fits_lower f) judged.allowed).1

  pub lower-position : (t : ℕ) → f.lower ≡ Some t → f.kind ≡ kind.Position
  lower-position t e =
      let parts = and_parts ((may_have_lower f.kind || (is_none f.lower && nat_eq (length f.lower_datums) 0)) && (is_some f.lower || nat_eq (length f.lower_datums) 0)) (begin f.lower_datums f.datums) lower-fits in
      let may = (and_parts (may_have_lower f.kind || (is_none f.lower && nat_eq (length f.lower_datums) 0)) (is_some f.lower || nat_eq (length f.lower_datums) 0) parts.0).0 in
      is-position f.kind (stated (may_have_lower f.kind) f.lower (nat_eq (length f.lower_datums) 0) t e may)

  pub no-lower-words : f.lower ≡ None → f.lower_datums ≡ []
  no-lower-words e =
      let parts = and_parts ((may_have_lower f.kind || (is_none f.lower && nat_eq (length f.lower_datums) 0)) && (is_some f.lower || nat_eq (length f.lower_datums) 0)) (begin f.lower_datums f.datums) lower-fits in
      let or = (and_parts (may_have_lower f.kind || (is_none f.lower && nat_eq (length f.lower_datums) 0)) (is_some f.lower || nat_eq (length f.lower_datums) 0) parts.0).1 in
      let none : nat_eq (length f.lower_datums) 0 ≡ true = subst (λ o. (is_some o || nat_eq (length f.lower_datums) 0) ≡ true) e or in
      empty f.lower_datums (eqb-true (length f.lower_datums) 0 none)
    where
      empty : (ws : List DatumRef) → length ws ≡ 0 → ws ≡ []
      empty [] h = refl
      empty (w ∷ ws) h = absurd (omega (arith, h))

  pub lower-placed : (t : ℕ) → f.lower ≡ Some t → IsPlaced file number 1
  lower-placed t e =
      let parts = and_parts ((may_have_lower f.kind || (is_none f.lower && nat_eq (length f.lower_datums) 0)) && (is_some f.lower || nat_eq (length f.lower_datums) 0)) (begin f.lower_datums f.datums) lower-fits in
      let may = (and_parts (may_have_lower f.kind || (is_none f.lower && nat_eq (length f.lower_datums) 0)) (is_some f.lower || nat_eq (length f.lower_datums) 0) parts.0).0 in
      let one : 1 ≤ 1 = omega arith in
      let up : 0 < 1 = omega arith in
      placed 1 (only-position f.kind (stated (may_have_lower f.kind) f.lower (nat_eq (length f.lower_datums) 0) t e may)) one (λ _. up)

  pub lower-tolerable : (t : ℕ) → f.lower ≡ Some t → t ≤ 16000000
  lower-tolerable t e =
      let up : t ≤ f.tolerance = subst (λ o. IsUpTo f.tolerance o) e frame-is.lower in
      omega (arith, up, tolerable)
