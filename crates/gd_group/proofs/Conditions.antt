-- Each condition of a group is one that placements are judged by, and judges some point.
use Rattle.std.proofs.Common.{◌≡◌, ◌∙◌, ap, refl, sym, ℕ, ◌<◌, Bool, true, false, List, [], ◌∷◌, length, Option, Some, None, arith}
use Rattle.std.specs.Prelude.{slice_get}
use Rattle.std.specs.List.{All, flat_map}
use Rattle.std.proofs.lemmas.Bool.{false≢true}
use Rattle.std.proofs.lemmas.List.Elements.{All-append, All-nil}
use Rattle.gd_datum.proofs.Conditions.{words-ok, words-seen}
use Rattle.gd_datum.specs.Facts.{HasPoints}
use Rattle.gd_datum.specs.Listed.{listed_at, of_words}
use Rattle.gd_frames.specs.Facts.{IsFile}
use Rattle.gd_group.proofs.Placed.{lower-placed, lower-tolerable, placed, tolerable}
use Rattle.gd_group.specs.Conditions.{group_words, of_group, of_lower, of_part, of_requirement, of_whole}
use Rattle.gd_group.specs.declared.requirement.Part.{Part}
use Rattle.gd_group.specs.declared.requirement.Part.TheVariants as part
use Rattle.gd_group.specs.declared.requirement.Requirement.{Requirement}
use Rattle.gd_place.proofs.Conditions as place
use Rattle.gd_points.specs.Table.{HasRows, Table}
use Rattle.gd_surface.proofs.Conditions as surface
use Rattle.gd_tables.specs.Kinds.{File, Frame}
use Rattle.gd_tables.specs.declared.kind.Kind.{Kind}
use Rattle.gd_tables.specs.declared.kind.Kind.TheVariants as kind
use Rattle.gd_zone.specs.Conditions.{IsCondition}
use Rattle.gd_zone.specs.declared.condition.Condition.{Condition}

abbrev pub is_orientation : Kind → Bool
is_orientation kind.Orientation = true
is_orientation _ = false

module _ (points : Table) (file : File) (was : IsFile points file) where
  -- ---- conditions
  position-ok : (number : ℕ) (f : Frame) → slice_get file.frames number ≡ Some f → f.kind ≡ kind.Position → All IsCondition (of_whole file points.rows number kind.Position f.tolerance)
  position-ok number f is e =
      place.is-ok file f.tolerance 0 number (points, was)
      (placed points file was number f is 0 (rw e refl) (omega arith) (λ o. other (sym e ∙ o))) (tolerable points file was number f is)
    where
      other : kind.Position ≡ kind.Orientation → 0 < 0
      other o = absurd (false≢true (ap is_orientation o))

  orientation-ok : (number : ℕ) (f : Frame) → slice_get file.frames number ≡ Some f → f.kind ≡ kind.Orientation → All IsCondition (of_whole file points.rows number kind.Orientation f.tolerance)
  orientation-ok number f is e =
      let up : 0 < 1 = omega arith in
      place.is-ok file f.tolerance 1 number (points, was)
      (placed points file was number f is 1 (rw e refl) (omega arith) (λ o. up)) (tolerable points file was number f is)

  whole-ok : (number : ℕ) (f : Frame) (k : Kind) → slice_get file.frames number ≡ Some f → f.kind ≡ k → All IsCondition (of_whole file points.rows number k f.tolerance)
  whole-ok number f kind.Position is e = position-ok number f is e
  whole-ok number f kind.Orientation is e = orientation-ok number f is e
  whole-ok number f kind.Profile is e = surface.is-ok file points was f.tolerance number (tolerable points file was number f is)
  whole-ok number f kind.CircularRunout is e = surface.is-ok file points was f.tolerance number (tolerable points file was number f is)
  whole-ok number f kind.TotalRunout is e = surface.is-ok file points was f.tolerance number (tolerable points file was number f is)
  whole-ok number f kind.Flatness is e = All-nil IsCondition
  whole-ok number f kind.Straightness is e = All-nil IsCondition
  whole-ok number f kind.Circularity is e = All-nil IsCondition
  whole-ok number f kind.Cylindricity is e = All-nil IsCondition

  lower-ok : (number : ℕ) (f : Frame) (o : Option ℕ) → slice_get file.frames number ≡ Some f → f.lower ≡ o → All IsCondition (of_lower file number o)
  lower-ok number f None is e = All-nil IsCondition
  lower-ok number f (Some t) is e =
      place.is-ok file t 1 number (points, was) (lower-placed points file was number f is t e) (lower-tolerable points file was number f is t e)

  part-ok : (number : ℕ) (f : Frame) (p : Part) → slice_get file.frames number ≡ Some f → All IsCondition (of_part file points.rows number p f)
  part-ok number f part.Whole is = whole-ok number f f.kind is refl
  part-ok number f part.Lower is = lower-ok number f f.lower is refl
  part-ok number f (part.Section group) is = All-nil IsCondition

  at-ok : (number : ℕ) (p : Part) (o : Option Frame) → slice_get file.frames number ≡ o → All IsCondition (listed_at (of_part file points.rows number p) o)
  at-ok number p None is = All-nil IsCondition
  at-ok number p (Some f) is = part-ok number f p is

  all-ok : (rs : List Requirement) → All IsCondition (flat_map (of_requirement file points.rows) rs)
  all-ok [] = All-nil IsCondition
  all-ok (r ∷ more) =
      All-append IsCondition (of_requirement file points.rows r) (flat_map (of_requirement file points.rows) more)
      (at-ok r.frame r.part (slice_get file.frames r.frame) refl) (all-ok more)

  pub group-ok : (rs : List Requirement) → All IsCondition (of_group file points.rows rs)
  group-ok rs =
      All-append IsCondition (of_words file.features file.datums points.rows (group_words file rs)) (flat_map (of_requirement file points.rows) rs)
      (words-ok file.features file.datums points.rows (length points.names) was.features was.datums (group_words file rs)) (all-ok rs)

  -- ---- points
  module _ (used : HasRows points.rows (length points.names)) where
    abbrev Seen : Condition → Type 0
    Seen = HasPoints points.rows

    whole-seen : (number t : ℕ) (k : Kind) → All Seen (of_whole file points.rows number k t)
    whole-seen number t kind.Position = place.is-seen file t 0 number points was used
    whole-seen number t kind.Orientation = place.is-seen file t 1 number points was used
    whole-seen number t kind.Profile = surface.is-seen file points was t number used
    whole-seen number t kind.CircularRunout = surface.is-seen file points was t number used
    whole-seen number t kind.TotalRunout = surface.is-seen file points was t number used
    whole-seen number t kind.Flatness = All-nil Seen
    whole-seen number t kind.Straightness = All-nil Seen
    whole-seen number t kind.Circularity = All-nil Seen
    whole-seen number t kind.Cylindricity = All-nil Seen

    lower-seen : (number : ℕ) (o : Option ℕ) → All Seen (of_lower file number o)
    lower-seen number None = All-nil Seen
    lower-seen number (Some t) = place.is-seen file t 1 number points was used

    part-seen : (number : ℕ) (p : Part) (f : Frame) → All Seen (of_part file points.rows number p f)
    part-seen number part.Whole f = whole-seen number f.tolerance f.kind
    part-seen number part.Lower f = lower-seen number f.lower
    part-seen number (part.Section group) f = All-nil Seen

    at-seen : (number : ℕ) (p : Part) (o : Option Frame) → All Seen (listed_at (of_part file points.rows number p) o)
    at-seen number p None = All-nil Seen
    at-seen number p (Some f) = part-seen number p f

    all-seen : (rs : List Requirement) → All Seen (flat_map (of_requirement file points.rows) rs)
    all-seen [] = All-nil Seen
    all-seen (r ∷ more) =
        All-append Seen (of_requirement file points.rows r) (flat_map (of_requirement file points.rows) more)
        (at-seen r.frame r.part (slice_get file.frames r.frame)) (all-seen more)

    pub group-seen : (rs : List Requirement) → All Seen (of_group file points.rows rs)
    group-seen rs =
        All-append Seen (of_words file.features file.datums points.rows (group_words file rs)) (flat_map (of_requirement file points.rows) rs)
        (words-seen points.rows (length points.names) used file.features file.datums was.features (group_words file rs)) (all-seen rs)
