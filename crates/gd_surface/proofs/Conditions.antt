-- Each condition of a profile or a runout frame is one that placements are judged by, and they are as many as are
-- counted.
use Rattle.std.proofs.Common.{◌≡◌, ◌∙◌, ap, refl, ℕ, ◌*◌, ◌≤◌, true, List, [], ◌∷◌, length, Option, Some, None, option_map, pos, arith}
use Rattle.std.specs.Prelude.{ℤ, ◌+ℤ◌, ◌-ℤ◌, neg_ℤ, slice_get, unsigned_abs, ◌≤ℤ◌, Bool, option_and_then}
use Rattle.std.specs.List.{All, sum_by}
use Rattle.std.specs.Option.{IfSome}
use Rattle.std.proofs.lemmas.Bool.{and_parts, false≢true}
use Rattle.std.proofs.lemmas.Int.{ints}
use Rattle.std.proofs.Math.Path.{fun_ext}
use Rattle.std.proofs.lemmas.Option.{none-some}
use Rattle.std.proofs.lemmas.List.{length-map}
use Rattle.std.proofs.lemmas.List.Concat.{length-flat_map}
use Rattle.std.proofs.lemmas.List.Elements.{All-append, All-cons, All-nil}
use Rattle.gd_datum.proofs.Conditions.{each, found, one, seen-each, seen-whole, surface-sized}
use Rattle.gd_datum.specs.Facts.{HasPoints}
use Rattle.gd_datum.specs.Kinds.{nominal_surface, on_all, on_group, surface_of}
use Rattle.gd_datum.specs.Listed.{listed_at}
use Rattle.gd_frames.specs.Combinations.{feature_of, fits_count, has_axis, is_allowed, may_be_axis, passes}
use Rattle.gd_frames.specs.Counts.{count_at, feature_conditions, frame_conditions}
use Rattle.gd_frames.specs.Facts.{IsFeature, IsFile, IsFrame, IsJudged, IsUpTo}
use Rattle.gd_frames.specs.Groups.{groups}
use Rattle.gd_points.specs.Table.{HasRows, Table}
use Rattle.gd_points.specs.declared.table.Row.{Row}
use Rattle.gd_surface.specs.Facts.{IsOfSurface, is_surface_kind}
use Rattle.gd_surface.specs.Kinds.{above, below, circular_runout, demand, on_points, profile, row, runout, runout_surface, total_runout}
use Rattle.gd_surface.specs.Listed.{first_datum, of_features, of_frame, of_places}
use Rattle.gd_tables.specs.Kinds.{File, Frame}
use Rattle.gd_tables.specs.declared.file.DatumDef.{DatumDef}
use Rattle.gd_tables.specs.declared.file.DatumRef.{DatumRef}
use Rattle.gd_tables.specs.declared.file.FeatureDef.{FeatureDef}
use Rattle.gd_tables.specs.declared.kind.Kind.{Kind}
use Rattle.gd_tables.specs.declared.kind.Kind.TheVariants as kind
use Rattle.gd_tables.specs.declared.kind.Shape.{Shape}
use Rattle.gd_tables.specs.declared.kind.Shape.TheVariants as shape
use Rattle.gd_vec.specs.declared.vector.V3.{V3}
use Rattle.gd_zone.specs.Conditions.{HasBounds, IsBound, IsCondition, IsPair, IsSurface}
use Rattle.gd_zone.specs.declared.condition.Condition.{Condition}

-- ---- sizes
not-below : (n : ℕ) → pos 0 ≤ℤ pos n
not-below n = omega (arith, ints)

runout-sized : (t : ℕ) → t ≤ 16000000 → HasBounds (runout t)
runout-sized t h = (not-below (2 * t), omega (arith, h))

-- a zone reaches 32,000,000 half units to a side at most
above-sized : (t : ℕ) (u : Option ℕ) → t ≤ 16000000 → IsUpTo 16000000 u → unsigned_abs (above t u) ≤ 32000000
above-sized t None h k = omega (arith, h)
above-sized t (Some u) h k = omega (arith, k)

between : (a b : ℕ) → a ≤ 32000000 → b ≤ 32000000 → unsigned_abs (pos a -ℤ pos b) ≤ 32000000
between a b h k = omega (arith, ints, h, k)

below-sized : (t : ℕ) (u : Option ℕ) → t ≤ 16000000 → IsUpTo 16000000 u → unsigned_abs (below t u) ≤ 32000000
below-sized t None h k = omega (arith, h)
below-sized t (Some u) h k =
    let twice_t : 2 * t ≤ 32000000 = omega (arith, h) in
    let twice_u : 2 * u ≤ 32000000 = omega (arith, k) in
    between (2 * t) (2 * u) twice_t twice_u

sum-sized : (z w : ℤ) → unsigned_abs z ≤ 32000000 → unsigned_abs w ≤ 32000000 → IsBound (z +ℤ w)
sum-sized z w h k = omega (arith, ints, h, k)

difference-sized : (z w : ℤ) → unsigned_abs z ≤ 32000000 → unsigned_abs w ≤ 32000000 → IsBound (z -ℤ w)
difference-sized z w h k = omega (arith, ints, h, k)

negated-sized : (z : ℤ) → unsigned_abs z ≤ 32000000 → IsBound (neg_ℤ z)
negated-sized z h = omega (arith, ints, h)

bound-sized : (z : ℤ) → unsigned_abs z ≤ 32000000 → IsBound z
bound-sized z h = omega (arith, h)

round-sized : (radius : Option ℕ) (t : ℕ) (u : Option ℕ) → IsUpTo 8000000 radius → t ≤ 16000000 → IsUpTo 16000000 u
    → IfSome (option_map (λ (r : ℕ). pos (2 * r) -ℤ below t u) radius) IsBound × IfSome (option_map (λ (r : ℕ). pos (2 * r) +ℤ above t u) radius) IsBound
round-sized None t u small h k = (tt, tt)
round-sized (Some r) t u small h k =
    let twice_r : unsigned_abs (pos (2 * r)) ≤ 32000000 = omega (arith, small) in
    (difference-sized (pos (2 * r)) (below t u) twice_r (below-sized t u h k), sum-sized (pos (2 * r)) (above t u) twice_r (above-sized t u h k))

profile-sized : (s : Shape) (def : FeatureDef) (t : ℕ) (u : Option ℕ) → IsUpTo 8000000 def.radius → t ≤ 16000000 → IsUpTo 16000000 u → HasBounds (demand kind.Profile s def t u)
profile-sized shape.Plane def t u small h k = (negated-sized (below t u) (below-sized t u h k), bound-sized (above t u) (above-sized t u h k))
profile-sized shape.Hole def t u small h k = round-sized def.radius t u small h k
profile-sized shape.Pin def t u small h k = round-sized def.radius t u small h k
profile-sized shape.Axis def t u small h k = round-sized def.radius t u small h k
profile-sized shape.Sphere def t u small h k = round-sized def.radius t u small h k

profile-pair : (s : Shape) (direction point : V3) (def : FeatureDef) (t : ℕ) (u : Option ℕ) → IsPair (surface_of s direction point) (demand kind.Profile s def t u)
profile-pair shape.Plane direction point def t u = tt
profile-pair shape.Hole direction point def t u = tt
profile-pair shape.Pin direction point def t u = tt
profile-pair shape.Axis direction point def t u = tt
profile-pair shape.Sphere direction point def t u = tt

runout-pair : (s : Shape) (d : FeatureDef) (t : ℕ) → IsPair (runout_surface d s) (runout t)
runout-pair shape.Plane d t = tt
runout-pair shape.Hole d t = tt
runout-pair shape.Pin d t = tt
runout-pair shape.Axis d t = tt
runout-pair shape.Sphere d t = tt

runout-surface-sized : (points : ℕ) (s : Shape) (d : FeatureDef) → IsFeature points d → IsSurface (runout_surface d s)
runout-surface-sized points shape.Plane d f = surface-sized shape.Plane d.direction d.point f.direction f.point
runout-surface-sized points shape.Hole d f = surface-sized shape.Hole d.direction d.point f.direction f.point
runout-surface-sized points shape.Pin d f = surface-sized shape.Hole d.direction d.point f.direction f.point
runout-surface-sized points shape.Axis d f = surface-sized shape.Hole d.direction d.point f.direction f.point
runout-surface-sized points shape.Sphere d f = surface-sized shape.Hole d.direction d.point f.direction f.point

-- ---- each is a condition
module _ (rows : List Row) (points t : ℕ) (u : Option ℕ) (h : t ≤ 16000000) (k : IsUpTo 16000000 u) where
  profile-ok : (def : FeatureDef) → IsFeature points def → All IsCondition (profile def t u)
  profile-ok def f =
      All-cons IsCondition (on_all def (demand kind.Profile def.shape def t u)) []
      (one (nominal_surface def) (demand kind.Profile def.shape def t u) def.feature None 0 (profile-pair def.shape def.direction def.point def t u)
      (surface-sized def.shape def.direction def.point f.direction f.point) (profile-sized def.shape def t u f.radius h k) (omega arith))
      (All-nil IsCondition)

  circular-ok : (def : FeatureDef) (o : Option FeatureDef) → IfSome o (IsFeature points) → All IsCondition (listed_at (λ d. circular_runout rows d def t) o)
  circular-ok def None f = All-nil IsCondition
  circular-ok def (Some d) f =
      each (runout_surface d def.shape) (runout t) def.feature (runout-pair def.shape d t) (runout-surface-sized points def.shape d f) (runout-sized t h) (groups rows def.feature)

  total-ok : (def : FeatureDef) (o : Option FeatureDef) → IfSome o (IsFeature points) → All IsCondition (listed_at (λ d. total_runout d def t) o)
  total-ok def None f = All-nil IsCondition
  total-ok def (Some d) f =
      All-cons IsCondition (on_points (runout_surface d def.shape) (runout t) def.feature) []
      (one (runout_surface d def.shape) (runout t) def.feature None 0 (runout-pair def.shape d t) (runout-surface-sized points def.shape d f) (runout-sized t h) (omega arith))
      (All-nil IsCondition)

  row-ok : (kind : Kind) (o : Option FeatureDef) (def : FeatureDef) → IfSome o (IsFeature points) → IsFeature points def → All IsCondition (row rows kind o t u def)
  row-ok kind.Profile o def d f = profile-ok def f
  row-ok kind.CircularRunout o def d f = circular-ok def o d
  row-ok kind.TotalRunout o def d f = total-ok def o d
  row-ok kind.Flatness o def d f = All-nil IsCondition
  row-ok kind.Straightness o def d f = All-nil IsCondition
  row-ok kind.Circularity o def d f = All-nil IsCondition
  row-ok kind.Cylindricity o def d f = All-nil IsCondition
  row-ok kind.Orientation o def d f = All-nil IsCondition
  row-ok kind.Position o def d f = All-nil IsCondition

  place-ok : (kind : Kind) (datum o : Option FeatureDef) → IfSome datum (IsFeature points) → IfSome o (IsFeature points) → All IsCondition (listed_at (row rows kind datum t u) o)
  place-ok kind datum None d f = All-nil IsCondition
  place-ok kind datum (Some def) d f = row-ok kind datum def d f

  places-ok : (features : List FeatureDef) (kind : Kind) (datum : Option FeatureDef) (places : List ℕ) → IfSome datum (IsFeature points) → All (IsFeature points) features
      → All IsCondition (of_places features rows kind datum t u places)
  places-ok features kind datum [] d fs = All-nil IsCondition
  places-ok features kind datum (place ∷ more) d fs =
      All-append IsCondition (listed_at (row rows kind datum t u) (slice_get features place)) (of_places features rows kind datum t u more)
      (place-ok kind datum (slice_get features place) d (found features (IsFeature points) place fs)) (places-ok features kind datum more d fs)

-- ---- points
module _ (rows : List Row) (points t : ℕ) (u : Option ℕ) (used : HasRows rows points) where
  alone-seen : (c : Condition) → HasPoints rows c → All (HasPoints rows) (c ∷ [])
  alone-seen c seen = All-cons (HasPoints rows) c [] seen (All-nil (HasPoints rows))

  profile-seen : (def : FeatureDef) → IsFeature points def → All (HasPoints rows) (profile def t u)
  profile-seen def f =
      alone-seen (on_all def (demand kind.Profile def.shape def t u)) (seen-whole (nominal_surface def) (demand kind.Profile def.shape def t u) def.feature 0 rows (used def.feature f.used))

  circular-seen : (def : FeatureDef) (o : Option FeatureDef) → All (HasPoints rows) (listed_at (λ d. circular_runout rows d def t) o)
  circular-seen def None = All-nil (HasPoints rows)
  circular-seen def (Some d) = seen-each (runout_surface d def.shape) (runout t) def.feature 0 rows

  total-seen : (def : FeatureDef) (o : Option FeatureDef) → IsFeature points def → All (HasPoints rows) (listed_at (λ d. total_runout d def t) o)
  total-seen def None f = All-nil (HasPoints rows)
  total-seen def (Some d) f =
      alone-seen (on_points (runout_surface d def.shape) (runout t) def.feature) (seen-whole (runout_surface d def.shape) (runout t) def.feature 0 rows (used def.feature f.used))

  row-seen : (kind : Kind) (o : Option FeatureDef) (def : FeatureDef) → IsFeature points def → All (HasPoints rows) (row rows kind o t u def)
  row-seen kind.Profile o def f = profile-seen def f
  row-seen kind.CircularRunout o def f = circular-seen def o
  row-seen kind.TotalRunout o def f = total-seen def o f
  row-seen kind.Flatness o def f = All-nil (HasPoints rows)
  row-seen kind.Straightness o def f = All-nil (HasPoints rows)
  row-seen kind.Circularity o def f = All-nil (HasPoints rows)
  row-seen kind.Cylindricity o def f = All-nil (HasPoints rows)
  row-seen kind.Orientation o def f = All-nil (HasPoints rows)
  row-seen kind.Position o def f = All-nil (HasPoints rows)

  place-seen : (kind : Kind) (datum o : Option FeatureDef) → IfSome o (IsFeature points) → All (HasPoints rows) (listed_at (row rows kind datum t u) o)
  place-seen kind datum None f = All-nil (HasPoints rows)
  place-seen kind datum (Some def) f = row-seen kind datum def f

  places-seen : (features : List FeatureDef) (kind : Kind) (datum : Option FeatureDef) (places : List ℕ) → All (IsFeature points) features
      → All (HasPoints rows) (of_places features rows kind datum t u places)
  places-seen features kind datum [] fs = All-nil (HasPoints rows)
  places-seen features kind datum (place ∷ more) fs =
      All-append (HasPoints rows) (listed_at (row rows kind datum t u) (slice_get features place)) (of_places features rows kind datum t u more)
      (place-seen kind datum (slice_get features place) (found features (IsFeature points) place fs)) (places-seen features kind datum more fs)

-- ---- how many
abbrev HasDatum : Kind → Option FeatureDef → Type 0
HasDatum kind.CircularRunout o = (d : FeatureDef) × (o ≡ Some d)
HasDatum kind.TotalRunout o = (d : FeatureDef) × (o ≡ Some d)
HasDatum _ o = Unit {0}

some-passes : (test : FeatureDef → Bool) (o : Option FeatureDef) → passes test o ≡ true → (d : FeatureDef) × (o ≡ Some d)
some-passes test None h = absurd (false≢true h)
some-passes test (Some d) h = (d, refl)

module _ (features : List FeatureDef) (datums : List DatumDef) where
  axis-found : (words : List DatumRef) → has_axis features datums words ≡ true → (d : FeatureDef) × (first_datum features datums words ≡ Some d)
  axis-found [] h = absurd (false≢true h)
  axis-found (w ∷ more) h = some-passes (λ (def : FeatureDef). may_be_axis def.shape) (feature_of features datums w) (and_parts _ _ h).0

  datum-found : (kind : Kind) (words : List DatumRef) → fits_count features datums kind words ≡ true → HasDatum kind (first_datum features datums words)
  datum-found kind.CircularRunout words h = axis-found words h
  datum-found kind.TotalRunout words h = axis-found words h
  datum-found kind.Profile words h = tt
  datum-found kind.Flatness words h = tt
  datum-found kind.Straightness words h = tt
  datum-found kind.Circularity words h = tt
  datum-found kind.Cylindricity words h = tt
  datum-found kind.Orientation words h = tt
  datum-found kind.Position words h = tt

  has-datum : (f : Frame) → is_allowed features datums f ≡ true → HasDatum f.kind (first_datum features datums f.datums)
  has-datum f h =
      let a = and_parts _ _ h in
      let b = and_parts _ _ a.0 in
      let c = and_parts _ _ b.0 in
      datum-found f.kind f.datums c.1

module _ (rows : List Row) (t : ℕ) (u : Option ℕ) where
  circular-length : (def : FeatureDef) (o : Option FeatureDef) (d : FeatureDef) → o ≡ Some d → length (listed_at (λ d. circular_runout rows d def t) o) ≡ length (groups rows def.feature)
  circular-length def None d e = absurd (none-some d e)
  circular-length def (Some x) d e = length-map (groups rows def.feature) (on_group (runout_surface x def.shape) (runout t) def.feature)

  total-length : (def : FeatureDef) (o : Option FeatureDef) (d : FeatureDef) → o ≡ Some d → length (listed_at (λ d. total_runout d def t) o) ≡ 1
  total-length def None d e = absurd (none-some d e)
  total-length def (Some x) d e = refl

  row-length : (kind : Kind) (o : Option FeatureDef) (def : FeatureDef) → is_surface_kind kind ≡ true → HasDatum kind o → length (row rows kind o t u def) ≡ feature_conditions rows kind def
  row-length kind.Profile o def h has = refl
  row-length kind.CircularRunout o def h has = circular-length def o has.0 has.1
  row-length kind.TotalRunout o def h has = total-length def o has.0 has.1
  row-length kind.Flatness o def h has = absurd (false≢true h)
  row-length kind.Straightness o def h has = absurd (false≢true h)
  row-length kind.Circularity o def h has = absurd (false≢true h)
  row-length kind.Cylindricity o def h has = absurd (false≢true h)
  row-length kind.Orientation o def h has = absurd (false≢true h)
  row-length kind.Position o def h has = absurd (false≢true h)

  place-length : (kind : Kind) (datum o : Option FeatureDef) → is_surface_kind kind ≡ true → HasDatum kind datum
      → length (listed_at (row rows kind datum t u) o) ≡ count_at (feature_conditions rows kind) o
  place-length kind datum None h has = refl
  place-length kind datum (Some def) h has = row-length kind datum def h has

  places-length : (features : List FeatureDef) (kind : Kind) (datum : Option FeatureDef) (places : List ℕ) → is_surface_kind kind ≡ true → HasDatum kind datum
      → length (of_places features rows kind datum t u places) ≡ sum_by (λ place. count_at (feature_conditions rows kind) (slice_get features place)) places
  places-length features kind datum places h has =
      length-flat_map (λ (place : ℕ). listed_at (row rows kind datum t u) (slice_get features place)) places
      ∙ ap (λ g. sum_by g places) (fun_ext (λ (place : ℕ). place-length kind datum (slice_get features place) h has))

-- ---- a frame by its place
datum-is : (features : List FeatureDef) (datums : List DatumDef) (points : ℕ) → All (IsFeature points) features → (words : List DatumRef) → IfSome (first_datum features datums words) (IsFeature points)
datum-is features datums points fs [] = tt
datum-is features datums points fs (w ∷ more) = of-datum (slice_get datums w.datum)
  where
    of-datum : (o : Option DatumDef) → IfSome (option_and_then (λ (d : DatumDef). slice_get features d.feature) o) (IsFeature points)
    of-datum None = tt
    of-datum (Some d) = found features (IsFeature points) d.feature fs

up-to : (a b : ℕ) (o : Option ℕ) → a ≤ b → IsUpTo a o → IsUpTo b o
up-to a b None h k = tt
up-to a b (Some n) h k = omega (arith, h, k)

module _ (file : File) (points : Table) (was : IsFile points file) (t : ℕ) where
  abbrev Listed : Option Frame → List Condition
  Listed o = listed_at (of_features file.features file.datums points.rows t) o

  frame-ok : (o : Option Frame) → t ≤ 16000000 → IfSome o (IsFrame (length file.features) (length file.datums)) → All IsCondition (Listed o)
  frame-ok None h f = All-nil IsCondition
  frame-ok (Some f) h is =
      places-ok points.rows (length points.names) t f.above h (up-to f.tolerance 16000000 f.above is.tolerance is.above) file.features f.kind
      (first_datum file.features file.datums f.datums) f.features (datum-is file.features file.datums (length points.names) was.features f.datums) was.features

  frame-seen : (o : Option Frame) → HasRows points.rows (length points.names) → All (HasPoints points.rows) (Listed o)
  frame-seen None used = All-nil (HasPoints points.rows)
  frame-seen (Some f) used =
      places-seen points.rows (length points.names) t f.above used file.features f.kind (first_datum file.features file.datums f.datums) f.features was.features

  frame-length : (o : Option Frame) → IfSome o (λ (f : Frame). is_surface_kind f.kind ≡ true) → IfSome o (IsJudged file.features file.datums points.rows)
      → length (Listed o) ≡ count_at (frame_conditions file.features points.rows) o
  frame-length None h j = refl
  frame-length (Some f) h j =
      places-length points.rows t f.above file.features f.kind (first_datum file.features file.datums f.datums) f.features h (has-datum file.features file.datums f j.allowed)

  pub is-ok : (number : ℕ) → t ≤ 16000000 → All IsCondition (of_frame file points.rows number t)
  is-ok number h = frame-ok (slice_get file.frames number) h (found file.frames (IsFrame (length file.features) (length file.datums)) number was.frames)

  pub is-seen : (number : ℕ) → HasRows points.rows (length points.names) → All (HasPoints points.rows) (of_frame file points.rows number t)
  is-seen number used = frame-seen (slice_get file.frames number) used

  pub is-long : (number : ℕ) → IsOfSurface file number → length (of_frame file points.rows number t) ≡ count_at (frame_conditions file.features points.rows) (slice_get file.frames number)
  is-long number kinds =
      frame-length (slice_get file.frames number) kinds (found file.frames (IsJudged file.features file.datums points.rows) number was.judged)
