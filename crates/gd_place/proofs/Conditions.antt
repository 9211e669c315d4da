-- Each condition of a position or an orientation frame is one that placements are judged by, and there is one a
-- feature.
use Rattle.std.proofs.Common.{◌≡◌, refl, sym, subst, ℕ, ◌+◌, ◌*◌, ◌≤◌, true, List, [], ◌∷◌, length, Option, Some, None, pos, arith}
use Rattle.std.specs.Prelude.{◌-ℤ◌, slice_get, ◌≤ℤ◌}
use Rattle.std.specs.List.{All, sum_by}
use Rattle.std.specs.Option.{IfSome}
use Rattle.std.proofs.lemmas.Bool.{false≢true}
use Rattle.std.proofs.lemmas.Int.{ints}
use Rattle.std.proofs.lemmas.List.{length-append}
use Rattle.std.proofs.lemmas.List.Elements.{All-append, All-cons, All-nil}
use Rattle.std.proofs.lemmas.List.Sums.{sum_by-cons}
use Rattle.gd_datum.proofs.Conditions.{found, one, seen-whole, surface-sized}
use Rattle.gd_datum.specs.Facts.{HasPoints}
use Rattle.gd_datum.specs.Kinds.{nominal_surface, surface_of}
use Rattle.gd_datum.specs.Listed.{listed_at}
use Rattle.gd_frames.specs.Counts.{count_at, feature_conditions, feature_offsets, frame_conditions, frame_offsets}
use Rattle.gd_frames.specs.Facts.{IsFeature, IsFile}
use Rattle.gd_place.specs.Facts.{IsPlaced, WasRead, is_placed}
use Rattle.gd_place.specs.Kinds.{demand, less_tolerance, on_feature, own_offset, with_tolerance}
use Rattle.gd_place.specs.Listed.{of_feature, of_features, of_frame, of_places, offsets_at}
use Rattle.gd_points.specs.Table.{HasRows, Table}
use Rattle.gd_points.specs.declared.table.Row.{Row}
use Rattle.gd_tables.specs.Kinds.{File, Frame}
use Rattle.gd_tables.specs.declared.file.FeatureDef.{FeatureDef}
use Rattle.gd_tables.specs.declared.kind.Kind.{Kind}
use Rattle.gd_tables.specs.declared.kind.Kind.TheVariants as kind
use Rattle.gd_tables.specs.declared.kind.Material.{Material}
use Rattle.gd_tables.specs.declared.kind.Material.TheVariants as material
use Rattle.gd_tables.specs.declared.kind.Shape.{Shape}
use Rattle.gd_tables.specs.declared.kind.Shape.TheVariants as shape
use Rattle.gd_vec.specs.declared.vector.V3.{V3}
use Rattle.gd_zone.specs.Conditions.{HasBounds, IsBound, IsCondition, IsPair}
use Rattle.gd_zone.specs.declared.condition.Demand.TheVariants.{Spread}

-- ---- sizes
with-sized : (t : ℕ) (o : Option ℕ) → t ≤ 16000000 → IfSome o (λ n. n ≤ 16000000) → IfSome (with_tolerance t o) IsBound
with-sized t None h k = tt
with-sized t (Some d) h k = omega (arith, h, k)

abs-difference : (a b : ℕ) → a ≤ 16000000 → b ≤ 16000000 → IsBound (pos a -ℤ pos b)
abs-difference a b h k = omega (arith, ints, h, k)

less-sized : (t : ℕ) (o : Option ℕ) → t ≤ 16000000 → IfSome o (λ n. n ≤ 16000000) → IfSome (less_tolerance t o) IsBound
less-sized t None h k = tt
less-sized t (Some d) h k = abs-difference d t k h

spread-sized : (t : ℕ) → t ≤ 16000000 → HasBounds (Spread (pos (2 * t)))
spread-sized t h = (not-below (2 * t), omega (arith, h))
  where
    not-below : (n : ℕ) → pos 0 ≤ℤ pos n
    not-below n = omega (arith, ints)

-- ---- the demand of each row
demand-sized : (points : ℕ) (m : Material) (s : Shape) (def : FeatureDef) (t : ℕ) → IsFeature points def → t ≤ 16000000 → HasBounds (demand m s def t)
demand-sized points material.Rfs shape.Plane def t f h = spread-sized t h
demand-sized points material.Rfs shape.Hole def t f h = (tt, omega (arith, h))
demand-sized points material.Rfs shape.Pin def t f h = (tt, omega (arith, h))
demand-sized points material.Rfs shape.Axis def t f h = (tt, omega (arith, h))
demand-sized points material.Rfs shape.Sphere def t f h = (tt, omega (arith, h))
demand-sized points material.Mmc shape.Hole def t f h = (less-sized t def.mmc h f.mmc, tt)
demand-sized points material.Mmc shape.Plane def t f h = (tt, with-sized t def.mmc h f.mmc)
demand-sized points material.Mmc shape.Pin def t f h = (tt, with-sized t def.mmc h f.mmc)
demand-sized points material.Mmc shape.Axis def t f h = (tt, with-sized t def.mmc h f.mmc)
demand-sized points material.Mmc shape.Sphere def t f h = (tt, with-sized t def.mmc h f.mmc)
demand-sized points material.Lmc shape.Hole def t f h = (tt, with-sized t def.lmc h f.lmc)
demand-sized points material.Lmc shape.Plane def t f h = (less-sized t def.lmc h f.lmc, tt)
demand-sized points material.Lmc shape.Pin def t f h = (less-sized t def.lmc h f.lmc, tt)
demand-sized points material.Lmc shape.Axis def t f h = (less-sized t def.lmc h f.lmc, tt)
demand-sized points material.Lmc shape.Sphere def t f h = (less-sized t def.lmc h f.lmc, tt)

demand-pair : (m : Material) (s : Shape) (direction point : V3) (def : FeatureDef) (t : ℕ) → IsPair (surface_of s direction point) (demand m s def t)
demand-pair material.Rfs shape.Plane direction point def t = tt
demand-pair material.Rfs shape.Hole direction point def t = tt
demand-pair material.Rfs shape.Pin direction point def t = tt
demand-pair material.Rfs shape.Axis direction point def t = tt
demand-pair material.Rfs shape.Sphere direction point def t = tt
demand-pair material.Mmc shape.Hole direction point def t = tt
demand-pair material.Mmc shape.Plane direction point def t = tt
demand-pair material.Mmc shape.Pin direction point def t = tt
demand-pair material.Mmc shape.Axis direction point def t = tt
demand-pair material.Mmc shape.Sphere direction point def t = tt
demand-pair material.Lmc shape.Hole direction point def t = tt
demand-pair material.Lmc shape.Plane direction point def t = tt
demand-pair material.Lmc shape.Pin direction point def t = tt
demand-pair material.Lmc shape.Axis direction point def t = tt
demand-pair material.Lmc shape.Sphere direction point def t = tt

-- ---- offsets
-- the features before have left an offset, or the next ones take none but those that the limit leaves
abbrev HasRoom : Kind → ℕ → Type 0
HasRoom kind.Orientation offset = Unit {0}
HasRoom _ offset = offset ≤ 2

room : (k : Kind) (offset : ℕ) → offset ≤ 2 → HasRoom k offset
room kind.Orientation offset h = tt
room kind.Flatness offset h = h
room kind.Straightness offset h = h
room kind.Circularity offset h = h
room kind.Cylindricity offset h = h
room kind.Position offset h = h
room kind.Profile offset h = h
room kind.CircularRunout offset h = h
room kind.TotalRunout offset h = h

-- a feature's own offset passes no limit that leaves room for the offsets that it takes
own-few : (k : Kind) (s : Shape) (offset : ℕ) → HasRoom k offset → offset + feature_offsets k s ≤ 3 → own_offset k s offset ≤ 2
own-few kind.Orientation shape.Plane offset h few = omega arith
own-few kind.Orientation shape.Hole offset h few = omega (arith, few)
own-few kind.Orientation shape.Pin offset h few = omega (arith, few)
own-few kind.Orientation shape.Axis offset h few = omega (arith, few)
own-few kind.Orientation shape.Sphere offset h few = omega (arith, few)
own-few kind.Flatness s offset h few = h
own-few kind.Straightness s offset h few = h
own-few kind.Circularity s offset h few = h
own-few kind.Cylindricity s offset h few = h
own-few kind.Position s offset h few = h
own-few kind.Profile s offset h few = h
own-few kind.CircularRunout s offset h few = h
own-few kind.TotalRunout s offset h few = h

-- and there is room behind it
stays : (offset : ℕ) → offset ≤ 2 → offset + 0 ≤ 2
stays offset h = omega (arith, h)

room-after : (k : Kind) (s : Shape) (offset : ℕ) → HasRoom k offset → HasRoom k (offset + feature_offsets k s)
room-after kind.Orientation s offset h = tt
room-after kind.Flatness s offset h = stays offset h
room-after kind.Straightness s offset h = stays offset h
room-after kind.Circularity s offset h = stays offset h
room-after kind.Cylindricity s offset h = stays offset h
room-after kind.Position s offset h = stays offset h
room-after kind.Profile s offset h = stays offset h
room-after kind.CircularRunout s offset h = stays offset h
room-after kind.TotalRunout s offset h = stays offset h

room-past : (k : Kind) (offset : ℕ) → HasRoom k offset → HasRoom k (offset + 0)
room-past k offset h =
    let same : offset ≡ offset + 0 = omega arith in
    subst (HasRoom k) same h

room-at : (k : Kind) (offset : ℕ) (o : Option FeatureDef) → HasRoom k offset → HasRoom k (offset + count_at (λ (def : FeatureDef). feature_offsets k def.shape) o)
room-at k offset None h = room-past k offset h
room-at k offset (Some def) h = room-after k def.shape offset h

module _ (features : List FeatureDef) (k : Kind) (m : Material) (t : ℕ) where
  feature-ok : (points offset : ℕ) (o : Option FeatureDef) → IfSome o (IsFeature points) → t ≤ 16000000 → HasRoom k offset
      → offset + count_at (λ (def : FeatureDef). feature_offsets k def.shape) o ≤ 3 → All IsCondition (listed_at (of_feature k m t offset) o)
  feature-ok points offset None f h free few = All-nil IsCondition
  feature-ok points offset (Some def) f h free few =
      All-cons IsCondition (on_feature def (demand m def.shape def t) (own_offset k def.shape offset)) []
      (one (nominal_surface def) (demand m def.shape def t) def.feature None (own_offset k def.shape offset) (demand-pair m def.shape def.direction def.point def t)
      (surface-sized def.shape def.direction def.point f.direction f.point) (demand-sized points m def.shape def t f h) (own-few k def.shape offset free few))
      (All-nil IsCondition)

  pub places-ok : (points offset : ℕ) (places : List ℕ) → All (IsFeature points) features → t ≤ 16000000 → HasRoom k offset
      → offset + sum_by (offsets_at features k) places ≤ 3 → All IsCondition (of_places features k m t offset places)
  places-ok points offset [] fs h free few = All-nil IsCondition
  places-ok points offset (place ∷ more) fs h free few =
      let sum = sum_by-cons (offsets_at features k) place more in
      let rest : (offset + offsets_at features k place) + sum_by (offsets_at features k) more ≤ 3 = omega (arith, sum, few) in
      let here : offset + offsets_at features k place ≤ 3 = omega (arith, sum, few) in
      All-append IsCondition (listed_at (of_feature k m t offset) (slice_get features place)) (of_places features k m t (offset + offsets_at features k place) more)
      (feature-ok points offset (slice_get features place) (found features (IsFeature points) place fs) h free here)
      (places-ok points (offset + offsets_at features k place) more fs h (room-at k offset (slice_get features place) free) rest)

  -- ---- points
  feature-seen : (rows : List Row) (points offset : ℕ) → HasRows rows points → (o : Option FeatureDef) → IfSome o (IsFeature points) → All (HasPoints rows) (listed_at (of_feature k m t offset) o)
  feature-seen rows points offset used None f = All-nil (HasPoints rows)
  feature-seen rows points offset used (Some def) f =
      All-cons (HasPoints rows) (on_feature def (demand m def.shape def t) (own_offset k def.shape offset)) []
      (seen-whole (nominal_surface def) (demand m def.shape def t) def.feature (own_offset k def.shape offset) rows (used def.feature f.used)) (All-nil (HasPoints rows))

  pub places-seen : (rows : List Row) (points offset : ℕ) → HasRows rows points → (places : List ℕ) → All (IsFeature points) features → All (HasPoints rows) (of_places features k m t offset places)
  places-seen rows points offset used [] fs = All-nil (HasPoints rows)
  places-seen rows points offset used (place ∷ more) fs =
      All-append (HasPoints rows) (listed_at (of_feature k m t offset) (slice_get features place)) (of_places features k m t (offset + offsets_at features k place) more)
      (feature-seen rows points offset used (slice_get features place) (found features (IsFeature points) place fs))
      (places-seen rows points (offset + offsets_at features k place) used more fs)

  -- ---- how many
  one-each : (kind : Kind) → is_placed kind ≡ true → (rows : List Row) (def : FeatureDef) → feature_conditions rows kind def ≡ 1
  one-each kind.Position h rows def = refl
  one-each kind.Orientation h rows def = refl
  one-each kind.Flatness h rows def = absurd (false≢true h)
  one-each kind.Straightness h rows def = absurd (false≢true h)
  one-each kind.Circularity h rows def = absurd (false≢true h)
  one-each kind.Cylindricity h rows def = absurd (false≢true h)
  one-each kind.Profile h rows def = absurd (false≢true h)
  one-each kind.CircularRunout h rows def = absurd (false≢true h)
  one-each kind.TotalRunout h rows def = absurd (false≢true h)

  feature-length : (rows : List Row) (offset : ℕ) → is_placed k ≡ true → (o : Option FeatureDef) → length (listed_at (of_feature k m t offset) o) ≡ count_at (feature_conditions rows k) o
  feature-length rows offset h None = refl
  feature-length rows offset h (Some def) = sym (one-each k h rows def)

  pub places-length : (rows : List Row) (offset : ℕ) (places : List ℕ) → is_placed k ≡ true
      → length (of_places features k m t offset places) ≡ sum_by (λ place. count_at (feature_conditions rows k) (slice_get features place)) places
  places-length rows offset [] h = refl
  places-length rows offset (place ∷ more) h =
      let sum = sum_by-cons (λ (p : ℕ). count_at (feature_conditions rows k) (slice_get features p)) place more in
      let here = feature-length rows offset h (slice_get features place) in
      let rest = places-length rows (offset + offsets_at features k place) more h in
      let both = length-append (listed_at (of_feature k m t offset) (slice_get features place)) (of_places features k m t (offset + offsets_at features k place) more) in
      omega (arith, sum, here, rest, both)

-- ---- a frame by its place
module _ (file : File) (t offset : ℕ) where
  frame-ok : (points : ℕ) (o : Option Frame) → All (IsFeature points) file.features → t ≤ 16000000 → offset ≤ 2
      → IfSome o (λ (f : Frame). offset + frame_offsets file.features f ≤ 3) → All IsCondition (listed_at (of_features file.features t offset) o)
  frame-ok points None fs h low few = All-nil IsCondition
  frame-ok points (Some f) fs h low few = places-ok file.features f.kind f.material t points offset f.features fs h (room f.kind offset low) few

  frame-seen : (rows : List Row) (points : ℕ) (o : Option Frame) → HasRows rows points → All (IsFeature points) file.features → All (HasPoints rows) (listed_at (of_features file.features t offset) o)
  frame-seen rows points None used fs = All-nil (HasPoints rows)
  frame-seen rows points (Some f) used fs = places-seen file.features f.kind f.material t rows points offset used f.features fs

  frame-length : (rows : List Row) (o : Option Frame) → IfSome o (λ (f : Frame). is_placed f.kind ≡ true)
      → length (listed_at (of_features file.features t offset) o) ≡ count_at (frame_conditions file.features rows) o
  frame-length rows None h = refl
  frame-length rows (Some f) h = places-length file.features f.kind f.material t rows offset f.features h

  pub is-ok : (number : ℕ) → WasRead file → IsPlaced file number offset → t ≤ 16000000 → All IsCondition (of_frame file number t offset)
  is-ok number was placed h = frame-ok (length was.0.names) (slice_get file.frames number) was.1.features h placed.few placed.offsets

  pub is-seen : (number : ℕ) (points : Table) → IsFile points file → HasRows points.rows (length points.names) → All (HasPoints points.rows) (of_frame file number t offset)
  is-seen number points was used = frame-seen points.rows (length points.names) (slice_get file.frames number) used was.features

  pub is-long : (number : ℕ) → IsPlaced file number offset → (rows : List Row) → length (of_frame file number t offset) ≡ count_at (frame_conditions file.features rows) (slice_get file.frames number)
  is-long number placed rows = frame-length rows (slice_get file.frames number) placed.of_kind
