-- Each condition that a datum word stands for is one that placements are judged by, and they are as many as are
-- counted.
use Rattle.std.proofs.Common.{◌≡◌, ◌∙◌, ap, refl, sym, subst, ℕ, ◌-◌, ◌*◌, ◌≤◌, Bool, true, false, List, [], ◌∷◌, length, map, Option, Some, None, option_map, pos, get_or, inl, inr, arith}
use Rattle.std.specs.Prelude.{slice_get, ◌^◌, ◌≤ℤ◌}
use Rattle.std.specs.List.{All, Any, filter, sum_by}
use Rattle.std.specs.Option.{IfSome}
use Rattle.std.proofs.Math.Path.{fun_ext}
use Rattle.std.proofs.lemmas.Int.{ints}
use Rattle.std.proofs.lemmas.List.{length-map}
use Rattle.std.proofs.lemmas.List.Elements.{All-append, All-cons, All-map, All-nil, filter_passes}
use Rattle.std.proofs.lemmas.List.Folds.{Any-from_list_any}
use Rattle.std.proofs.lemmas.Bool.{eq-eqb}
use Rattle.std.proofs.lemmas.Option.{slice_get_cases}
use Rattle.std.proofs.lemmas.List.Concat.{length-flat_map}
use Rattle.gd_datum.specs.Kinds.{nominal_surface, on_all, on_each, on_group, row, surface_of}
use Rattle.gd_datum.specs.Listed.{listed_at, of_datum, of_word, of_words}
use Rattle.gd_frames.specs.Counts.{words_conditions}
use Rattle.gd_frames.specs.Counts as counts
use Rattle.gd_frames.specs.Groups.{contact_groups, groups_from, has_group, is_of, numbers_from}
use Rattle.gd_datum.specs.Facts.{HasPoints}
use Rattle.gd_points.specs.Table.{HasRows}
use Rattle.gd_frames.specs.Combinations.{feature_of}
use Rattle.gd_frames.specs.Facts.{IsDatum, IsFeature}
use Rattle.gd_vec.specs.Vector.{IsWithin}
use Rattle.gd_vec.specs.declared.vector.V3.{V3}
use Rattle.gd_zone.specs.Conditions.{HasBounds, IsBound, IsCondition, IsPair, IsSurface}
use Rattle.gd_zone.specs.declared.condition.Demand.{Demand}
use Rattle.gd_zone.specs.declared.condition.Demand.TheVariants.{Within, Contact, HugInner, HugOuter}
use Rattle.gd_zone.specs.declared.condition.Surface.{Surface}
use Rattle.gd_points.specs.declared.table.Row.{Row}
use Rattle.gd_tables.specs.declared.file.DatumDef.{DatumDef}
use Rattle.gd_tables.specs.declared.file.DatumRef.{DatumRef}
use Rattle.gd_tables.specs.declared.file.FeatureDef.{FeatureDef}
use Rattle.gd_tables.specs.declared.kind.Shape.{Shape}
use Rattle.gd_tables.specs.declared.kind.Shape.TheVariants as shape

-- ---- sizes
wider : (m n : ℕ) (v : V3) → m ≤ n → IsWithin m v → IsWithin n v
wider m n v h is = record { x = omega (arith, h, is.x); y = omega (arith, h, is.y); z = omega (arith, h, is.z) }

pub surface-sized : (s : Shape) (direction point : V3) → IsWithin 1000 direction → IsWithin 8000000 point → IsSurface (surface_of s direction point)
surface-sized s direction point d p =
    let along : IsWithin (2 ^ 10) direction = wider 1000 (2 ^ 10) direction (omega arith) d in
    let at : IsWithin (2 ^ 26) point = wider 8000000 (2 ^ 26) point (omega arith) p in
    by-shape s direction point along at
  where
    by-shape : (s : Shape) (direction point : V3) → IsWithin (2 ^ 10) direction → IsWithin (2 ^ 26) point → IsSurface (surface_of s direction point)
    by-shape shape.Plane direction point along at = (along, at)
    by-shape shape.Hole direction point along at = (along, at)
    by-shape shape.Pin direction point along at = (along, at)
    by-shape shape.Axis direction point along at = (along, at)
    by-shape shape.Sphere direction point along at = at

slack-sized : (slack : ℕ) → slack ≤ 10000 → IsBound (pos (2 * slack))
slack-sized slack h = omega (arith, h)

not-below : (n : ℕ) → pos 0 ≤ℤ pos n
not-below n = omega (arith, ints)

pub bound-sized : (o : Option ℕ) → IfSome o (λ n. n ≤ 16000000) → IfSome (option_map pos o) IsBound
bound-sized None h = tt
bound-sized (Some n) h = omega (arith, h)

-- what stands at a place is as all are
pub found : {A : Type 0} (xs : List A) (P : A → Type 0) (i : ℕ) → All P xs → IfSome (slice_get xs i) P
found xs P i all = elim ((slice_get_cases xs i).1) [
  | inl (x, within, is, same) ↦ rw is (subst P same (all i x within))
  | inr (past, none) ↦ rw none tt
]

-- ---- conditions
pub one : (s : Surface) (d : Demand) (feature : ℕ) (group : Option ℕ) (offset : ℕ) → IsPair s d → IsSurface s → HasBounds d → offset ≤ 2
    → IsCondition (record { surface = s; demand = d; feature = feature; group = group; offset = offset })
one s d feature group offset pair sized bounds few = record { pair = pair; surface = sized; bounds = bounds; offset = few }

pub each : (s : Surface) (d : Demand) (feature : ℕ) → IsPair s d → IsSurface s → HasBounds d → (groups : List ℕ) → All IsCondition (map (on_group s d feature) groups)
each s d feature pair sized bounds groups =
    All-map IsCondition (on_group s d feature) groups (λ i e h. one s d feature (Some (get_or groups i e)) 0 pair sized bounds (omega arith))

pub pair-by : (def : FeatureDef) (s : Shape) → def.shape ≡ s → (d : Demand) → IsPair (surface_of s def.direction def.point) d → IsPair (nominal_surface def) d
pair-by def s is d ok = subst (λ t. IsPair (surface_of t def.direction def.point) d) (sym is) ok

row-ok : (points : ℕ) (of_features : ℕ) (s : Shape) (at_mmb : Bool) (contacts : List ℕ) (def : FeatureDef) (d : DatumDef) → def.shape ≡ s → IsFeature points def → IsDatum of_features d
    → All IsCondition (row s at_mmb contacts def d)
row-ok points n s at_mmb contacts def d is f g =
    go s at_mmb is
  where
    sized : IsSurface (nominal_surface def)
    sized = surface-sized def.shape def.direction def.point f.direction f.point

    whole : (t : Demand) → IsPair (nominal_surface def) t → HasBounds t → IsCondition (on_all def t)
    whole t pair bounds = one (nominal_surface def) t def.feature None 0 pair sized bounds (omega arith)

    slack : IsBound (pos (2 * d.slack))
    slack = slack-sized d.slack g.slack

    up : pos 0 ≤ℤ pos (2 * d.slack)
    up = not-below (2 * d.slack)

    touching : (t : Demand) → IsPair (nominal_surface def) t → HasBounds t → All IsCondition (on_each def t contacts)
    touching t pair bounds = each (nominal_surface def) t def.feature pair sized bounds contacts

    alone : (t : Demand) → IsPair (nominal_surface def) t → HasBounds t → All IsCondition (on_all def t ∷ [])
    alone t pair bounds = All-cons IsCondition (on_all def t) [] (whole t pair bounds) (All-nil IsCondition)

    go : (s : Shape) (at_mmb : Bool) → def.shape ≡ s → All IsCondition (row s at_mmb contacts def d)
    go shape.Plane at_mmb is =
        let above = whole (Within (Some (pos 0)) None) (pair-by def shape.Plane is (Within (Some (pos 0)) None) tt) (omega arith, tt) in
        let near = touching (Contact (pos (2 * d.slack))) (pair-by def shape.Plane is (Contact (pos (2 * d.slack))) tt) slack in
        All-cons IsCondition (on_all def (Within (Some (pos 0)) None)) (on_each def (Contact (pos (2 * d.slack))) contacts) above near
    go shape.Hole false is = touching (HugInner (pos (2 * d.slack))) (pair-by def shape.Hole is (HugInner (pos (2 * d.slack))) tt) (up, slack)
    go shape.Hole true is = alone (Within (option_map pos d.boundary) None) (pair-by def shape.Hole is (Within (option_map pos d.boundary) None) tt) (bound-sized d.boundary g.boundary, tt)
    go shape.Pin false is = touching (HugOuter (pos (2 * d.slack))) (pair-by def shape.Pin is (HugOuter (pos (2 * d.slack))) tt) (up, slack)
    go shape.Pin true is = alone (Within None (option_map pos d.boundary)) (pair-by def shape.Pin is (Within None (option_map pos d.boundary)) tt) (tt, bound-sized d.boundary g.boundary)
    go shape.Axis at_mmb is = All-nil IsCondition
    go shape.Sphere at_mmb is = All-nil IsCondition

-- ---- how many
row-length : (s : Shape) (at_mmb : Bool) (contacts : List ℕ) (def : FeatureDef) (d : DatumDef) → length (row s at_mmb contacts def d) ≡ counts.by_shape s at_mmb (length contacts)
row-length shape.Plane at_mmb contacts def d = let n = length-map contacts (on_group (nominal_surface def) (Contact (pos (2 * d.slack))) def.feature) in omega (arith, n)
row-length shape.Hole false contacts def d = length-map contacts (on_group (nominal_surface def) (HugInner (pos (2 * d.slack))) def.feature)
row-length shape.Hole true contacts def d = refl
row-length shape.Pin false contacts def d = length-map contacts (on_group (nominal_surface def) (HugOuter (pos (2 * d.slack))) def.feature)
row-length shape.Pin true contacts def d = refl
row-length shape.Axis at_mmb contacts def d = refl
row-length shape.Sphere at_mmb contacts def d = refl

module _ (features : List FeatureDef) (datums : List DatumDef) (rows : List Row) where
  -- ---- each is a condition
  datum-ok : (points : ℕ) (at_mmb : Bool) (d : DatumDef) (o : Option FeatureDef) → IfSome o (IsFeature points) → IsDatum (length features) d
      → All IsCondition (listed_at (λ (def : FeatureDef). row def.shape at_mmb (contact_groups rows def.feature) def d) o)
  datum-ok points at_mmb d None f g = All-nil IsCondition
  datum-ok points at_mmb d (Some def) f g = row-ok points (length features) def.shape at_mmb (contact_groups rows def.feature) def d refl f g

  word-ok : (points : ℕ) (w : DatumRef) (o : Option DatumDef) → All (IsFeature points) features → IfSome o (IsDatum (length features))
      → All IsCondition (listed_at (of_datum features rows w.at_mmb) o)
  word-ok points w None fs g = All-nil IsCondition
  word-ok points w (Some d) fs g = datum-ok points w.at_mmb d (slice_get features d.feature) (found features (IsFeature points) d.feature fs) g

  pub words-ok : (points : ℕ) → All (IsFeature points) features → All (IsDatum (length features)) datums → (words : List DatumRef) → All IsCondition (of_words features datums rows words)
  words-ok points fs ds [] = All-nil IsCondition
  words-ok points fs ds (w ∷ words) =
      All-append IsCondition (of_word features datums rows w) (of_words features datums rows words)
      (word-ok points w (slice_get datums w.datum) fs (found datums (IsDatum (length features)) w.datum ds)) (words-ok points fs ds words)

  datum-length : (at_mmb : Bool) (d : DatumDef) (o : Option FeatureDef)
      → length (listed_at (λ (def : FeatureDef). row def.shape at_mmb (contact_groups rows def.feature) def d) o) ≡ counts.count_at (counts.datum_conditions rows at_mmb) o
  datum-length at_mmb d None = refl
  datum-length at_mmb d (Some def) = row-length def.shape at_mmb (contact_groups rows def.feature) def d

  word-length : (w : DatumRef) (o : Option DatumDef) → slice_get datums w.datum ≡ o
      → length (of_word features datums rows w) ≡ counts.count_at (counts.datum_conditions rows w.at_mmb) (feature_of features datums w)
  word-length w None is = rw is refl
  word-length w (Some d) is = rw is (datum-length w.at_mmb d (slice_get features d.feature))

  pub words-length : (words : List DatumRef) → length (of_words features datums rows words) ≡ words_conditions features datums rows words
  words-length words = length-flat_map (of_word features datums rows) words ∙ ap (λ f. sum_by f words) (fun_ext (λ (w : DatumRef). word-length w (slice_get datums w.datum) refl))

-- ---- points of a condition
weaker : (P Q : Row → Type 0) → ((row : Row) → P row → Q row) → (rows : List Row) → Any P rows → Any Q rows
weaker P Q f rows a = (a.0, a.1, a.2, a.3, f a.1 a.4)

pub seen-whole : (s : Surface) (t : Demand) (feature offset : ℕ) (rows : List Row) → Any (λ (row : Row). row.feature ≡ feature) rows
    → HasPoints rows (record { surface = s; demand = t; feature = feature; group = None; offset = offset })
seen-whole s t feature offset rows some =
    weaker (λ (row : Row). row.feature ≡ feature) _ (λ row is. rw (eq-eqb row.feature feature is) refl) rows some

pub seen-group : (s : Surface) (t : Demand) (feature group : ℕ) (rows : List Row) → has_group rows feature group ≡ true → HasPoints rows (on_group s t feature group)
seen-group s t feature group rows has = Any-from_list_any (is_of feature group) rows has

pub seen-each : (s : Surface) (t : Demand) (feature first : ℕ) (rows : List Row) → All (HasPoints rows) (map (on_group s t feature) (groups_from first rows feature))
unfolding groups_from
seen-each s t feature first rows =
    let ns : List ℕ = filter (has_group rows feature) (numbers_from first (1000 - first)) in
    All-map (HasPoints rows) (on_group s t feature) ns (λ i e h. seen-group s t feature (get_or ns i e) rows (filter_passes (has_group rows feature) (numbers_from first (1000 - first)) i e h))

module _ (rows : List Row) (points : ℕ) (used : HasRows rows points) where
  seen-all : (def : FeatureDef) (t : Demand) → IsFeature points def → HasPoints rows (on_all def t)
  seen-all def t f = seen-whole (nominal_surface def) t def.feature 0 rows (used def.feature f.used)

  seen-alone : (def : FeatureDef) (t : Demand) → IsFeature points def → All (HasPoints rows) (on_all def t ∷ [])
  seen-alone def t f = All-cons (HasPoints rows) (on_all def t) [] (seen-all def t f) (All-nil (HasPoints rows))

  seen-touching : (def : FeatureDef) (t : Demand) → All (HasPoints rows) (on_each def t (contact_groups rows def.feature))
  seen-touching def t = seen-each (nominal_surface def) t def.feature 1 rows

  seen-row : (s : Shape) (at_mmb : Bool) (def : FeatureDef) (d : DatumDef) → IsFeature points def → All (HasPoints rows) (row s at_mmb (contact_groups rows def.feature) def d)
  seen-row shape.Plane at_mmb def d f =
      All-cons (HasPoints rows) (on_all def (Within (Some (pos 0)) None)) (on_each def (Contact (pos (2 * d.slack))) (contact_groups rows def.feature))
      (seen-all def (Within (Some (pos 0)) None) f) (seen-touching def (Contact (pos (2 * d.slack))))
  seen-row shape.Hole false def d f = seen-touching def (HugInner (pos (2 * d.slack)))
  seen-row shape.Hole true def d f = seen-alone def (Within (option_map pos d.boundary) None) f
  seen-row shape.Pin false def d f = seen-touching def (HugOuter (pos (2 * d.slack)))
  seen-row shape.Pin true def d f = seen-alone def (Within None (option_map pos d.boundary)) f
  seen-row shape.Axis at_mmb def d f = All-nil (HasPoints rows)
  seen-row shape.Sphere at_mmb def d f = All-nil (HasPoints rows)

  seen-datum : (features : List FeatureDef) (at_mmb : Bool) (d : DatumDef) (o : Option FeatureDef) → IfSome o (IsFeature points)
      → All (HasPoints rows) (listed_at (λ (def : FeatureDef). row def.shape at_mmb (contact_groups rows def.feature) def d) o)
  seen-datum features at_mmb d None f = All-nil (HasPoints rows)
  seen-datum features at_mmb d (Some def) f = seen-row def.shape at_mmb def d f

  seen-word : (features : List FeatureDef) (w : DatumRef) (o : Option DatumDef) → All (IsFeature points) features
      → All (HasPoints rows) (listed_at (of_datum features rows w.at_mmb) o)
  seen-word features w None fs = All-nil (HasPoints rows)
  seen-word features w (Some d) fs = seen-datum features w.at_mmb d (slice_get features d.feature) (found features (IsFeature points) d.feature fs)

  pub words-seen : (features : List FeatureDef) (datums : List DatumDef) → All (IsFeature points) features → (words : List DatumRef) → All (HasPoints rows) (of_words features datums rows words)
  words-seen features datums fs [] = All-nil (HasPoints rows)
  words-seen features datums fs (w ∷ words) =
      All-append (HasPoints rows) (of_word features datums rows w) (of_words features datums rows words)
      (seen-word features w (slice_get datums w.datum) fs) (words-seen features datums fs words)
