-- What is so of a whole frame file that was read: the laws that `read_frames` cites.
use Rattle.std.proofs.Common.{arith, ◌≡◌, ◌∙◌, refl, sym, ap, subst, ℕ, zero, suc, ◌+◌, ◌<◌, ◌≤◌, ◌≢◌, Bool, true, false, not, ◌||◌, List, [], ◌∷◌, ◌++◌, map, length, get_or, take, Option, Result, Ok, Err, IfOk, All, AllPairs, nat_lt, append_assoc}
use Rattle.std.proofs.lemmas.Bool.{false≢true, leb-false}
use Rattle.std.proofs.lemmas.List.{append-nil, get_or-map, length-append, length-map, map-append}
use Rattle.std.proofs.lemmas.List.Elements.{All-nil, All-push}
use Rattle.std.proofs.lemmas.List.Quantifiers.{all_pairs_push}
use Rattle.toml.specs.Data.{Members}
use Rattle.gd_base.specs.Causes.{Gives}
use Rattle.gd_base.specs.Limits.{CONDITIONS, OFFSETS}
use Rattle.gd_frames.proofs.Steps.{after, any, is_new, not_false, unless, view_apart, weaker}
use Rattle.gd_frames.proofs.TableFacts.{IsDatumRead, IsFeatureRead, IsFrameRead, IsTop, datum_is, feature_is, frame_is, top_is}
use Rattle.gd_frames.specs.Combinations.{is_allowed}
use Rattle.gd_frames.specs.Counts.{frame_offsets, group_conditions, limits, lower_conditions}
use Rattle.gd_frames.specs.Facts.{IsDatum, IsFeature, IsFile, IsFrame, IsJudged, IsSmall}
use Rattle.gd_frames.specs.Files.{and_entry, and_judged, file_in, frames, in_table, limits_from, tables_from, with_datum, with_feature, with_frame}
use Rattle.gd_frames.specs.Needs.{has_numbers, have_contacts}
use Rattle.gd_keys.specs.Documents.{document}
use Rattle.gd_keys.specs.Keys.{is_among}
use Rattle.gd_keys.specs.declared.rule.Rule.{Rule}
use Rattle.gd_keys.specs.declared.rule.Rule.TheVariants as rule
use Rattle.gd_points.specs.Table.{Table}
use Rattle.gd_points.specs.declared.table.Row.{Row}
use Rattle.gd_tables.specs.Grammar.{datum_in, feature_in, frame_in, top_in}
use Rattle.gd_tables.specs.Kinds.{File, Frame}
use Rattle.gd_tables.specs.Listed.{Entries, no_entries, with_entry}
use Rattle.gd_tables.specs.Ranges.{version_1}
use Rattle.gd_tables.specs.declared.file.DatumDef.{DatumDef}
use Rattle.gd_tables.specs.declared.file.FeatureDef.{FeatureDef}
use Rattle.gd_tables.specs.declared.ranges.Ranges.{Ranges}

-- ---- lists of tables

tabled : {A : Type 0} (P : A → Type 0) (row column : ℕ) (r : Result A Rule) → IfOk r P → IfOk (in_table row column r) P
tabled P row column (Ok x) h = h
tabled P row column (Err broken) h = tt

entered : {A B : Type 0} (P : A → Type 0) (Q : B → Type 0) (r : Result A Rule) (entry : A → B) → IfOk r P
    → ((x : A) → P x → Q (entry x)) → IfOk (and_entry r entry) Q
entered P Q (Ok x) entry h g = g x h
entered P Q (Err broken) entry h g = tt

-- what each table of a list keeps, the whole list has
tables_keep : {A : Type 0} (I : List Members → Entries A → Type 0) (column : ℕ)
    (with_table : Entries A → Members → Result (Entries A) Rule)
    → ((t : Members) (more : List Members) (e : Entries A) → I (t ∷ more) e → IfOk (with_table e t) (I more))
    → (tables : List Members) (e : Entries A) → I tables e → IfOk (tables_from column with_table e tables) (I [])
tables_keep I column with_table keeps [] e h = h
tables_keep I column with_table keeps (t ∷ more) e h =
    after (I more) (I []) (in_table (length e.items + 1) column (with_table e t))
    (λ now. tables_from column with_table now more)
    (tabled (I more) (length e.items + 1) column (with_table e t) (keeps t more e h))
    (λ now i. tables_keep I column with_table keeps more now i)

-- the tables that were read and those that are left are so many; no two have one name, and each is as it should be
pub record AreRead {A : Type 0} (name_of : A → List ℕ) (P : A → Type 0) (total : ℕ) (left : List Members)
    (e : Entries A) : Type 0 where
  pub items : All P e.items
  pub names : e.names ≡ map name_of e.items
  pub apart : AllPairs (λ a b. name_of a ≢ name_of b) e.items
  pub count : length e.items + length left ≡ total

none_read : {A : Type 0} (name_of : A → List ℕ) (P : A → Type 0) (tables : List Members)
    → AreRead name_of P (length tables) tables no_entries
none_read name_of P tables = record {
  items = All-nil P;
  names = refl;
  apart = λ i j d lt inside. absurd (omega (arith, inside));
  count = omega arith;
}

one_more : {A : Type 0} (name_of : A → List ℕ) (P : A → Type 0) (total : ℕ) (t : Members) (more : List Members)
    (e : Entries A) (x : A) (name : List ℕ)
    → AreRead name_of P total (t ∷ more) e → P x → name_of x ≡ name → is_among e.names name ≡ false
    → AreRead name_of P total more (with_entry e name x)
one_more name_of P total t more e x name h p is new =
    let others : is_among (map name_of e.items) name ≡ false = subst (λ ns. is_among ns name ≡ false) h.names new in
    let size = length-append e.items (x ∷ []) in
    record {
      items = All-push P e.items x h.items p;
      names = ap (λ ns. ns ++ name ∷ []) h.names ∙ ap (λ n. map name_of e.items ++ n ∷ []) (sym is) ∙ sym
          (map-append name_of e.items (x ∷ []));
      apart = all_pairs_push (λ a b. name_of a ≢ name_of b) e.items x h.apart (λ k d lt same.
          is_new (map name_of e.items) name others k (name_of d) (omega (arith, lt, length-map e.items name_of))
          (get_or-map name_of e.items k d (name_of d) lt ∙ same ∙ is));
      count = omega (arith, size, h.count);
    }

-- ---- features, datums and frames

abbrev point_name : Table → FeatureDef → List ℕ
point_name points f = get_or points.names f.feature []

abbrev AreFeatures : Table → ℕ → List Members → Entries FeatureDef → Type 0
AreFeatures points total = AreRead (point_name points) (IsFeature (length points.names)) total

features_read : (points : Table) (tables : List Members) → IfOk
    (tables_from 1 (with_feature points version_1) no_entries tables) (AreFeatures points (length tables) [])
features_read points tables = tables_keep (AreFeatures points (length tables)) 1 (with_feature points version_1)
    (λ t more e h. entered (IsFeatureRead points e.names) (AreFeatures points (length tables) more)
    (feature_in points version_1 e.names t) (λ f. with_entry e f.0 f.1) (feature_is points e.names t)
    (λ f r. one_more (point_name points) (IsFeature (length points.names))
    (length tables) t more e f.1 f.0 h r.is r.named r.new))
    tables no_entries (none_read (point_name points) (IsFeature (length points.names)) tables)

abbrev AreDatums : ℕ → ℕ → List Members → Entries DatumDef → Type 0
AreDatums features total = AreRead (λ (d : DatumDef). d.name) (IsDatum features) total

datums_read : (features : List (List ℕ)) (tables : List Members)
    → IfOk (tables_from 2 (with_datum features version_1) no_entries tables)
    (AreDatums (length features) (length tables) [])
datums_read features tables = tables_keep (AreDatums (length features) (length tables)) 2
    (with_datum features version_1)
    (λ t more e h. entered (IsDatumRead (length features) e.names)
    (AreDatums (length features) (length tables) more) (datum_in features version_1 e.names t)
    (λ d. with_entry e d.name d) (datum_is features e.names t)
    (λ d r. one_more (λ (d : DatumDef). d.name) (IsDatum (length features))
    (length tables) t more e d d.name h r.is refl r.new))
    tables no_entries (none_read (λ (d : DatumDef). d.name) (IsDatum (length features)) tables)

judged_is : (features : List FeatureDef) (datums : List DatumDef) (rows : List Row) (P : Frame → Type 0)
    (r : Result Frame Rule) → IfOk r P
    → IfOk (and_judged features datums rows r) (λ f. P f × IsJudged features datums rows f)
judged_is features datums rows P (Err broken) h = tt
judged_is features datums rows P (Ok f) h =
    let Q : Frame → Type 0 = λ g. P g × IsJudged features datums rows g in
    unless Q (not (is_allowed features datums f)) rule.Combination _ (λ allowed.
    unless Q (not (has_numbers features datums f)) rule.Needed _ (λ numbers.
    unless Q (not (have_contacts features datums rows 0 f.datums)) rule.Contacts (Ok f) (λ contacts.
    (h, record { allowed = not_false _ allowed; numbers = not_false _ numbers; contacts = not_false _ contacts }))))

abbrev IsFrameOf : Entries FeatureDef → Entries DatumDef → List Row → Frame → Type 0
IsFrameOf features datums rows f = IsFrame (length features.names)
    (length datums.names) f × IsJudged features.items datums.items rows f

abbrev AreFrames : Entries FeatureDef → Entries DatumDef → List Row → ℕ → List Members → Entries Frame → Type 0
AreFrames features datums rows total = AreRead (λ (f : Frame). f.name) (IsFrameOf features datums rows) total

frames_read : (features : Entries FeatureDef) (datums : Entries DatumDef) (rows : List Row) (tables : List Members)
    → IfOk (tables_from 3 (with_frame features datums rows) no_entries tables)
    (AreFrames features datums rows (length tables) [])
frames_read features datums rows tables = tables_keep (AreFrames features datums rows (length tables)) 3
    (with_frame features datums rows)
    (λ t more e h.
    let R : Frame → Type 0 = IsFrameRead (length features.names) (length datums.names) e.names in
    entered (λ f. R f × IsJudged features.items datums.items rows f)
    (AreFrames features datums rows (length tables) more)
    (and_judged features.items datums.items rows (frame_in features.names datums.names e.names t))
    (λ f. with_entry e f.name f)
    (judged_is features.items datums.items rows R (frame_in features.names datums.names e.names t)
    (frame_is features.names datums.names e.names t))
    (λ f r. one_more (λ (f : Frame). f.name) (IsFrameOf features datums rows) (length tables) t more e f f.name h
    (r.0.is, r.1) refl r.0.new))
    tables no_entries (none_read (λ (f : Frame). f.name) (IsFrameOf features datums rows) tables)

-- ---- the limits of groups

neither : (a b : Bool) → (a || b) ≡ false → (a ≡ false) × (b ≡ false)
neither true b h = absurd (false≢true (sym h))
neither false b h = (refl, h)

not_more : (limit n : ℕ) → nat_lt limit n ≡ false → n ≤ limit
not_more limit n h = let e = leb-false (suc limit) n h in omega (arith, e)

small_is : (features : List FeatureDef) (datums : List DatumDef) (rows : List Row) (earlier : List Frame) (f : Frame)
    → IfOk (limits features datums rows earlier f) (λ _. IsSmall features datums rows earlier f)
small_is features datums rows earlier f =
    let Q : Unit {0} → Type 0 = λ _. IsSmall features datums rows earlier f in
    unless Q (nat_lt OFFSETS (frame_offsets features f)) rule.Offsets _ (λ offsets.
    unless Q (nat_lt CONDITIONS (group_conditions features datums rows earlier f) || nat_lt CONDITIONS
    (lower_conditions features datums rows f)) rule.Conditions (Ok tt) (λ both.
    let each = neither _ _ both in
    record { offsets = not_more _ _ offsets; conditions = not_more _ _ each.0; lower = not_more _ _ each.1 }))

abbrev AreSmallAfter : List FeatureDef → List DatumDef → List Row → List Frame → List Frame → Type 0
AreSmallAfter features datums rows earlier frames =
    (k : ℕ) (d : Frame) → k < length frames → IsSmall features datums rows (earlier ++ take k frames)
    (get_or frames k d)

small_more : (features : List FeatureDef) (datums : List DatumDef) (rows : List Row) (earlier : List Frame)
    (f : Frame) (more : List Frame)
    → IsSmall features datums rows earlier f → AreSmallAfter features datums rows (earlier ++ f ∷ []) more
    → AreSmallAfter features datums rows earlier (f ∷ more)
small_more features datums rows earlier f more small rest zero d lt = subst
    (λ es. IsSmall features datums rows es f) (sym (append-nil earlier)) small
small_more features datums rows earlier f more small rest (suc k) d lt =
    subst (λ es. IsSmall features datums rows es (get_or more k d)) (append_assoc earlier (f ∷ []) (take k more))
    (rest k d (omega (arith, lt)))

limits_are : (features : List FeatureDef) (datums : List DatumDef) (rows : List Row) (frames earlier : List Frame)
    → IfOk (limits_from features datums rows earlier frames) (λ _. AreSmallAfter features datums rows earlier frames)
limits_are features datums rows [] earlier = λ k d lt. absurd (omega (arith, lt))
limits_are features datums rows (f ∷ more) earlier =
    after (λ _. IsSmall features datums rows earlier f) (λ _. AreSmallAfter features datums rows earlier (f ∷ more))
    (in_table (length earlier + 1) 3 (limits features datums rows earlier f))
    (λ _. limits_from features datums rows (earlier ++ f ∷ []) more)
    (tabled (λ _. IsSmall features datums rows earlier f) (length earlier + 1) 3
    (limits features datums rows earlier f) (small_is features datums rows earlier f))
    (λ _ small. weaker (λ _. AreSmallAfter features datums rows (earlier ++ f ∷ []) more)
    (λ _. AreSmallAfter features datums rows earlier (f ∷ more))
    (limits_from features datums rows (earlier ++ f ∷ []) more)
    (limits_are features datums rows more (earlier ++ f ∷ []))
    (λ _ rest. small_more features datums rows earlier f more small rest))

-- ---- the file

pub file_is : (points : Table) (table : Members) → IfOk (file_in points table) (IsFile points)
unfolding file_in
file_is points table =
    let Q : File → Type 0 = IsFile points in
    after IsTop Q (in_table 0 0 (top_in table)) _ (tabled IsTop 0 0 (top_in table) (top_is table)) (λ top is.
    after (AreFeatures points (length top.features) []) Q (tables_from 1
    (with_feature points top.ranges) no_entries top.features) _
    (subst (λ (r : Ranges). IfOk (tables_from 1 (with_feature points r) no_entries top.features)
    (AreFeatures points (length top.features) [])) (sym is.ranges) (features_read points top.features))
    (λ fs features.
    after (AreDatums (length fs.names) (length top.datums) []) Q
    (tables_from 2 (with_datum fs.names top.ranges) no_entries top.datums) _
    (subst (λ (r : Ranges). IfOk (tables_from 2 (with_datum fs.names r) no_entries top.datums)
    (AreDatums (length fs.names) (length top.datums) [])) (sym is.ranges) (datums_read fs.names top.datums))
    (λ ds datums.
    after (AreFrames fs ds points.rows (length top.frames) []) Q
    (tables_from 3 (with_frame fs ds points.rows) no_entries top.frames) _
    (frames_read fs ds points.rows top.frames) (λ frs frames.
    after (λ _. AreSmallAfter fs.items ds.items points.rows [] frs.items) Q
    (limits_from fs.items ds.items points.rows [] frs.items) _
    (limits_are fs.items ds.items points.rows frs.items []) (λ _ small.
    let named : length fs.names ≡ length fs.items = ap length features.names ∙ length-map fs.items
    (point_name points) in
    let datum_named : length ds.names ≡ length ds.items = ap length datums.names ∙ length-map ds.items
    (λ (d : DatumDef). d.name) in
    record {
      turn = is.turn;
      shift = is.shift;
      centre = is.centre;
      few_features = omega (arith, features.count, is.features);
      few_datums = omega (arith, datums.count, is.datums);
      some_frames = omega (arith, frames.count, is.some);
      few_frames = omega (arith, frames.count, is.frames);
      features = features.items;
      features_once = view_apart (point_name points) (λ (f : FeatureDef). f.feature)
          (λ n. get_or points.names n []) fs.items (λ f. refl) features.apart;
      datums = subst (λ n. All (IsDatum n) ds.items) named datums.items;
      datum_names = datums.apart;
      frames = λ k d lt. subst (λ n. IsFrame n (length ds.items) (get_or frs.items k d)) named
          (subst (λ n. IsFrame (length fs.names) n (get_or frs.items k d)) datum_named (frames.items k d lt).0);
      frame_names = frames.apart;
      judged = λ k d lt. (frames.items k d lt).1;
      small = small;
    })))))

pub frames_are : (bytes : List ℕ) (points : Table) → IfOk (frames bytes points) (IsFile points)
frames_are bytes points = after (λ _. Unit {0}) (IsFile points) (in_table 0 0 (document bytes)) (file_in points)
    (any _) (λ table _. file_is points table)

-- what is so of what is meant is so of what is given
pub of_given : {X Y E F : Type 0} (P : Y → Type 0) (cause : E → Option F) (view : X → Y) (r : Result X E)
    (meant : Result Y F) → Gives cause view r meant → IfOk meant P → IfOk r (λ x. P (view x))
of_given P cause view (Ok x) meant e h = subst (λ m. IfOk m P) e h
of_given P cause view (Err e) meant h g = tt
