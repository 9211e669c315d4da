-- What is so of each table of a frame file that was read.
use Rattle.std.proofs.Common.{◌&&◌, arith, ◌≡◌, refl, sym, ap, subst, ℕ, ◌<◌, ◌≤◌, ◌≢◌, Bool, true, false, cond, List, [], ◌∷◌, map, length, get_or, Option, Some, None, option_map, Ok, IfOk, IfSome, nat_eq, nat_le, AllPairs, ℤ, pos, codes}
use Rattle.std.proofs.lemmas.Bool.{and_parts, false≢true, leb-true}
use Rattle.std.specs.Cmp.Lexicographic.{pointwise}
use Rattle.std.specs.List.{AllZip}
use Rattle.std.specs.Ordering.{int_eq}
use Rattle.toml.specs.Data.{Data, Members, as_integer, get_member, string}
use Rattle.gd_base.specs.Limits.{COORDINATE, DATUMS, DIAMETER, ENTRY, FEATURES, FRAMES, FRAME_FEATURES, RADIUS, SHIFT, SLACK, TOLERANCE, TURN, USUAL_SLACK, WORDS}
use Rattle.gd_base.specs.Names.{name_of}
use Rattle.gd_frames.proofs.Steps.{after, after_any, after_default, after_need, after_option, any, each_zip, found, map_apart, none_twice, number_small, ranged, some_is, stands, three_within, unless, valued, view_apart, when, zip_all, zip_apart, zip_length}
use Rattle.gd_frames.specs.Facts.{ArePlaces, AreWords, IsDatum, IsFeature, IsFrame, IsTurn}
use Rattle.gd_keys.specs.Contents.{each_as, name, number, tables, texts, three, truth, word}
use Rattle.gd_keys.specs.Keys.{default_to, is_among, needed, once, only, value_or}
use Rattle.gd_keys.specs.Rules.{◌>>=◌, or_broken}
use Rattle.gd_keys.specs.declared.rule.Rule.TheVariants as rule
use Rattle.gd_points.specs.Table.{Table}
use Rattle.gd_tables.specs.Grammar.{Top, Word, datum_in, datum_keys, datum_of, direction, feature_in, feature_keys, features_in, frame_in, frame_keys, is_zero, known_feature, most_features, new_name, some_tables_to, stated_in, tables_to, top_in, top_keys, turn_in, version, without_direction, word_of, words_in}
use Rattle.gd_tables.specs.Kinds.{Frame, is_form}
use Rattle.gd_tables.specs.Listed.{place_of}
use Rattle.gd_tables.specs.Ranges.{ranges_of, version_1}
use Rattle.gd_tables.specs.Words.{kind_of, material_of, shape_of}
use Rattle.gd_tables.specs.declared.file.DatumDef.{DatumDef}
use Rattle.gd_tables.specs.declared.file.DatumRef.{DatumRef}
use Rattle.gd_tables.specs.declared.file.FeatureDef.{FeatureDef}
use Rattle.gd_tables.specs.declared.kind.Kind.{Kind}
use Rattle.gd_tables.specs.declared.kind.Material.TheVariants as material
use Rattle.gd_tables.specs.declared.kind.Shape.{Shape}
use Rattle.gd_tables.specs.declared.kind.Shape.TheVariants as shape
use Rattle.gd_tables.specs.declared.kind.Turn.TheVariants as turn
use Rattle.gd_tables.specs.declared.ranges.Ranges.{Ranges}
use Rattle.gd_vec.specs.Vector.{IsWithin}

-- ---- the top level

pub record IsTop (t : Top) : Type 0 where
  pub ranges : t.ranges ≡ version_1
  pub turn : IsTurn t.turn
  pub shift : t.shift ≤ SHIFT
  pub centre : IfSome t.centre (IsWithin COORDINATE)
  pub features : length t.features ≤ FEATURES
  pub datums : length t.datums ≤ DATUMS
  pub some : 0 < length t.frames
  pub frames : length t.frames ≤ FRAMES

first_version : (z : ℤ) → IfOk (or_broken (ranges_of z) rule.Version) (λ r. r ≡ version_1)
first_version z = found (λ r. r ≡ version_1) (ranges_of z) rule.Version
    (when (λ r. r ≡ version_1) (int_eq z (pos 1)) (Some version_1) (λ _. refl))

version_is : (d : Data) → IfOk (version d) (λ r. r ≡ version_1)
version_is d = after (λ _. Unit {0}) (λ r. r ≡ version_1) (or_broken (as_integer d) rule.Kind)
    (λ n. or_broken (ranges_of n) rule.Version) (any _) (λ z _. first_version z)

turn_number : (d : Data) → IfOk (number TURN d >>= (λ k. Ok (turn.Within k))) IsTurn
turn_number d = after (λ k. k ≤ TURN) IsTurn (number TURN d) (λ k. Ok (turn.Within k)) (number_small TURN d) (λ k h. h)

turn_is : (d : Data) → IfOk (turn_in d) IsTurn
turn_is (string w) = ranged IsTurn (pointwise nat_eq w (codes "all")) turn.All (λ _. tt)
turn_is d = turn_number d

few_tables : (most : ℕ) (d : Data) → IfOk (tables_to most d) (λ list. length list ≤ most)
few_tables most d = after (λ _. Unit {0}) (λ list. length list ≤ most) (tables d) _ (any _) (λ list _.
    ranged (λ (l : List Members). length l ≤ most) (nat_le (length list) most) list (λ h. leb-true _ _ h))

not_none : {A : Type 0} (xs : List A) → nat_eq (length xs) 0 ≡ false → 0 < length xs
not_none [] h = absurd (false≢true (sym h))
not_none (x ∷ xs) h = omega arith

some_tables : (most : ℕ) (d : Data) → IfOk (some_tables_to most d) (λ list. (0 < length list) × (length list ≤ most))
some_tables most d = after (λ _. Unit {0}) (λ list. (0 < length list) × (length list ≤ most)) (tables d) _ (any _)
    (λ list _.
    unless (λ (l : List Members). (0 < length l) × (length l ≤ most)) (nat_eq (length list) 0) rule.Needed _ (λ some.
    ranged (λ (l : List Members). (0 < length l) × (length l ≤ most)) (nat_le (length list) most) list
    (λ h. (not_none list some, leb-true _ _ h))))

pub top_is : (table : Members) → IfOk (top_in table) IsTop
unfolding top_in
top_is table =
    after_any IsTop (only top_keys table) _ (λ _.
    after_need (λ r. r ≡ version_1) IsTop (codes "version") version table _ version_is (λ ranges is.
    after_default IsTurn IsTop turn.All (codes "turn") turn_in table _ tt turn_is (λ t turn.
    after_default (λ n. n ≤ ranges.shift) IsTop ranges.shift (codes "shift") (number ranges.shift) table _
    (omega arith) (number_small ranges.shift) (λ s shift.
    after_option (IsWithin ranges.place) IsTop (codes "centre") (three ranges.place) table _
    (three_within ranges.place) (λ c centre.
    after_default (λ l. length l ≤ FEATURES) IsTop [] (codes "feature") (tables_to FEATURES) table _ (omega arith)
    (few_tables FEATURES) (λ fs features.
    after_default (λ l. length l ≤ DATUMS) IsTop [] (codes "datum") (tables_to DATUMS) table _ (omega arith)
    (few_tables DATUMS) (λ ds datums.
    after_need (λ l. (0 < length l) × (length l ≤ FRAMES)) IsTop (codes "frame") (some_tables_to FRAMES) table _
    (some_tables FRAMES) (λ frs frames.
    record {
      ranges = is;
      turn = turn;
      shift = subst (λ (r : Ranges). s ≤ r.shift) is shift;
      centre = subst (λ (r : Ranges). IfSome c (IsWithin r.place)) is centre;
      features = features;
      datums = datums;
      some = frames.0;
      frames = frames.1;
    }))))))))

-- ---- features

new_is : (earlier : List (List ℕ)) (d : Data) → IfOk (new_name earlier d) (λ n. is_among earlier n ≡ false)
new_is earlier d = after (λ _. Unit {0}) (λ n. is_among earlier n ≡ false) (name d) _ (any _) (λ n _.
    unless (λ m. is_among earlier m ≡ false) (is_among earlier n) rule.Once (Ok n) (λ h. h))

direction_is : (d : Data) → IfOk (direction d) (λ v. IsWithin ENTRY v × (is_zero v ≡ false))
direction_is d = after (IsWithin ENTRY) (λ v. IsWithin ENTRY v × (is_zero v ≡ false)) (three ENTRY d) _
    (three_within ENTRY d) (λ v within.
    unless (λ w. IsWithin ENTRY w × (is_zero w ≡ false)) (is_zero v) rule.Direction (Ok v) (λ h. (within, h)))

without_is : (s : Shape) → IfOk (without_direction s) (λ v. IsWithin ENTRY v × (is_zero v ≡ false))
without_is shape.Sphere = (record { x = omega arith; y = omega arith; z = omega arith }, refl)
without_is shape.Plane = tt
without_is shape.Hole = tt
without_is shape.Pin = tt
without_is shape.Axis = tt

-- a feature that was read, with its name, which is new and has its number in the table of points
pub record IsFeatureRead (points : Table) (earlier : List (List ℕ)) (f : List ℕ × FeatureDef) : Type 0 where
  pub is : IsFeature (length points.names) f.1
  pub new : is_among earlier f.0 ≡ false
  pub named : get_or points.names f.1.feature [] ≡ f.0

pub feature_is : (points : Table) (earlier : List (List ℕ)) (table : Members)
    → IfOk (feature_in points version_1 earlier table) (IsFeatureRead points earlier)
unfolding feature_in
feature_is points earlier table =
    let Q : List ℕ × FeatureDef → Type 0 = IsFeatureRead points earlier in
    after_any Q (only feature_keys table) _ (λ _.
    after_need (λ n. is_among earlier n ≡ false) Q (codes "name") (new_name earlier) table _ (new_is earlier) (λ n new.
    after (λ p. place_of points.names n ≡ Some p) Q (or_broken (place_of points.names n) rule.Feature) _
    (found (λ p. place_of points.names n ≡ Some p) (place_of points.names n) rule.Feature
    (some_is (place_of points.names n))) (λ p at.
    after_any Q (needed (codes "shape") (word shape_of) table) _ (λ s.
    after (λ v. IsWithin ENTRY v × (is_zero v ≡ false)) Q (value_or (without_direction s) direction
    (get_member (codes "direction") table)) _ (valued (λ v. IsWithin ENTRY v × (is_zero v ≡ false))
    (without_direction s) direction (get_member (codes "direction") table) (without_is s) direction_is)
    (λ v direction.
    after_need (IsWithin COORDINATE) Q (codes "point") (three COORDINATE) table _ (three_within COORDINATE) (λ w point.
    after_option (λ n. n ≤ RADIUS) Q (codes "radius") (number RADIUS) table _ (number_small RADIUS) (λ r radius.
    after_option (λ n. n ≤ DIAMETER) Q (codes "mmc") (number DIAMETER) table _ (number_small DIAMETER) (λ m mmc.
    after_option (λ n. n ≤ DIAMETER) Q (codes "lmc") (number DIAMETER) table _ (number_small DIAMETER) (λ l lmc.
    record {
      is = record {
        used = (stands points.names n p at).0;
        direction = direction.0;
        some_direction = direction.1;
        point = point;
        radius = radius;
        mmc = mmc;
        lmc = lmc;
      };
      new = new;
      named = (stands points.names n p at).1;
    })))))))))

-- ---- datums

placed : (features : List (List ℕ)) (n : List ℕ) (o : Option ℕ) → place_of features n ≡ o
    → IfSome o (λ p. p < length features)
placed features n None e = tt
placed features n (Some p) e = (stands features n p e).0

known_is : (features : List (List ℕ)) (d : Data) → IfOk (known_feature features d) (λ p. p < length features)
known_is features d = after (λ _. Unit {0}) (λ p. p < length features) (name d) _ (any _) (λ n _.
    found (λ p. p < length features) (place_of features n) rule.Feature (placed features n (place_of features n) refl))

pub record IsDatumRead (features : ℕ) (earlier : List (List ℕ)) (d : DatumDef) : Type 0 where
  pub is : IsDatum features d
  pub new : is_among earlier d.name ≡ false

pub datum_is : (features earlier : List (List ℕ)) (table : Members)
    → IfOk (datum_in features version_1 earlier table) (IsDatumRead (length features) earlier)
unfolding datum_in
datum_is features earlier table =
    let Q : DatumDef → Type 0 = IsDatumRead (length features) earlier in
    after_any Q (only datum_keys table) _ (λ _.
    after_need (λ n. is_among earlier n ≡ false) Q (codes "name") (new_name earlier) table _ (new_is earlier) (λ n new.
    after_need (λ p. p < length features) Q (codes "feature") (known_feature features) table _ (known_is features)
    (λ p placed.
    after_default (λ s. s ≤ SLACK) Q USUAL_SLACK (codes "slack") (number SLACK) table _ (omega arith)
    (number_small SLACK) (λ s slack.
    after_option (λ n. n ≤ DIAMETER) Q (codes "boundary") (number DIAMETER) table _ (number_small DIAMETER)
    (λ b boundary.
    record { is = record { placed = placed; slack = slack; boundary = boundary }; new = new })))))

-- ---- lists of names

at_most : (b : Bool) (n : ℕ) → n ≤ cond b 1 FRAME_FEATURES → n ≤ FRAME_FEATURES
at_most true n h = omega (arith, h)
at_most false n h = h

few_features : (k : Kind) (n : ℕ) → n ≤ most_features k → n ≤ FRAME_FEATURES
few_features k n h = at_most (is_form k) n h

places_are : (features names : List (List ℕ)) (places : List ℕ) → 0 < length names → length names ≤ FRAME_FEATURES
    → AllPairs (λ m n. m ≢ n) names
    → AllZip (λ n p. place_of features n ≡ Some p) names places → ArePlaces (length features) places
places_are features names places some few pairs zip =
    let R : List ℕ → ℕ → Type 0 = λ n p. place_of features n ≡ Some p in
    let n = zip_length R names places zip in
    let differ = zip_apart R (λ m. m) (λ p. get_or features p []) [] names places zip
    (λ m p h. (stands features m p h).1) pairs in
    record {
      some = omega (arith, n, some);
      few = omega (arith, n, few);
      placed = zip_all R (λ p. p < length features) [] names places zip (λ m p h. (stands features m p h).0);
      once = view_apart (λ p. get_or features p []) (λ p. p) (λ p. get_or features p []) places (λ p. refl) differ;
    }

weaker_some : {A : Type 0} (P Q : A → Type 0) (o : Option A) → IfSome o P → ((x : A) → P x → Q x) → IfSome o Q
weaker_some P Q None h g = tt
weaker_some P Q (Some x) h g = g x h

counted : (k : Kind) (list : List (List ℕ)) → (nat_le 1 (length list) ≡ true) ×
    (nat_le (length list) (most_features k) ≡ true)
    → IfSome (each_as name_of list) (λ names. (0 < length names) × (length names ≤ FRAME_FEATURES))
counted k list h =
    let R : List ℕ → List ℕ → Type 0 = λ x y. name_of x ≡ Some y in
    weaker_some (AllZip R list) (λ names. (0 < length names) × (length names ≤ FRAME_FEATURES))
    (each_as name_of list) (each_zip name_of list) (λ names zip.
    let n = zip_length R list names zip in
    let some = leb-true 1 (length list) h.0 in
    let few = few_features k (length list) (leb-true _ _ h.1) in
    (omega (arith, n, some), omega (arith, n, few)))

abbrev is_count : Kind → List (List ℕ) → Bool
is_count k list = nat_le 1 (length list) && nat_le (length list) (most_features k)

abbrev few_named : Kind → List (List ℕ) → Option (List (List ℕ))
few_named k list = cond (is_count k list) (each_as name_of list) None

features_are : (features : List (List ℕ)) (k : Kind) (d : Data)
    → IfOk (features_in features k d) (ArePlaces (length features))
unfolding features_in
features_are features k d =
    let Q : List ℕ → Type 0 = ArePlaces (length features) in
    let S : List (List ℕ) → Type 0 = λ names. (0 < length names) × (length names ≤ FRAME_FEATURES) in
    let R : List ℕ → ℕ → Type 0 = λ n p. place_of features n ≡ Some p in
    after_any Q (texts d) _ (λ list.
    after S Q (or_broken (few_named k list) rule.Range) _ (found S (few_named k list) rule.Range
    (when S (is_count k list) (each_as name_of list) (λ h. counted k list (and_parts _ _ h)))) (λ names size.
    after (λ _. AllPairs (λ m n. m ≢ n) names) Q (once names) _ (none_twice names) (λ _ pairs.
    found Q (each_as (place_of features) names) rule.Feature
    (weaker_some (AllZip R names) Q (each_as (place_of features) names) (each_zip (place_of features) names)
    (λ places zip. places_are features names places size.0 size.1 pairs zip)))))

abbrev marked : Bool → ℕ → DatumRef
marked at_mmb place = record { datum = place; at_mmb = at_mmb }

mapped_place : (o : Option ℕ) (at_mmb : Bool) (r : DatumRef) → option_map (marked at_mmb) o ≡ Some r → o ≡ Some r.datum
mapped_place None at_mmb r h = cc
mapped_place (Some p) at_mmb r h = ap (λ (w : Option DatumRef). option_map (λ (v : DatumRef). v.datum) w) h

datum_named : (datums : List (List ℕ)) (w : Word) (r : DatumRef) → datum_of datums w ≡ Some r
    → place_of datums w.name ≡ Some r.datum
datum_named datums w r h = mapped_place (place_of datums w.name) w.at_mmb r h

words_are : (datums : List (List ℕ)) (words : List Word) (refs : List DatumRef) → length words ≤ WORDS
    → AllPairs (λ m n. m ≢ n) (map (λ (w : Word). w.name) words)
    → AllZip (λ w r. datum_of datums w ≡ Some r) words refs → AreWords (length datums) refs
words_are datums words refs few pairs zip =
    let R : Word → DatumRef → Type 0 = λ w r. datum_of datums w ≡ Some r in
    let n = zip_length R words refs zip in
    let w0 : Word = record { name = []; at_mmb = false } in
    let differ = zip_apart R (λ (w : Word). w.name) (λ (r : DatumRef). get_or datums r.datum []) w0 words refs zip
    (λ w r h. (stands datums w.name r.datum (datum_named datums w r h)).1)
    (map_apart (λ (w : Word). w.name) words pairs) in
    record {
      few = omega (arith, n, few);
      placed = zip_all R (λ (r : DatumRef). r.datum < length datums) w0 words refs zip
          (λ w r h. (stands datums w.name r.datum (datum_named datums w r h)).0);
      once = view_apart (λ (r : DatumRef). get_or datums r.datum []) (λ (r : DatumRef). r.datum)
          (λ p. get_or datums p []) refs (λ r. refl) differ;
    }

few_words : (list : List (List ℕ)) → length list ≤ WORDS → IfSome (each_as word_of list) (λ words. length words ≤ WORDS)
few_words list few =
    let R : List ℕ → Word → Type 0 = λ x y. word_of x ≡ Some y in
    weaker_some (AllZip R list) (λ words. length words ≤ WORDS) (each_as word_of list) (each_zip word_of list)
    (λ words zip.
    let n = zip_length R list words zip in omega (arith, n, few))

words_in_are : (datums : List (List ℕ)) (d : Data) → IfOk (words_in datums d) (AreWords (length datums))
unfolding words_in
words_in_are datums d =
    let Q : List DatumRef → Type 0 = AreWords (length datums) in
    let S : List Word → Type 0 = λ words. length words ≤ WORDS in
    let R : Word → DatumRef → Type 0 = λ w r. datum_of datums w ≡ Some r in
    after_any Q (texts d) _ (λ list.
    after S Q (or_broken (cond (nat_le (length list) WORDS) (each_as word_of list) None) rule.Range) _
    (found S (cond (nat_le (length list) WORDS) (each_as word_of list) None) rule.Range
    (when S (nat_le (length list) WORDS) (each_as word_of list)
    (λ h. few_words list (leb-true (length list) WORDS h)))) (λ words few.
    after (λ _. AllPairs (λ m n. m ≢ n) (map (λ (w : Word). w.name) words)) Q
    (once (map (λ (w : Word). w.name) words)) _ (none_twice (map (λ (w : Word). w.name) words)) (λ _ pairs.
    found Q (each_as (datum_of datums) words) rule.Datum (weaker_some (AllZip R words) Q
    (each_as (datum_of datums) words) (each_zip (datum_of datums) words)
    (λ refs zip. words_are datums words refs few pairs zip)))))

no_words : (of_datums : ℕ) → AreWords of_datums []
no_words of_datums = record {
  few = omega arith;
  placed = λ k d lt. absurd
      (omega (arith, lt));
  once = λ i j d lt inside. absurd (omega (arith, inside));
}

-- ---- frames

pub record IsFrameRead (features datums : ℕ) (earlier : List (List ℕ)) (f : Frame) : Type 0 where
  pub is : IsFrame features datums f
  pub new : is_among earlier f.name ≡ false

pub frame_is : (features datums earlier : List (List ℕ)) (table : Members)
    → IfOk (frame_in features datums earlier table) (IsFrameRead (length features) (length datums) earlier)
unfolding frame_in stated_in
frame_is features datums earlier table =
    let Q : Frame → Type 0 = IsFrameRead (length features) (length datums) earlier in
    after_any Q (only frame_keys table) _ (λ _.
    after_need (λ n. is_among earlier n ≡ false) Q (codes "name") (new_name earlier) table _ (new_is earlier) (λ n new.
    after_any Q (needed (codes "kind") (word kind_of) table) _ (λ k.
    after_need (ArePlaces (length features)) Q (codes "features") (features_in features k) table _
    (features_are features k) (λ ps places.
    after_need (λ t. t ≤ TOLERANCE) Q (codes "tolerance") (number TOLERANCE) table _ (number_small TOLERANCE)
    (λ t tolerance.
    after_default (AreWords (length datums)) Q [] (codes "datums") (words_in datums) table _
    (no_words (length datums)) (words_in_are datums) (λ ws words.
    after_any Q (default_to material.Rfs (codes "material") (word material_of) table) _ (λ m.
    after_option (λ n. n ≤ t) Q (codes "above") (number t) table _ (number_small t) (λ a above.
    after_option (λ n. n ≤ t) Q (codes "lower") (number t) table _ (number_small t) (λ l lower.
    after_default (AreWords (length datums)) Q [] (codes "lower_datums") (words_in datums) table _
    (no_words (length datums)) (words_in_are datums) (λ ls lower_words.
    after_any Q (default_to false (codes "separate") truth table) _ (λ s.
    record {
      is = record {
        features = places;
        tolerance = tolerance;
        datums = words;
        above = above;
        lower = lower;
        lower_datums = lower_words;
      };
      new = new;
    })))))))))))
