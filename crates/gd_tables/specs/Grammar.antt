-- A frame file as its whole table states it: each table has its keys in their order, and the first rule that is broken
-- in this order is told. Lengths are in units of 0.1 micrometre.
use Rattle.std.specs.Prelude.{ℕ, pos, Bool, true, false, List, [], ◌∷◌, map, length, Option, None, option_map, Result, Ok}
use Rattle.std.specs.Prelude.{Err, codes, nat_eq, nat_le, drop, take, ◌-◌, ◌==◌, ◌&&◌, if◌then◌else◌}
use Rattle.std.specs.Cmp.Lexicographic.{pointwise}
use Rattle.std.specs.Ordering.{int_eq}
use Rattle.toml.specs.Data.{Data, string, Members, as_integer, get_member}
use Rattle.gd_base.specs.Limits.{DATUMS, ENTRY, FEATURES, FRAMES, FRAME_FEATURES, SLACK, TOLERANCE, TURN}
use Rattle.gd_base.specs.Limits.{USUAL_SLACK, WORDS}
use Rattle.gd_base.specs.Names.{name_of}
use Rattle.gd_tables.specs.Kinds.{Frame, is_form}
use Rattle.gd_tables.specs.Listed.{place_of}
use Rattle.gd_tables.specs.Ranges.{ranges_of}
use Rattle.gd_tables.specs.Words.{kind_of, material_of, shape_of}
use Rattle.gd_tables.specs.declared.file.DatumDef.{DatumDef}
use Rattle.gd_tables.specs.declared.file.DatumRef.{DatumRef}
use Rattle.gd_tables.specs.declared.file.FeatureDef.{FeatureDef}
use Rattle.gd_tables.specs.declared.kind.Kind.{Kind}
use Rattle.gd_tables.specs.declared.kind.Material.TheVariants as material
use Rattle.gd_tables.specs.declared.kind.Shape.{Shape}
use Rattle.gd_tables.specs.declared.kind.Shape.TheVariants as shape
use Rattle.gd_tables.specs.declared.kind.Turn.{Turn}
use Rattle.gd_tables.specs.declared.kind.Turn.TheVariants as turn
use Rattle.gd_tables.specs.declared.ranges.Ranges.{Ranges}
use Rattle.gd_keys.specs.Contents.{each_as, in_range, name, number, tables, texts, three, truth, word}
use Rattle.gd_keys.specs.Keys.{default_to, is_among, needed, once, only, optional, value_or}
use Rattle.gd_keys.specs.Rules.{◌>>=◌, or_broken}
use Rattle.gd_keys.specs.declared.rule.Rule.{Rule}
use Rattle.gd_keys.specs.declared.rule.Rule.TheVariants as rule
use Rattle.gd_points.specs.Table.{Table}
use Rattle.gd_vec.specs.declared.vector.V3.{V3}

-- THE TOP LEVEL

-- the version is a number that is known, and gives the ranges of the others
abbrev pub version : Data → Result Ranges Rule
version d = or_broken (as_integer d) rule.Kind >>= (λ n. or_broken (ranges_of n) rule.Version)

-- the text `all`, or a number from 0 to 20
abbrev pub turn_in : Data → Result Turn Rule
turn_in (string word) = in_range (pointwise nat_eq word (codes "all")) turn.All
turn_in d = number TURN d >>= (λ k. Ok (turn.Within k))

-- a list of tables that is no longer than this
abbrev pub tables_to : ℕ → Data → Result (List Members) Rule
tables_to most d = tables d >>= (λ list. in_range (nat_le (length list) most) list)

-- the same, and it isn't empty
abbrev pub some_tables_to : ℕ → Data → Result (List Members) Rule
some_tables_to most d =
    tables d >>= (λ list. if length list == 0 then Err rule.Needed else in_range (nat_le (length list) most) list)

pub record Top : Type 0 where
  pub ranges : Ranges
  pub turn : Turn
  pub shift : ℕ
  pub centre : Option V3
  pub features : List Members
  pub datums : List Members
  pub frames : List Members

abbrev pub top_keys : List (List ℕ)
top_keys =
    codes "version" ∷ codes "turn" ∷ codes "shift" ∷ codes "centre" ∷ codes "feature" ∷ codes "datum" ∷ codes "frame"
    ∷ []

unfoldable pub top_in : Members → Result Top Rule
top_in table = do
  _ ← only top_keys table
  ranges ← needed (codes "version") version table
  turn ← default_to turn.All (codes "turn") turn_in table
  shift ← default_to ranges.shift (codes "shift") (number ranges.shift) table
  centre ← optional (codes "centre") (three ranges.place) table
  features ← default_to [] (codes "feature") (tables_to FEATURES) table
  datums ← default_to [] (codes "datum") (tables_to DATUMS) table
  frames ← needed (codes "frame") (some_tables_to FRAMES) table
  Ok (record { ranges = ranges; turn = turn; shift = shift; centre = centre; features = features; datums = datums; frames = frames })

-- NAMES

-- the name of a table, which no earlier table of its list has
abbrev pub new_name : List (List ℕ) → Data → Result (List ℕ) Rule
new_name earlier d = name d >>= (λ n. if is_among earlier n then Err rule.Once else Ok n)

-- the name of a feature that has a table, as the place of the table
abbrev pub known_feature : List (List ℕ) → Data → Result ℕ Rule
known_feature features d = name d >>= (λ n. or_broken (place_of features n) rule.Feature)

-- A FEATURE TABLE

-- three numbers within 1,000, not all 0
abbrev pub is_zero : V3 → Bool
is_zero v = int_eq v.x (pos 0) && int_eq v.y (pos 0) && int_eq v.z (pos 0)

abbrev pub direction : Data → Result V3 Rule
direction d = three ENTRY d >>= (λ v. if is_zero v then Err rule.Direction else Ok v)

-- a sphere needs no direction: it then has (0, 0, 1), which isn't used
abbrev pub without_direction : Shape → Result V3 Rule
without_direction shape.Sphere = Ok (record { x = pos 0; y = pos 0; z = pos 1 })
without_direction _ = Err rule.Needed

abbrev pub feature_keys : List (List ℕ)
feature_keys =
    codes "name" ∷ codes "shape" ∷ codes "direction" ∷ codes "point" ∷ codes "radius" ∷ codes "mmc" ∷ codes "lmc" ∷ []

unfoldable pub feature_in : Table → Ranges → List (List ℕ) → Members → Result (List ℕ × FeatureDef) Rule
feature_in points ranges earlier table = do
  _ ← only feature_keys table
  name ← needed (codes "name") (new_name earlier) table
  feature ← or_broken (place_of points.names name) rule.Feature
  shape ← needed (codes "shape") (word shape_of) table
  direction ← value_or (without_direction shape) direction (get_member (codes "direction") table)
  point ← needed (codes "point") (three ranges.place) table
  radius ← optional (codes "radius") (number ranges.radius) table
  mmc ← optional (codes "mmc") (number ranges.diameter) table
  lmc ← optional (codes "lmc") (number ranges.diameter) table
  Ok (name, record { feature = feature; shape = shape; direction = direction; point = point; radius = radius; mmc = mmc; lmc = lmc })

-- A DATUM TABLE

abbrev pub datum_keys : List (List ℕ)
datum_keys = codes "name" ∷ codes "feature" ∷ codes "slack" ∷ codes "boundary" ∷ []

unfoldable pub datum_in : List (List ℕ) → Ranges → List (List ℕ) → Members → Result DatumDef Rule
datum_in features ranges earlier table = do
  _ ← only datum_keys table
  name ← needed (codes "name") (new_name earlier) table
  feature ← needed (codes "feature") (known_feature features) table
  slack ← default_to USUAL_SLACK (codes "slack") (number SLACK) table
  boundary ← optional (codes "boundary") (number ranges.diameter) table
  Ok (record { name = name; feature = feature; slack = slack; boundary = boundary })

-- LISTS OF NAMES IN A FRAME

-- a form kind has one feature, another kind 1 to 64
abbrev pub most_features : Kind → ℕ
most_features k = if is_form k then 1 else FRAME_FEATURES

-- 1 to 64 names of features that have tables, none twice, as the places of the tables
unfoldable pub features_in : List (List ℕ) → Kind → Data → Result (List ℕ) Rule
features_in features kind d = do
  list ← texts d
  names ← or_broken (if nat_le 1 (length list) && nat_le (length list) (most_features kind) then each_as name_of list else None) rule.Range
  _ ← once names
  or_broken (each_as (place_of features) names) rule.Feature

-- a datum word: the name of a datum, or the name and `(M)` behind it
pub record Word : Type 0 where
  pub name : List ℕ
  pub at_mmb : Bool

abbrev pub word_named : Bool → List ℕ → Option Word
word_named at_mmb text = option_map (λ n. record { name = n; at_mmb = at_mmb }) (name_of text)

abbrev pub word_of : List ℕ → Option Word
word_of text =
    if pointwise nat_eq (drop (length text - 3) text) (codes "(M)")
    then word_named true (take (length text - 3) text)
    else word_named false text

abbrev pub datum_of : List (List ℕ) → Word → Option DatumRef
datum_of datums w = option_map (λ place. record { datum = place; at_mmb = w.at_mmb }) (place_of datums w.name)

-- 0 to 3 words of datums that have tables, no datum twice, with the places of the tables
unfoldable pub words_in : List (List ℕ) → Data → Result (List DatumRef) Rule
words_in datums d = do
  list ← texts d
  words ← or_broken (if nat_le (length list) WORDS then each_as word_of list else None) rule.Range
  _ ← once (map (λ w. w.name) words)
  or_broken (each_as (datum_of datums) words) rule.Datum

-- A FRAME TABLE

abbrev pub frame_keys : List (List ℕ)
frame_keys = codes "name" ∷ codes "kind" ∷ codes "features" ∷ codes "tolerance" ∷ codes "datums" ∷ codes "material"
    ∷ codes "above" ∷ codes "lower" ∷ codes "lower_datums" ∷ codes "separate" ∷ []

-- what stands behind a frame's features: the frame of a name, a kind and places
unfoldable pub stated_in : List (List ℕ) → List ℕ → Kind → List ℕ → Members → Result Frame Rule
stated_in datums name kind places table = do
  tolerance ← needed (codes "tolerance") (number TOLERANCE) table
  words ← default_to [] (codes "datums") (words_in datums) table
  material ← default_to material.Rfs (codes "material") (word material_of) table
  above ← optional (codes "above") (number tolerance) table
  lower ← optional (codes "lower") (number tolerance) table
  lower_words ← default_to [] (codes "lower_datums") (words_in datums) table
  separate ← default_to false (codes "separate") truth table
  Ok (record {
    name = name;
    kind = kind;
    features = places;
    tolerance = tolerance;
    datums = words;
    material = material;
    above = above;
    lower = lower;
    lower_datums = lower_words;
    separate = separate;
  })

unfoldable pub frame_in : List (List ℕ) → List (List ℕ) → List (List ℕ) → Members → Result Frame Rule
frame_in features datums earlier table = do
  _ ← only frame_keys table
  name ← needed (codes "name") (new_name earlier) table
  kind ← needed (codes "kind") (word kind_of) table
  places ← needed (codes "features") (features_in features kind) table
  stated_in datums name kind places table
