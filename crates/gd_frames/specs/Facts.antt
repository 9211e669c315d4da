-- What is so of every frame file that was read beside a table of points.
use Rattle.std.specs.Prelude.{ℕ, ◌≡◌, ◌≢◌, ◌<◌, ◌≤◌, true, false, List, length, take, get_or, Option, IfSome}
use Rattle.std.specs.List.{All, AllPairs}
use Rattle.gd_base.specs.Limits.{CONDITIONS, COORDINATE, DATUMS, DIAMETER, ENTRY, FEATURES, FRAMES, FRAME_FEATURES, OFFSETS, RADIUS, SHIFT, SLACK, TOLERANCE, TURN, WORDS}
use Rattle.gd_frames.specs.Combinations.{is_allowed}
use Rattle.gd_frames.specs.Counts.{frame_offsets, group_conditions, lower_conditions}
use Rattle.gd_frames.specs.Needs.{has_numbers, have_contacts}
use Rattle.gd_points.specs.Table.{Table}
use Rattle.gd_points.specs.declared.table.Row.{Row}
use Rattle.gd_tables.specs.Grammar.{is_zero}
use Rattle.gd_tables.specs.Kinds.{File, Frame}
use Rattle.gd_tables.specs.declared.file.DatumDef.{DatumDef}
use Rattle.gd_tables.specs.declared.file.DatumRef.{DatumRef}
use Rattle.gd_tables.specs.declared.file.FeatureDef.{FeatureDef}
use Rattle.gd_tables.specs.declared.kind.Turn.{Turn}
use Rattle.gd_tables.specs.declared.kind.Turn.TheVariants as turn
use Rattle.gd_vec.specs.Vector.{IsWithin}

-- a number is at most this, where it is stated
abbrev pub IsUpTo : ℕ → Option ℕ → Type 0
IsUpTo limit number = IfSome number (λ n. n ≤ limit)

-- a part may be turned in any way, or with ratios of at most 2^-k, with k up to 20
abbrev pub IsTurn : Turn → Type 0
IsTurn turn.All = Unit {0}
IsTurn (turn.Within k) = k ≤ TURN

-- a feature is one of those of the points, and its numbers are in their ranges
pub record IsFeature (of_points : ℕ) (f : FeatureDef) : Type 0 where
  pub used : f.feature < of_points
  pub direction : IsWithin ENTRY f.direction
  pub some_direction : is_zero f.direction ≡ false
  pub point : IsWithin COORDINATE f.point
  pub radius : IsUpTo RADIUS f.radius
  pub mmc : IsUpTo DIAMETER f.mmc
  pub lmc : IsUpTo DIAMETER f.lmc

-- a datum is one of the features, and its numbers are in their ranges
pub record IsDatum (of_features : ℕ) (d : DatumDef) : Type 0 where
  pub placed : d.feature < of_features
  pub slack : d.slack ≤ SLACK
  pub boundary : IsUpTo DIAMETER d.boundary

-- 1 to 64 places of features, none twice
pub record ArePlaces (of_features : ℕ) (places : List ℕ) : Type 0 where
  pub some : 0 < length places
  pub few : length places ≤ FRAME_FEATURES
  pub placed : All (λ place. place < of_features) places
  pub once : AllPairs (λ p q. p ≢ q) places

-- at most three datum words, none of a datum twice
pub record AreWords (of_datums : ℕ) (words : List DatumRef) : Type 0 where
  pub few : length words ≤ WORDS
  pub placed : All (λ (w : DatumRef). w.datum < of_datums) words
  pub once : AllPairs (λ (v w : DatumRef). v.datum ≢ w.datum) words

-- a frame names features and datums that there are, and its numbers are in their ranges
pub record IsFrame (of_features of_datums : ℕ) (f : Frame) : Type 0 where
  pub features : ArePlaces of_features f.features
  pub tolerance : f.tolerance ≤ TOLERANCE
  pub datums : AreWords of_datums f.datums
  pub above : IsUpTo f.tolerance f.above
  pub lower : IsUpTo f.tolerance f.lower
  pub lower_datums : AreWords of_datums f.lower_datums

-- what a frame states may be stated together, it has the numbers that it needs, and its datums contact groups enough
pub record IsJudged (features : List FeatureDef) (datums : List DatumDef) (rows : List Row) (f : Frame) : Type 0 where
  pub allowed : is_allowed features datums f ≡ true
  pub numbers : has_numbers features datums f ≡ true
  pub contacts : have_contacts features datums rows 0 f.datums ≡ true

-- the groups of a frame are small, with the earlier frames
pub record IsSmall (features : List FeatureDef) (datums : List DatumDef) (rows : List Row) (earlier : List Frame)
    (f : Frame) : Type 0 where
  pub offsets : frame_offsets features f ≤ OFFSETS
  pub conditions : group_conditions features datums rows earlier f ≤ CONDITIONS
  pub lower : lower_conditions features datums rows f ≤ CONDITIONS

-- each frame is small, with those before it
abbrev pub AreSmall : List FeatureDef → List DatumDef → List Row → List Frame → Type 0
AreSmall features datums rows frames =
    (k : ℕ) (d : Frame) → k < length frames → IsSmall features datums rows (take k frames) (get_or frames k d)

-- the numbers of the top level are in their ranges, no table's name stands twice in its list, and each table is as above
pub record IsFile (points : Table) (file : File) : Type 0 where
  pub turn : IsTurn file.turn
  pub shift : file.shift ≤ SHIFT
  pub centre : IfSome file.centre (IsWithin COORDINATE)
  pub few_features : length file.features ≤ FEATURES
  pub few_datums : length file.datums ≤ DATUMS
  pub some_frames : 0 < length file.frames
  pub few_frames : length file.frames ≤ FRAMES
  pub features : All (IsFeature (length points.names)) file.features
  pub features_once : AllPairs (λ (f g : FeatureDef). f.feature ≢ g.feature) file.features
  pub datums : All (IsDatum (length file.features)) file.datums
  pub datum_names : AllPairs (λ (d e : DatumDef). d.name ≢ e.name) file.datums
  pub frames : All (IsFrame (length file.features) (length file.datums)) file.frames
  pub frame_names : AllPairs (λ (f g : Frame). f.name ≢ g.name) file.frames
  pub judged : All (IsJudged file.features file.datums points.rows) file.frames
  pub small : AreSmall file.features file.datums points.rows file.frames
