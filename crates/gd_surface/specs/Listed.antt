-- The conditions of a profile or a runout frame: those of its features, in their order.
use Rattle.std.specs.Prelude.{ℕ, List, [], ◌∷◌, Option, None, slice_get, option_and_then, option_map}
use Rattle.std.specs.List.{flat_map}
use Rattle.gd_datum.specs.Listed.{listed_at}
use Rattle.gd_frames.specs.Combinations.{feature_of}
use Rattle.gd_points.specs.declared.table.Row.{Row}
use Rattle.gd_surface.specs.Kinds.{demand, row}
use Rattle.gd_tables.specs.Kinds.{File, Frame}
use Rattle.gd_tables.specs.declared.file.DatumDef.{DatumDef}
use Rattle.gd_tables.specs.declared.file.DatumRef.{DatumRef}
use Rattle.gd_tables.specs.declared.file.FeatureDef.{FeatureDef}
use Rattle.gd_tables.specs.declared.kind.Kind.{Kind}
use Rattle.gd_zone.specs.declared.condition.Condition.{Condition}
use Rattle.gd_zone.specs.declared.condition.Demand.{Demand}

-- the feature of the first datum word: a runout is judged about its axis
abbrev pub first_datum : List FeatureDef → List DatumDef → List DatumRef → Option FeatureDef
first_datum features datums [] = None
first_datum features datums (w ∷ more) = feature_of features datums w

-- the conditions of features by their places
abbrev pub of_places : List FeatureDef → List Row → Kind → Option FeatureDef → ℕ → Option ℕ → List ℕ → List Condition
of_places features rows kind datum t u places =
    flat_map (λ place. listed_at (row rows kind datum t u) (slice_get features place)) places

abbrev pub of_features : List FeatureDef → List DatumDef → List Row → ℕ → Frame → List Condition
of_features features datums rows t f =
    of_places features rows f.kind (first_datum features datums f.datums) t f.above f.features

-- the conditions of a frame by its place in the file
abbrev pub of_frame : File → List Row → ℕ → ℕ → List Condition
of_frame file rows number t = listed_at (of_features file.features file.datums rows t) (slice_get file.frames number)

-- what a frame demands of a feature by its place, at a tolerance
abbrev pub demand_in : List FeatureDef → ℕ → ℕ → Frame → Option Demand
demand_in features place t f = option_map (λ (def : FeatureDef). demand f.kind def.shape def t f.above) (slice_get features place)

-- the same of a frame by its place
abbrev pub demand_of : File → ℕ → ℕ → ℕ → Option Demand
demand_of file number place t = option_and_then (demand_in file.features place t) (slice_get file.frames number)
