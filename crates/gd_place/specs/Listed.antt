-- The conditions of a position or an orientation frame: one a feature, in the order of the features.
use Rattle.std.specs.Prelude.{ℕ, ◌+◌, List, [], ◌∷◌, ◌++◌, Option, slice_get, option_and_then, option_map}
use Rattle.gd_datum.specs.Listed.{listed_at}
use Rattle.gd_frames.specs.Counts.{count_at, feature_offsets}
use Rattle.gd_place.specs.Kinds.{demand, on_feature, own_offset}
use Rattle.gd_tables.specs.Kinds.{File, Frame}
use Rattle.gd_tables.specs.declared.file.FeatureDef.{FeatureDef}
use Rattle.gd_tables.specs.declared.kind.Kind.{Kind}
use Rattle.gd_tables.specs.declared.kind.Material.{Material}
use Rattle.gd_zone.specs.declared.condition.Condition.{Condition}
use Rattle.gd_zone.specs.declared.condition.Demand.{Demand}

-- the condition of a feature of a frame, with its offset
abbrev pub of_feature : Kind → Material → ℕ → ℕ → FeatureDef → List Condition
of_feature kind material t offset def =
    on_feature def (demand material def.shape def t) (own_offset kind def.shape offset) ∷ []

-- how many offsets the feature at a place takes: one where it's an axis, a hole or a pin that is oriented
abbrev pub offsets_at : List FeatureDef → Kind → ℕ → ℕ
offsets_at features kind place =
    count_at (λ (def : FeatureDef). feature_offsets kind def.shape) (slice_get features place)

-- the conditions of features by their places, from an offset on: features that are oriented take the next offset each,
-- features that are located share one
abbrev pub of_places : List FeatureDef → Kind → Material → ℕ → ℕ → List ℕ → List Condition
of_places features kind material t offset [] = []
of_places features kind material t offset (place ∷ more) =
    listed_at (of_feature kind material t offset) (slice_get features place)
    ++ of_places features kind material t (offset + offsets_at features kind place) more

abbrev pub of_features : List FeatureDef → ℕ → ℕ → Frame → List Condition
of_features features t offset f = of_places features f.kind f.material t offset f.features

-- the conditions of a frame by its place in the file
abbrev pub of_frame : File → ℕ → ℕ → ℕ → List Condition
of_frame file number t offset = listed_at (of_features file.features t offset) (slice_get file.frames number)

-- what a frame demands of a feature by its place, at a tolerance
abbrev pub demand_in : List FeatureDef → ℕ → ℕ → Frame → Option Demand
demand_in features place t f = option_map (λ (def : FeatureDef). demand f.material def.shape def t) (slice_get features place)

-- the same of a frame by its place
abbrev pub demand_of : File → ℕ → ℕ → ℕ → Option Demand
demand_of file number place t = option_and_then (demand_in file.features place t) (slice_get file.frames number)
