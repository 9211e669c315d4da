-- How many conditions and local offsets the group of a frame has. The tables that make the conditions have as many.
use Rattle.std.specs.Prelude.{ℕ, ◌+◌, Bool, true, false, not, List, length, Option, Some, None, is_some, slice_get}
use Rattle.std.specs.Prelude.{nat_eq, nat_lt, ◌&&◌, ◌||◌, Result, Ok, Err, if◌then◌else◌}
use Rattle.std.specs.List.{sum_by}
use Rattle.gd_base.specs.Limits.{CONDITIONS, OFFSETS}
use Rattle.gd_frames.specs.Combinations.{begin, feature_of}
use Rattle.gd_frames.specs.Groups.{contact_groups, groups}
use Rattle.gd_keys.specs.declared.rule.Rule.{Rule}
use Rattle.gd_keys.specs.declared.rule.Rule.TheVariants as rule
use Rattle.gd_points.specs.declared.table.Row.{Row}
use Rattle.gd_tables.specs.Kinds.{Frame}
use Rattle.gd_tables.specs.declared.file.DatumDef.{DatumDef}
use Rattle.gd_tables.specs.declared.file.DatumRef.{DatumRef}
use Rattle.gd_tables.specs.declared.file.FeatureDef.{FeatureDef}
use Rattle.gd_tables.specs.declared.kind.Kind.{Kind}
use Rattle.gd_tables.specs.declared.kind.Kind.TheVariants as kind
use Rattle.gd_tables.specs.declared.kind.Shape.{Shape}
use Rattle.gd_tables.specs.declared.kind.Shape.TheVariants as shape

-- of what stands at a place, and 0 where nothing does
abbrev pub count_at : {A : Type 0} → (A → ℕ) → Option A → ℕ
count_at count None = 0
count_at count (Some x) = count x

-- a datum word: a plane has one condition on all its points and one for each contact group, a hole or a pin has one for
-- each contact group, and with `(M)` it has just one
abbrev pub by_shape : Shape → Bool → ℕ → ℕ
by_shape shape.Plane at_mmb contacts = 1 + contacts
by_shape shape.Hole at_mmb contacts = if at_mmb then 1 else contacts
by_shape shape.Pin at_mmb contacts = if at_mmb then 1 else contacts
by_shape _ at_mmb contacts = 0

abbrev pub datum_conditions : List Row → Bool → FeatureDef → ℕ
datum_conditions rows at_mmb def = by_shape def.shape at_mmb (length (contact_groups rows def.feature))

-- a feature of a frame has one condition, and in a circular runout one for each of its groups
abbrev pub feature_conditions : List Row → Kind → FeatureDef → ℕ
feature_conditions rows kind.CircularRunout def = length (groups rows def.feature)
feature_conditions rows _ def = 1

-- each axis, hole or pin of an orientation has a local offset of its own
abbrev pub feature_offsets : Kind → Shape → ℕ
feature_offsets kind.Orientation shape.Plane = 0
feature_offsets kind.Orientation _ = 1
feature_offsets _ any = 0

abbrev pub words_conditions : List FeatureDef → List DatumDef → List Row → List DatumRef → ℕ
words_conditions features datums rows words =
    sum_by (λ (w : DatumRef). count_at (datum_conditions rows w.at_mmb) (feature_of features datums w)) words

abbrev pub frame_conditions : List FeatureDef → List Row → Frame → ℕ
frame_conditions features rows f =
    sum_by (λ place. count_at (feature_conditions rows f.kind) (slice_get features place)) f.features

abbrev pub frame_offsets : List FeatureDef → Frame → ℕ
frame_offsets features f =
    sum_by (λ place. count_at (λ (def : FeatureDef). feature_offsets f.kind def.shape) (slice_get features place))
    f.features

-- position and profile frames with the same datum words, one or more, are one group, unless a frame is separate
abbrev pub is_located : Kind → Bool
is_located kind.Position = true
is_located kind.Profile = true
is_located _ = false

abbrev pub is_joined : Frame → Bool
is_joined f = is_located f.kind && nat_lt 0 (length f.datums) && not f.separate

abbrev pub joins : Frame → Frame → Bool
joins f g = is_joined f && is_joined g && nat_eq (length f.datums) (length g.datums) && begin f.datums g.datums

-- the conditions of the group of a frame: those of its words, of the earlier frames of the group, and its own
abbrev pub group_conditions : List FeatureDef → List DatumDef → List Row → List Frame → Frame → ℕ
group_conditions features datums rows earlier f =
    words_conditions features datums rows f.datums
    + (sum_by (λ g. if joins f g then frame_conditions features rows g else 0) earlier
    + frame_conditions features rows f)

-- a lower segment is a group by itself, with one offset for all its features
abbrev pub lower_conditions : List FeatureDef → List DatumDef → List Row → Frame → ℕ
lower_conditions features datums rows f =
    if is_some f.lower then words_conditions features datums rows f.lower_datums + length f.features else 0

-- a group has at most two local offsets and at most 4,096 conditions
abbrev pub limits : List FeatureDef → List DatumDef → List Row → List Frame → Frame → Result (Unit {0}) Rule
limits features datums rows earlier f =
    if nat_lt OFFSETS (frame_offsets features f) then Err rule.Offsets
    else if nat_lt CONDITIONS (group_conditions features datums rows earlier f)
    || nat_lt CONDITIONS (lower_conditions features datums rows f)
    then Err rule.Conditions
    else Ok tt
