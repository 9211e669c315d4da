-- What a frame may state together. Code 31 is told where it states anything else.
use Rattle.std.specs.Prelude.{Bool, true, false, not, List, [], ◌∷◌, length, Option, Some, None, is_some, is_none}
use Rattle.std.specs.Prelude.{slice_get, nat_eq, nat_lt, ◌&&◌, ◌||◌, ◌==◌}
use Rattle.std.specs.List.{list_all}
use Rattle.std.specs.Option.{option_and_then}
use Rattle.std.proofs.Math.Bool.{beq}
use Rattle.gd_tables.specs.Kinds.{Frame}
use Rattle.gd_tables.specs.declared.file.DatumDef.{DatumDef}
use Rattle.gd_tables.specs.declared.file.DatumRef.{DatumRef}
use Rattle.gd_tables.specs.declared.file.FeatureDef.{FeatureDef}
use Rattle.gd_tables.specs.declared.kind.Kind.{Kind}
use Rattle.gd_tables.specs.declared.kind.Kind.TheVariants as kind
use Rattle.gd_tables.specs.declared.kind.Material.{Material}
use Rattle.gd_tables.specs.declared.kind.Material.TheVariants as material
use Rattle.gd_tables.specs.declared.kind.Shape.{Shape}
use Rattle.gd_tables.specs.declared.kind.Shape.TheVariants as shape

-- 1. A kind and a material condition go with features of these shapes.
abbrev pub takes : Kind → Material → Shape → Bool
takes kind.Flatness material.Rfs shape.Plane = true
takes kind.Straightness material.Rfs shape.Axis = true
takes kind.Circularity material.Rfs shape.Hole = true
takes kind.Circularity material.Rfs shape.Pin = true
takes kind.Cylindricity material.Rfs shape.Hole = true
takes kind.Cylindricity material.Rfs shape.Pin = true
takes kind.Orientation material.Rfs shape.Plane = true
takes kind.Orientation material.Rfs shape.Axis = true
takes kind.Orientation material.Mmc shape.Hole = true
takes kind.Orientation material.Mmc shape.Pin = true
takes kind.Orientation material.Lmc shape.Hole = true
takes kind.Orientation material.Lmc shape.Pin = true
takes kind.Position material.Rfs shape.Axis = true
takes kind.Position material.Mmc shape.Hole = true
takes kind.Position material.Mmc shape.Pin = true
takes kind.Position material.Lmc shape.Hole = true
takes kind.Position material.Lmc shape.Pin = true
takes kind.Profile material.Rfs shape.Plane = true
takes kind.Profile material.Rfs shape.Hole = true
takes kind.Profile material.Rfs shape.Pin = true
takes kind.Profile material.Rfs shape.Sphere = true
takes kind.CircularRunout material.Rfs shape.Plane = true
takes kind.CircularRunout material.Rfs shape.Hole = true
takes kind.CircularRunout material.Rfs shape.Pin = true
takes kind.TotalRunout material.Rfs shape.Plane = true
takes kind.TotalRunout material.Rfs shape.Hole = true
takes kind.TotalRunout material.Rfs shape.Pin = true
takes _ _ _ = false

-- 2. A datum word names a plane without `(M)`, or a hole or a pin with it or without.
abbrev pub may_be_datum : Shape → Bool → Bool
may_be_datum shape.Plane at_mmb = not at_mmb
may_be_datum shape.Hole at_mmb = true
may_be_datum shape.Pin at_mmb = true
may_be_datum _ at_mmb = false

-- 3. A form kind has no datum word, an orientation and a runout have one or more; a runout has them without `(M)`,
-- and its first names a hole or a pin.
abbrev pub may_be_axis : Shape → Bool
may_be_axis shape.Hole = true
may_be_axis shape.Pin = true
may_be_axis _ = false

-- 4. `above` is of a profile, and `lower` and `lower_datums` are of a position.
abbrev pub may_have_above : Kind → Bool
may_have_above kind.Profile = true
may_have_above _ = false

abbrev pub may_have_lower : Kind → Bool
may_have_lower kind.Position = true
may_have_lower _ = false

-- THE SAME OVER A FRAME, whose features and datums are named by their places

-- what stands at a place passes a test
abbrev pub passes : {A : Type 0} → (A → Bool) → Option A → Bool
passes test None = false
passes test (Some x) = test x

-- the feature of the datum that a word names
abbrev pub feature_of : List FeatureDef → List DatumDef → DatumRef → Option FeatureDef
feature_of features datums w =
    option_and_then (λ (d : DatumDef). slice_get features d.feature) (slice_get datums w.datum)

abbrev pub fits_features : List FeatureDef → Frame → Bool
fits_features features f =
    list_all (λ place. passes (λ (def : FeatureDef). takes f.kind f.material def.shape) (slice_get features place))
    f.features

abbrev pub fits_words : List FeatureDef → List DatumDef → List DatumRef → Bool
fits_words features datums words =
    list_all (λ (w : DatumRef). passes (λ (def : FeatureDef). may_be_datum def.shape w.at_mmb)
    (feature_of features datums w)) words

abbrev pub has_axis : List FeatureDef → List DatumDef → List DatumRef → Bool
has_axis features datums [] = false
has_axis features datums (w ∷ more) =
    passes (λ (def : FeatureDef). may_be_axis def.shape) (feature_of features datums w)
    && list_all (λ (v : DatumRef). not v.at_mmb) (w ∷ more)

abbrev pub fits_count : List FeatureDef → List DatumDef → Kind → List DatumRef → Bool
fits_count features datums kind.Orientation words = nat_lt 0 (length words)
fits_count features datums kind.Position words = true
fits_count features datums kind.Profile words = true
fits_count features datums kind.CircularRunout words = has_axis features datums words
fits_count features datums kind.TotalRunout words = has_axis features datums words
fits_count features datums _ words = length words == 0

-- two words are the same, with their `(M)`
abbrev pub same_word : DatumRef → DatumRef → Bool
same_word v w = nat_eq v.datum w.datum && beq v.at_mmb w.at_mmb

-- some words are the first ones of others
abbrev pub begin : List DatumRef → List DatumRef → Bool
begin [] words = true
begin (v ∷ more) [] = false
begin (v ∷ more) (w ∷ words) = same_word v w && begin more words

-- the words of the lower segment need `lower`, and are the first ones of `datums`
abbrev pub fits_lower : Frame → Bool
fits_lower f = (may_have_lower f.kind || (is_none f.lower && length f.lower_datums == 0))
    && (is_some f.lower || length f.lower_datums == 0) && begin f.lower_datums f.datums

-- everything that a frame states may be stated together
abbrev pub is_allowed : List FeatureDef → List DatumDef → Frame → Bool
is_allowed features datums f =
    fits_features features f && fits_words features datums f.datums && fits_count features datums f.kind f.datums
    && (may_have_above f.kind || is_none f.above) && fits_lower f
