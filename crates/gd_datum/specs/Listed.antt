-- The conditions of a list of datum words, in their order: those of each word by the table of `Kinds`.
use Rattle.std.specs.Prelude.{Bool, List, [], Option, Some, None, slice_get}
use Rattle.std.specs.List.{flat_map}
use Rattle.gd_datum.specs.Kinds.{row}
use Rattle.gd_frames.specs.Groups.{contact_groups}
use Rattle.gd_points.specs.declared.table.Row.{Row}
use Rattle.gd_tables.specs.declared.file.DatumDef.{DatumDef}
use Rattle.gd_tables.specs.declared.file.DatumRef.{DatumRef}
use Rattle.gd_tables.specs.declared.file.FeatureDef.{FeatureDef}
use Rattle.gd_zone.specs.declared.condition.Condition.{Condition}

-- what is listed for what stands at a place, and nothing where nothing does
abbrev pub listed_at : {A B : Type 0} → (A → List B) → Option A → List B
listed_at list None = []
listed_at list (Some x) = list x

-- the conditions of a datum: its feature's points tell the contact groups
abbrev pub of_datum : List FeatureDef → List Row → Bool → DatumDef → List Condition
of_datum features rows at_mmb d =
    listed_at (λ (def : FeatureDef). row def.shape at_mmb (contact_groups rows def.feature) def d)
    (slice_get features d.feature)

-- the conditions of a datum word, which names its datum by the place in the file
abbrev pub of_word : List FeatureDef → List DatumDef → List Row → DatumRef → List Condition
of_word features datums rows w = listed_at (of_datum features rows w.at_mmb) (slice_get datums w.datum)

-- the conditions of words, one word after another
abbrev pub of_words : List FeatureDef → List DatumDef → List Row → List DatumRef → List Condition
of_words features datums rows words = flat_map (of_word features datums rows) words
