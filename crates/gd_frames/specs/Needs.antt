-- What a frame needs of its features and datums: code 23 where they lack a number, 29 where a datum has too few groups.
use Rattle.std.specs.Prelude.{ℕ, ◌+◌, ◌-◌, Bool, true, false, not, List, [], ◌∷◌, length, is_some, slice_get, nat_le, ◌&&◌, ◌||◌, Result, Ok, Err, if◌then◌else◌}
use Rattle.std.specs.List.{list_all}
use Rattle.gd_frames.specs.Combinations.{feature_of, is_allowed, passes}
use Rattle.gd_frames.specs.Groups.{contact_groups}
use Rattle.gd_tables.specs.Kinds.{Frame}
use Rattle.gd_tables.specs.declared.file.DatumDef.{DatumDef}
use Rattle.gd_tables.specs.declared.file.DatumRef.{DatumRef}
use Rattle.gd_tables.specs.declared.file.FeatureDef.{FeatureDef}
use Rattle.gd_tables.specs.declared.kind.Kind.{Kind}
use Rattle.gd_tables.specs.declared.kind.Kind.TheVariants as kind
use Rattle.gd_tables.specs.declared.kind.Material.{Material}
use Rattle.gd_tables.specs.declared.kind.Material.TheVariants as material
use Rattle.gd_tables.specs.declared.kind.Shape.{Shape}
use Rattle.gd_tables.specs.declared.kind.Shape.TheVariants as shape
use Rattle.gd_keys.specs.declared.rule.Rule.{Rule}
use Rattle.gd_keys.specs.declared.rule.Rule.TheVariants as rule
use Rattle.gd_points.specs.declared.table.Row.{Row}

-- a word with `(M)` needs a datum with a boundary
abbrev pub has_boundary : List DatumDef → DatumRef → Bool
has_boundary datums w = not w.at_mmb || passes (λ (d : DatumDef). is_some d.boundary) (slice_get datums w.datum)

-- a material condition needs its diameter of each feature
abbrev pub has_diameter : Material → FeatureDef → Bool
has_diameter material.Rfs def = true
has_diameter material.Mmc def = is_some def.mmc
has_diameter material.Lmc def = is_some def.lmc

-- a profile needs the radius of what is round
abbrev pub is_round : Shape → Bool
is_round shape.Hole = true
is_round shape.Pin = true
is_round shape.Sphere = true
is_round _ = false

abbrev pub has_radius : Kind → FeatureDef → Bool
has_radius kind.Profile def = not (is_round def.shape) || is_some def.radius
has_radius _ def = true

-- the numbers that a frame needs are stated. The words of a lower segment are words of `datums` too
abbrev pub has_numbers : List FeatureDef → List DatumDef → Frame → Bool
has_numbers features datums f =
    list_all (has_boundary datums) f.datums
    && list_all (λ place. passes (λ (def : FeatureDef). has_diameter f.material def && has_radius f.kind def) (slice_get features place)) f.features

-- how many contact groups a datum needs: a plane 3, 2 or 1 as first, second or third word, a hole or a pin without `(M)` 3
abbrev pub least_contacts : ℕ → Shape → Bool → ℕ
least_contacts place shape.Plane at_mmb = 3 - place
least_contacts place shape.Hole at_mmb = if at_mmb then 0 else 3
least_contacts place shape.Pin at_mmb = if at_mmb then 0 else 3
least_contacts place _ at_mmb = 0

-- the words from a place on have contact groups enough
abbrev pub have_contacts : List FeatureDef → List DatumDef → List Row → ℕ → List DatumRef → Bool
have_contacts features datums rows place [] = true
have_contacts features datums rows place (w ∷ more) =
    passes (λ (def : FeatureDef). nat_le (least_contacts place def.shape w.at_mmb) (length (contact_groups rows def.feature))) (feature_of features datums w)
    && have_contacts features datums rows (place + 1) more

-- a frame may state what it states, has the numbers that it needs, and touches its datums
abbrev pub judged : List FeatureDef → List DatumDef → List Row → Frame → Result Frame Rule
judged features datums rows f =
    if not (is_allowed features datums f) then Err rule.Combination
    else if not (has_numbers features datums f) then Err rule.Needed
    else if not (have_contacts features datums rows 0 f.datums) then Err rule.Contacts
    else Ok f
