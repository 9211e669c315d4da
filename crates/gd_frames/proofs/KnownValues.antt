-- The definitions by values worked by hand.
use Rattle.std.specs.Prelude.{◌≡◌, [], ◌∷◌, true, false, refl}
use Rattle.gd_frames.specs.Combinations.{begin, may_be_datum, takes}
use Rattle.gd_frames.specs.Counts.{by_shape, feature_offsets}
use Rattle.gd_frames.specs.Needs.{least_contacts}
use Rattle.gd_tables.specs.declared.kind.Kind.TheVariants as kind
use Rattle.gd_tables.specs.declared.kind.Material.TheVariants as material
use Rattle.gd_tables.specs.declared.kind.Shape.TheVariants as shape

hole_at_rfs : takes kind.Position material.Rfs shape.Hole ≡ false
hole_at_rfs = refl

hole_at_mmc : takes kind.Position material.Mmc shape.Hole ≡ true
hole_at_mmc = refl

sphere_profile : takes kind.Profile material.Rfs shape.Sphere ≡ true
sphere_profile = refl

plane_at_mmb : may_be_datum shape.Plane true ≡ false
plane_at_mmb = refl

second_plane : least_contacts 1 shape.Plane false ≡ 2
second_plane = refl

third_hole : least_contacts 2 shape.Hole false ≡ 3
third_hole = refl

-- a plane with three contact groups has four conditions, a hole as many as groups, and at its boundary one
plane_of_three : by_shape shape.Plane false 3 ≡ 4
plane_of_three = refl

hole_of_three : by_shape shape.Hole false 3 ≡ 3
hole_of_three = refl

hole_at_boundary : by_shape shape.Hole true 3 ≡ 1
hole_at_boundary = refl

offset_of_axis : feature_offsets kind.Orientation shape.Axis ≡ 1
offset_of_axis = refl

-- words are compared with their `(M)`
other_mark : begin (record { datum = 0; at_mmb = true } ∷ []) (record { datum = 0; at_mmb = false } ∷ []) ≡ false
other_mark = refl
