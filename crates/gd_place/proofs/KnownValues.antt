-- The rows of the table by values worked by hand.
use Rattle.std.specs.Prelude.{pos, ◌≡◌, refl, map, List, [], ◌∷◌, Some, None}
use Rattle.gd_place.specs.Kinds.{demand}
use Rattle.gd_place.specs.Listed.{of_places}
use Rattle.gd_tables.specs.declared.file.FeatureDef.{FeatureDef}
use Rattle.gd_tables.specs.declared.kind.Kind.TheVariants as kind
use Rattle.gd_tables.specs.declared.kind.Material.TheVariants as material
use Rattle.gd_tables.specs.declared.kind.Shape.{Shape}
use Rattle.gd_tables.specs.declared.kind.Shape.TheVariants as shape
use Rattle.gd_vec.specs.declared.vector.V3.{V3}
use Rattle.gd_zone.specs.declared.condition.Condition.{Condition}
use Rattle.gd_zone.specs.declared.condition.Demand.TheVariants.{Within, Spread}

origin : V3
origin = record { x = pos 0; y = pos 0; z = pos 0 }

-- a feature of 10.1 millimetres at maximum material and of 9.9 at least material
abbrev feature : Shape → FeatureDef
feature s = record { feature = 7; shape = s; direction = record { x = pos 0; y = pos 0; z = pos 1 }; point = origin; radius = None; mmc = Some 101000; lmc = Some 99000 }

-- at a tolerance of 0.05 millimetres
axis_in_a_cylinder : demand material.Rfs shape.Axis (feature shape.Axis) 500 ≡ Within None (Some (pos 500))
axis_in_a_cylinder = refl

oriented_between_planes : demand material.Rfs shape.Plane (feature shape.Plane) 500 ≡ Spread (pos 1000)
oriented_between_planes = refl

hole_at_maximum : demand material.Mmc shape.Hole (feature shape.Hole) 500 ≡ Within (Some (pos 100500)) None
hole_at_maximum = refl

pin_at_maximum : demand material.Mmc shape.Pin (feature shape.Pin) 500 ≡ Within None (Some (pos 101500))
pin_at_maximum = refl

hole_at_least : demand material.Lmc shape.Hole (feature shape.Hole) 500 ≡ Within None (Some (pos 99500))
hole_at_least = refl

pin_at_least : demand material.Lmc shape.Pin (feature shape.Pin) 500 ≡ Within (Some (pos 98500)) None
pin_at_least = refl

-- an axis, a plane and an axis: oriented, each axis has an offset of its own and the plane none; located, all share one
abbrev three : List FeatureDef
three = feature shape.Axis ∷ feature shape.Plane ∷ feature shape.Axis ∷ []

oriented_apart : map (λ (c : Condition). c.offset) (of_places three kind.Orientation material.Rfs 500 1 (0 ∷ 1 ∷ 2 ∷ [])) ≡ 1 ∷ 0 ∷ 2 ∷ []
oriented_apart = refl

located_together : map (λ (c : Condition). c.offset) (of_places three kind.Position material.Rfs 500 1 (0 ∷ 2 ∷ [])) ≡ 1 ∷ 1 ∷ []
located_together = refl

located_by_datums : map (λ (c : Condition). c.offset) (of_places three kind.Position material.Rfs 500 0 (0 ∷ 2 ∷ [])) ≡ 0 ∷ 0 ∷ []
located_by_datums = refl
