-- The rows of the table by values worked by hand.
use Rattle.std.specs.Prelude.{ℕ, pos, neg_ℤ, ◌≡◌, refl, [], ◌∷◌, Some, None}
use Rattle.gd_frames.specs.Groups.{groups_from}
use Rattle.gd_points.specs.declared.table.Row.{Row}
use Rattle.gd_surface.specs.Kinds.{demand, row}
use Rattle.gd_tables.specs.declared.file.FeatureDef.{FeatureDef}
use Rattle.gd_tables.specs.declared.kind.Kind.TheVariants as kind
use Rattle.gd_tables.specs.declared.kind.Shape.{Shape}
use Rattle.gd_tables.specs.declared.kind.Shape.TheVariants as shape
use Rattle.gd_vec.specs.declared.vector.V3.{V3}
use Rattle.gd_zone.specs.declared.condition.Demand.TheVariants.{Within, Spread}
use Rattle.gd_zone.specs.declared.condition.Surface.TheVariants.{Plane, Axis}

along_z : V3
along_z = record { x = pos 0; y = pos 0; z = pos 1 }

along_x : V3
along_x = record { x = pos 1; y = pos 0; z = pos 0 }

origin : V3
origin = record { x = pos 0; y = pos 0; z = pos 0 }

-- feature 7 of the points, along x, of radius 1 millimetre; and the feature of a datum, along z
abbrev feature : Shape → FeatureDef
feature s = record { feature = 7; shape = s; direction = along_x; point = origin; radius = Some 10000; mmc = None; lmc = None }

abbrev datum : FeatureDef
datum = record { feature = 8; shape = shape.Pin; direction = along_z; point = origin; radius = None; mmc = None; lmc = None }

-- a tolerance of 0.01 millimetres, of which nothing is stated, or 0.003 millimetres lie above
profile_of_a_plane : demand kind.Profile shape.Plane (feature shape.Plane) 100 None ≡ Within (Some (neg_ℤ (pos 100))) (Some (pos 100))
profile_of_a_plane = refl

plane_above : demand kind.Profile shape.Plane (feature shape.Plane) 100 (Some 30) ≡ Within (Some (neg_ℤ (pos 140))) (Some (pos 60))
plane_above = refl

profile_of_a_pin : demand kind.Profile shape.Pin (feature shape.Pin) 100 None ≡ Within (Some (pos 19900)) (Some (pos 20100))
profile_of_a_pin = refl

sphere_above : demand kind.Profile shape.Sphere (feature shape.Sphere) 100 (Some 30) ≡ Within (Some (pos 19860)) (Some (pos 20060))
sphere_above = refl

-- all of the zone above, and none of it
all_above : demand kind.Profile shape.Plane (feature shape.Plane) 100 (Some 100) ≡ Within (Some (pos 0)) (Some (pos 200))
all_above = refl

none_above : demand kind.Profile shape.Plane (feature shape.Plane) 100 (Some 0) ≡ Within (Some (neg_ℤ (pos 200))) (Some (pos 0))
none_above = refl

-- points of the feature in the groups 5 and 0: a circular runout is judged in each by itself, a total runout once
point : ℕ → Row
point group = record { feature = 7; group = group; at = origin }

circular_by_elements : row (point 5 ∷ point 0 ∷ []) kind.CircularRunout (Some datum) 100 None (feature shape.Pin)
    ≡ record { surface = Axis along_z origin; demand = Spread (pos 200); feature = 7; group = Some 0; offset = 0 }
    ∷ record { surface = Axis along_z origin; demand = Spread (pos 200); feature = 7; group = Some 5; offset = 0 } ∷ []
unfolding point groups_from
circular_by_elements = refl

total_over_all : row (point 5 ∷ point 0 ∷ []) kind.TotalRunout (Some datum) 100 None (feature shape.Pin)
    ≡ record { surface = Axis along_z origin; demand = Spread (pos 200); feature = 7; group = None; offset = 0 } ∷ []
total_over_all = refl

-- of a plane: along the datum's axis, and not along its own direction
total_of_a_face : row [] kind.TotalRunout (Some datum) 100 None (feature shape.Plane)
    ≡ record { surface = Plane along_z origin; demand = Spread (pos 200); feature = 7; group = None; offset = 0 } ∷ []
total_of_a_face = refl
