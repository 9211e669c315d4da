-- The rows of the table by values worked by hand.
use Rattle.std.specs.Prelude.{ℕ, pos, ◌≡◌, refl, [], ◌∷◌, Some, None, true, false}
use Rattle.gd_datum.specs.Kinds.{row}
use Rattle.gd_datum.specs.Listed.{of_words}
use Rattle.gd_frames.specs.Groups.{groups_from}
use Rattle.gd_points.specs.declared.table.Row.{Row}
use Rattle.gd_tables.specs.declared.file.DatumDef.{DatumDef}
use Rattle.gd_tables.specs.declared.file.DatumRef.{DatumRef}
use Rattle.gd_tables.specs.declared.file.FeatureDef.{FeatureDef}
use Rattle.gd_tables.specs.declared.kind.Shape.{Shape}
use Rattle.gd_tables.specs.declared.kind.Shape.TheVariants as shape
use Rattle.gd_vec.specs.declared.vector.V3.{V3}
use Rattle.gd_zone.specs.declared.condition.Condition.{Condition}
use Rattle.gd_zone.specs.declared.condition.Demand.{Demand}
use Rattle.gd_zone.specs.declared.condition.Demand.TheVariants.{Within, Contact, HugInner, HugOuter}
use Rattle.gd_zone.specs.declared.condition.Surface.{Surface}
use Rattle.gd_zone.specs.declared.condition.Surface.TheVariants.{Plane, Axis}

-- a feature along z through the origin, which is number 7 of the points
along_z : V3
along_z = record { x = pos 0; y = pos 0; z = pos 1 }

origin : V3
origin = record { x = pos 0; y = pos 0; z = pos 0 }

abbrev feature : Shape → FeatureDef
feature s = record { feature = 7; shape = s; direction = along_z; point = origin; radius = None; mmc = None; lmc = None }

-- a datum with a slack of 1 micrometre and a boundary of 1.7 millimetres
datum : DatumDef
datum = record { name = 68 ∷ []; feature = 0; slack = 10; boundary = Some 17000 }

abbrev of_all : Surface → Demand → Condition
of_all s d = record { surface = s; demand = d; feature = 7; group = None; offset = 0 }

abbrev of_one : Surface → Demand → ℕ → Condition
of_one s d group = record { surface = s; demand = d; feature = 7; group = Some group; offset = 0 }

-- a plane with the contact groups 1 and 4: its points lie above it, and each group comes within 20 half units
plane_of_two : row shape.Plane false (1 ∷ 4 ∷ []) (feature shape.Plane) datum
    ≡ of_all (Plane along_z origin) (Within (Some (pos 0)) None)
    ∷ of_one (Plane along_z origin) (Contact (pos 20)) 1 ∷ of_one (Plane along_z origin) (Contact (pos 20)) 4 ∷ []
unfolding datum
plane_of_two = refl

hole_of_one : row shape.Hole false (2 ∷ []) (feature shape.Hole) datum ≡ of_one (Axis along_z origin) (HugInner (pos 20)) 2 ∷ []
unfolding datum
hole_of_one = refl

pin_of_one : row shape.Pin false (2 ∷ []) (feature shape.Pin) datum ≡ of_one (Axis along_z origin) (HugOuter (pos 20)) 2 ∷ []
unfolding datum
pin_of_one = refl

-- a hole stays outside of its boundary and a pin inside, whatever its contact groups
hole_with_mark : row shape.Hole true (2 ∷ []) (feature shape.Hole) datum ≡ of_all (Axis along_z origin) (Within (Some (pos 17000)) None) ∷ []
unfolding datum
hole_with_mark = refl

pin_with_mark : row shape.Pin true [] (feature shape.Pin) datum ≡ of_all (Axis along_z origin) (Within None (Some (pos 17000))) ∷ []
unfolding datum
pin_with_mark = refl

-- a file of one pin and one datum, beside points of its feature in the groups 3, 0 and 1: the contact groups are 1 and
-- 3
point : ℕ → Row
point group = record { feature = 7; group = group; at = origin }

word : DatumRef
word = record { datum = 0; at_mmb = false }

contacts_ascend : of_words (feature shape.Pin ∷ []) (datum ∷ []) (point 3 ∷ point 0 ∷ point 1 ∷ []) (word ∷ [])
    ≡ of_one (Axis along_z origin) (HugOuter (pos 20)) 1 ∷ of_one (Axis along_z origin) (HugOuter (pos 20)) 3 ∷ []
unfolding datum point word groups_from
contacts_ascend = refl
