-- The table of datum words: which conditions a word stands for, one definition a row. A number of a demand is in half
-- units, so a slack counts twice and a diameter stands as it is.
use Rattle.std.specs.Prelude.{ℕ, pos, ◌*◌, Bool, true, false, List, [], ◌∷◌, map, Some, None, option_map}
use Rattle.gd_tables.specs.declared.file.DatumDef.{DatumDef}
use Rattle.gd_tables.specs.declared.file.FeatureDef.{FeatureDef}
use Rattle.gd_tables.specs.declared.kind.Shape.{Shape}
use Rattle.gd_tables.specs.declared.kind.Shape.TheVariants as shape
use Rattle.gd_vec.specs.declared.vector.V3.{V3}
use Rattle.gd_zone.specs.declared.condition.Condition.{Condition}
use Rattle.gd_zone.specs.declared.condition.Demand.{Demand}
use Rattle.gd_zone.specs.declared.condition.Demand.TheVariants.{Within, Contact, HugInner, HugOuter}
use Rattle.gd_zone.specs.declared.condition.Surface.{Surface}
use Rattle.gd_zone.specs.declared.condition.Surface.TheVariants.{Plane, Axis, Ball}

-- the nominal surface of a shape: a plane, the axis of what is round along a direction, the centre of a sphere
abbrev pub surface_of : Shape → V3 → V3 → Surface
surface_of shape.Plane direction point = Plane direction point
surface_of shape.Hole direction point = Axis direction point
surface_of shape.Pin direction point = Axis direction point
surface_of shape.Axis direction point = Axis direction point
surface_of shape.Sphere direction point = Ball point

-- the nominal surface of a feature
abbrev pub nominal_surface : FeatureDef → Surface
nominal_surface def = surface_of def.shape def.direction def.point

-- a demand on the points of one group of a feature, on distances from a surface
abbrev pub on_group : Surface → Demand → ℕ → ℕ → Condition
on_group surface demand feature group =
    record { surface = surface; demand = demand; feature = feature; group = Some group; offset = 0 }

-- a demand on all points of a feature, on distances from its own surface
abbrev pub on_all : FeatureDef → Demand → Condition
on_all def demand =
    record { surface = nominal_surface def; demand = demand; feature = def.feature; group = None; offset = 0 }

-- the same demand of each contact group by itself, in ascending order of the groups
abbrev pub on_each : FeatureDef → Demand → List ℕ → List Condition
on_each def demand contacts = map (on_group (nominal_surface def) demand def.feature) contacts

-- 1. A plane: no point lies below the datum plane, and each contact group has a point within the slack of it.
abbrev pub plane : List ℕ → FeatureDef → DatumDef → List Condition
plane contacts def d = on_all def (Within (Some (pos 0)) None) ∷ on_each def (Contact (pos (2 * d.slack))) contacts

-- 2. A hole at any size: each contact group has a point within the slack of the least distance from the datum axis.
abbrev pub hole : List ℕ → FeatureDef → DatumDef → List Condition
hole contacts def d = on_each def (HugInner (pos (2 * d.slack))) contacts

-- 3. A pin at any size: each contact group has a point within the slack of the greatest distance from the datum axis.
abbrev pub pin : List ℕ → FeatureDef → DatumDef → List Condition
pin contacts def d = on_each def (HugOuter (pos (2 * d.slack))) contacts

-- 4. A hole at its maximum material boundary: no point lies inside of the boundary.
abbrev pub hole_at_boundary : FeatureDef → DatumDef → List Condition
hole_at_boundary def d = on_all def (Within (option_map pos d.boundary) None) ∷ []

-- 5. A pin at its maximum material boundary: no point lies outside of the boundary.
abbrev pub pin_at_boundary : FeatureDef → DatumDef → List Condition
pin_at_boundary def d = on_all def (Within None (option_map pos d.boundary)) ∷ []

-- the row of a shape, with `(M)` or without; no other shape may be a datum
abbrev pub row : Shape → Bool → List ℕ → FeatureDef → DatumDef → List Condition
row shape.Plane at_mmb contacts def d = plane contacts def d
row shape.Hole false contacts def d = hole contacts def d
row shape.Hole true contacts def d = hole_at_boundary def d
row shape.Pin false contacts def d = pin contacts def d
row shape.Pin true contacts def d = pin_at_boundary def d
row _ at_mmb contacts def d = []
