-- The table of profile and runout: what a frame at a tolerance t demands of each of its features, one definition a row.
-- t, u and radii are in units, and a number of a demand is in half units: half a tolerance, and a radius, count twice.
use Rattle.std.specs.Prelude.{ℕ, ℤ, pos, neg_ℤ, ◌*◌, ◌+ℤ◌, ◌-ℤ◌, List, [], ◌∷◌, map, Option, Some, None, option_map}
use Rattle.gd_datum.specs.Kinds.{on_all, on_group}
use Rattle.gd_datum.specs.Listed.{listed_at}
use Rattle.gd_frames.specs.Groups.{groups}
use Rattle.gd_points.specs.declared.table.Row.{Row}
use Rattle.gd_tables.specs.declared.file.FeatureDef.{FeatureDef}
use Rattle.gd_tables.specs.declared.kind.Kind.{Kind}
use Rattle.gd_tables.specs.declared.kind.Kind.TheVariants as kind
use Rattle.gd_tables.specs.declared.kind.Shape.{Shape}
use Rattle.gd_tables.specs.declared.kind.Shape.TheVariants as shape
use Rattle.gd_zone.specs.declared.condition.Condition.{Condition}
use Rattle.gd_zone.specs.declared.condition.Demand.{Demand}
use Rattle.gd_zone.specs.declared.condition.Demand.TheVariants.{Within, Spread}
use Rattle.gd_zone.specs.declared.condition.Surface.{Surface}
use Rattle.gd_zone.specs.declared.condition.Surface.TheVariants.{Plane, Axis}

-- ---- how far the zone of a profile reaches from the true profile
-- to the side of the greater distances: half of t, or u where it is stated
abbrev pub above : ℕ → Option ℕ → ℤ
above t None = pos t
above t (Some u) = pos (2 * u)

-- to the other side: half of t, or what u leaves of t
abbrev pub below : ℕ → Option ℕ → ℤ
below t None = pos t
below t (Some u) = pos (2 * t) -ℤ pos (2 * u)

-- ---- demands
-- 1. The profile of a plane: no point is further from the plane than the zone reaches to its side.
abbrev pub profile_plane : ℕ → Option ℕ → Demand
profile_plane t u = Within (Some (neg_ℤ (below t u))) (Some (above t u))

-- 2. The profile of a cylinder or a sphere of radius r: no point's distance from the axis or the centre differs from r
-- by more than the zone reaches to its side.
abbrev pub profile_round : Option ℕ → ℕ → Option ℕ → Demand
profile_round radius t u =
    Within (option_map (λ (r : ℕ). pos (2 * r) -ℤ below t u) radius)
    (option_map (λ (r : ℕ). pos (2 * r) +ℤ above t u) radius)

-- 3. A runout: the distances of no two points differ by more than t.
abbrev pub runout : ℕ → Demand
runout t = Spread (pos (2 * t))

-- the row of a kind and a shape. A profile names planes, holes, pins and spheres, and a runout planes, holes and pins
abbrev pub demand : Kind → Shape → FeatureDef → ℕ → Option ℕ → Demand
demand kind.Profile shape.Plane def t u = profile_plane t u
demand kind.Profile _ def t u = profile_round def.radius t u
demand _ any def t u = runout t

-- ---- conditions
-- the surface of a runout, by the feature of the datum: its axis, or for a plane that plane through its point which is
-- at right angles to the axis
abbrev pub runout_surface : FeatureDef → Shape → Surface
runout_surface datum shape.Plane = Plane datum.direction datum.point
runout_surface datum _ = Axis datum.direction datum.point

-- 1. and 2.: all points of the feature, from its own surface
abbrev pub profile : FeatureDef → ℕ → Option ℕ → List Condition
profile def t u = on_all def (demand kind.Profile def.shape def t u) ∷ []

-- 3. A circular runout: each circular element by itself, which is a group of the feature, 0 too, in ascending order.
abbrev pub circular_runout : List Row → FeatureDef → FeatureDef → ℕ → List Condition
circular_runout rows datum def t =
    map (on_group (runout_surface datum def.shape) (runout t) def.feature) (groups rows def.feature)

-- a demand on all points of a feature, on distances from a surface
abbrev pub on_points : Surface → Demand → ℕ → Condition
on_points surface demand feature =
    record { surface = surface; demand = demand; feature = feature; group = None; offset = 0 }

-- 4. A total runout: all points of the feature together.
abbrev pub total_runout : FeatureDef → FeatureDef → ℕ → List Condition
total_runout datum def t = on_points (runout_surface datum def.shape) (runout t) def.feature ∷ []

-- the conditions of a feature of a frame, whose first datum word names the feature of the datum
abbrev pub row : List Row → Kind → Option FeatureDef → ℕ → Option ℕ → FeatureDef → List Condition
row rows kind.Profile datum t u def = profile def t u
row rows kind.CircularRunout datum t u def = listed_at (λ d. circular_runout rows d def t) datum
row rows kind.TotalRunout datum t u def = listed_at (λ d. total_runout d def t) datum
row rows _ datum t u def = []
