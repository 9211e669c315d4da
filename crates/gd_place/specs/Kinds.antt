-- The table of position and orientation: what a frame at a tolerance t demands of each of its features, one definition
-- a row. t and diameters are in units, and a number of a demand is in half units: the half of a diameter stands as it
-- is.
use Rattle.std.specs.Prelude.{ℕ, ℤ, pos, ◌*◌, ◌+ℤ◌, ◌-ℤ◌, Option, Some, None, option_map}
use Rattle.gd_tables.specs.declared.file.FeatureDef.{FeatureDef}
use Rattle.gd_tables.specs.declared.kind.Kind.{Kind}
use Rattle.gd_tables.specs.declared.kind.Kind.TheVariants as kind
use Rattle.gd_tables.specs.declared.kind.Material.{Material}
use Rattle.gd_tables.specs.declared.kind.Material.TheVariants as material
use Rattle.gd_tables.specs.declared.kind.Shape.{Shape}
use Rattle.gd_tables.specs.declared.kind.Shape.TheVariants as shape
use Rattle.gd_datum.specs.Kinds.{nominal_surface}
use Rattle.gd_zone.specs.declared.condition.Condition.{Condition}
use Rattle.gd_zone.specs.declared.condition.Demand.{Demand}
use Rattle.gd_zone.specs.declared.condition.Demand.TheVariants.{Within, Spread}

-- a diameter and a tolerance together, and a diameter less a tolerance: twice the radius of a boundary
abbrev pub with_tolerance : ℕ → Option ℕ → Option ℤ
with_tolerance t diameter = option_map (λ (d : ℕ). pos d +ℤ pos t) diameter

abbrev pub less_tolerance : ℕ → Option ℕ → Option ℤ
less_tolerance t diameter = option_map (λ (d : ℕ). pos d -ℤ pos t) diameter

-- 1. An axis regardless of feature size: its points lie in a cylinder of diameter t about the true axis.
abbrev pub axis : ℕ → Demand
axis t = Within None (Some (pos t))

-- 2. A hole at maximum material: no point lies inside of the boundary of diameter MMC - t at the true axis.
abbrev pub hole_at_mmc : FeatureDef → ℕ → Demand
hole_at_mmc def t = Within (less_tolerance t def.mmc) None

-- 3. A pin at maximum material: no point lies outside of the boundary of diameter MMC + t at the true axis.
abbrev pub pin_at_mmc : FeatureDef → ℕ → Demand
pin_at_mmc def t = Within None (with_tolerance t def.mmc)

-- 4. A hole at least material: no point lies outside of the boundary of diameter LMC + t at the true axis.
abbrev pub hole_at_lmc : FeatureDef → ℕ → Demand
hole_at_lmc def t = Within None (with_tolerance t def.lmc)

-- 5. A pin at least material: no point lies inside of the boundary of diameter LMC - t at the true axis.
abbrev pub pin_at_lmc : FeatureDef → ℕ → Demand
pin_at_lmc def t = Within (less_tolerance t def.lmc) None

-- 6. The orientation of a plane: its points lie between two planes t apart, at right angles to the true direction.
abbrev pub oriented_plane : ℕ → Demand
oriented_plane t = Spread (pos (2 * t))

-- the row of a material condition and a shape. Regardless of feature size a frame names planes and axes, and at a
-- material condition holes and pins, and no other shape
abbrev pub demand : Material → Shape → FeatureDef → ℕ → Demand
demand material.Rfs shape.Plane def t = oriented_plane t
demand material.Rfs _ def t = axis t
demand material.Mmc shape.Hole def t = hole_at_mmc def t
demand material.Mmc _ def t = pin_at_mmc def t
demand material.Lmc shape.Hole def t = hole_at_lmc def t
demand material.Lmc _ def t = pin_at_lmc def t

-- the condition of a feature, which an offset of the placement moves
abbrev pub on_feature : FeatureDef → Demand → ℕ → Condition
on_feature def d offset =
    record { surface = nominal_surface def; demand = d; feature = def.feature; group = None; offset = offset }

-- which offset moves a feature: an oriented plane, which isn't located anyhow, has none
abbrev pub own_offset : Kind → Shape → ℕ → ℕ
own_offset kind.Orientation shape.Plane offset = 0
own_offset _ any offset = offset
