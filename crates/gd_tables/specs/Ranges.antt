-- The ranges of a frame file's numbers, by the version of the file. All lengths are in units of 0.1 micrometre.
use Rattle.std.specs.Prelude.{ℤ, pos, Option, Some, None, if◌then◌else◌}
use Rattle.std.specs.Ordering.{int_eq}
use Rattle.gd_base.specs.Limits.{COORDINATE, DIAMETER, RADIUS, SHIFT}
use Rattle.gd_tables.specs.declared.ranges.Ranges.{Ranges}

-- version 1: numbers of a centre and of a point, the shift and its default, radii, diameters
abbrev pub version_1 : Ranges
version_1 = record { place = COORDINATE; shift = SHIFT; radius = RADIUS; diameter = DIAMETER }

-- the ranges of a version that is known
abbrev pub ranges_of : ℤ → Option Ranges
ranges_of version = if int_eq version (pos 1) then Some version_1 else None
