-- The conditions of a group that is judged at a placement: those of its datum words, once, and then those of its
-- requirements in their order. A form has none: it's judged by a rule of its own.
use Rattle.std.specs.Prelude.{ℕ, List, [], ◌∷◌, ◌++◌, Option, map, max, fold, slice_get}
use Rattle.std.specs.List.{flat_map}
use Rattle.gd_datum.specs.Listed.{listed_at, of_words}
use Rattle.gd_group.specs.declared.requirement.Part.{Part}
use Rattle.gd_group.specs.declared.requirement.Part.TheVariants as part
use Rattle.gd_group.specs.declared.requirement.Requirement.{Requirement}
use Rattle.gd_place.specs.Listed as place
use Rattle.gd_points.specs.declared.table.Row.{Row}
use Rattle.gd_surface.specs.Listed as surface
use Rattle.gd_tables.specs.Kinds.{File, Frame}
use Rattle.gd_tables.specs.declared.file.DatumRef.{DatumRef}
use Rattle.gd_tables.specs.declared.kind.Kind.{Kind}
use Rattle.gd_tables.specs.declared.kind.Kind.TheVariants as kind
use Rattle.gd_zone.specs.declared.condition.Condition.{Condition}

-- a whole frame at a tolerance, by its kind: a position is located by its datums and has no offset; an orientation
-- isn't, and its offsets are numbered from 1
abbrev pub of_whole : File → List Row → ℕ → Kind → ℕ → List Condition
of_whole file rows number kind.Position t = place.of_frame file number t 0
of_whole file rows number kind.Orientation t = place.of_frame file number t 1
of_whole file rows number kind.Profile t = surface.of_frame file rows number t
of_whole file rows number kind.CircularRunout t = surface.of_frame file rows number t
of_whole file rows number kind.TotalRunout t = surface.of_frame file rows number t
of_whole file rows number _ t = []

-- a lower segment: the position of all its features at its own tolerance, as a pattern that the offset 1 moves, and not
-- located by the datums
abbrev pub of_lower : File → ℕ → Option ℕ → List Condition
of_lower file number lower = listed_at (λ t. place.of_frame file number t 1) lower

abbrev pub of_part : File → List Row → ℕ → Part → Frame → List Condition
of_part file rows number part.Whole f = of_whole file rows number f.kind f.tolerance
of_part file rows number part.Lower f = of_lower file number f.lower
of_part file rows number (part.Section group) f = []

abbrev pub of_requirement : File → List Row → Requirement → List Condition
of_requirement file rows r = listed_at (of_part file rows r.frame r.part) (slice_get file.frames r.frame)

-- the datum words that a requirement is judged by
abbrev pub words_of_part : Part → Frame → List DatumRef
words_of_part part.Whole f = f.datums
words_of_part part.Lower f = f.lower_datums
words_of_part (part.Section group) f = []

abbrev pub words_of : File → Requirement → List DatumRef
words_of file r = listed_at (words_of_part r.part) (slice_get file.frames r.frame)

-- the datum words of a group: those of its first requirement, as all have the same
abbrev pub group_words : File → List Requirement → List DatumRef
group_words file [] = []
group_words file (r ∷ more) = words_of file r

-- the conditions of a group
abbrev pub of_group : File → List Row → List Requirement → List Condition
of_group file rows rs =
    of_words file.features file.datums rows (group_words file rs) ++ flat_map (of_requirement file rows) rs

-- how many local offsets some conditions name: they are numbered from 1
abbrev pub most_offsets : List Condition → ℕ
most_offsets conditions = fold max 0 (map (λ (c : Condition). c.offset) conditions)
