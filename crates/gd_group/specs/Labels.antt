-- The printed names: a requirement's is that of its frame, with `/lower` after it for a lower segment and `#G` for the
-- section G of a circularity. A group's label is the names of its requirements joined by `+`.
use Rattle.std.specs.Prelude.{ℕ, List, [], ◌∷◌, ◌++◌, codes, decimal, slice_get}
use Rattle.gd_datum.specs.Listed.{listed_at}
use Rattle.gd_group.specs.declared.requirement.Part.{Part}
use Rattle.gd_group.specs.declared.requirement.Part.TheVariants as part
use Rattle.gd_group.specs.declared.requirement.Requirement.{Requirement}
use Rattle.gd_tables.specs.Kinds.{File, Frame}

-- what stands after a frame's name
abbrev pub suffix : Part → List ℕ
suffix part.Whole = []
suffix part.Lower = codes "/lower"
suffix (part.Section group) = codes "#" ++ decimal group

abbrev pub name_of : File → Requirement → List ℕ
name_of file r = listed_at (λ (f : Frame). f.name ++ suffix r.part) (slice_get file.frames r.frame)

-- the names of the requirements after the first, each after a `+`
abbrev pub more_names : File → List Requirement → List ℕ
more_names file [] = []
more_names file (r ∷ more) = codes "+" ++ (name_of file r ++ more_names file more)

abbrev pub label : File → List Requirement → List ℕ
label file [] = []
label file (r ∷ more) = name_of file r ++ more_names file more
