-- The requirements of a frame file, in the order of its frames. A frame is a requirement, and the lower segment of a
-- composite frame is one more, which stands just after it. A circularity is judged in each section by itself, so its
-- frame has a requirement for each section, in the order of their first points.
use Rattle.std.specs.Prelude.{ℕ, suc, not, List, [], ◌∷◌, ◌++◌, map, filter, Option, Some, None, nat_eq, slice_get}
use Rattle.gd_datum.specs.Listed.{listed_at}
use Rattle.gd_group.specs.declared.requirement.Part.{Part}
use Rattle.gd_group.specs.declared.requirement.Part.TheVariants as part
use Rattle.gd_group.specs.declared.requirement.Requirement.{Requirement}
use Rattle.gd_points.specs.Index.{is_of}
use Rattle.gd_points.specs.declared.table.Row.{Row}
use Rattle.gd_tables.specs.Kinds.{File, Frame}
use Rattle.gd_tables.specs.declared.file.FeatureDef.{FeatureDef}
use Rattle.gd_tables.specs.declared.kind.Kind.{Kind}
use Rattle.gd_tables.specs.declared.kind.Kind.TheVariants as kind

-- each number once, where it stands first
abbrev pub first_ones : List ℕ → List ℕ
first_ones [] = []
first_ones (n ∷ more) = n ∷ filter (λ m. not (nat_eq m n)) (first_ones more)

-- the sections of a feature: the group numbers of its points, in the order of their first points
abbrev pub sections : List Row → FeatureDef → List ℕ
sections rows def = first_ones (map (λ (row : Row). row.group) (filter (is_of def.feature) rows))

-- the feature that a form frame names: it names one
abbrev pub first_feature : List FeatureDef → List ℕ → Option FeatureDef
first_feature features [] = None
first_feature features (place ∷ more) = slice_get features place

abbrev pub form_feature : List FeatureDef → Frame → Option FeatureDef
form_feature features f = first_feature features f.features

abbrev pub lower_part : Option ℕ → List Part
lower_part None = []
lower_part (Some t) = part.Lower ∷ []

-- what of a frame is a requirement, by the frame's kind
abbrev pub parts : List FeatureDef → List Row → Kind → Frame → List Part
parts features rows kind.Circularity f = map part.Section (listed_at (sections rows) (form_feature features f))
parts features rows _ f = part.Whole ∷ lower_part f.lower

-- the section that a part is, by its number: the points of the section have it as their group
abbrev pub section_of : Part → Option ℕ
section_of (part.Section group) = Some group
section_of _ = None

-- a part of a frame, which is named by its place in the file
abbrev pub requirement : ℕ → Part → Requirement
requirement number p = record { frame = number; part = p }

abbrev pub of_frame : List FeatureDef → List Row → ℕ → Frame → List Requirement
of_frame features rows number f = map (requirement number) (parts features rows f.kind f)

-- those of the frames from a place on
abbrev pub of_frames : List FeatureDef → List Row → ℕ → List Frame → List Requirement
of_frames features rows number [] = []
of_frames features rows number (f ∷ more) = of_frame features rows number f ++ of_frames features rows (suc number) more

-- all requirements of a file
abbrev pub requirements : File → List Row → List Requirement
requirements file rows = of_frames file.features rows 0 file.frames
