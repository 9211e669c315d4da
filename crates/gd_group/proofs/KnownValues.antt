-- Requirements, groups, names and forms by values worked by hand.
use Rattle.std.specs.Prelude.{ℕ, pos, ◌≡◌, refl, Bool, true, false, List, [], ◌∷◌, Option, Some, None, codes}
use Rattle.std.specs.Fmt.{digits}
use Rattle.gd_dir.specs.declared.shape.FormShape.TheVariants as form
use Rattle.gd_group.specs.Groups.{groups, whole}
use Rattle.gd_group.specs.Labels.{label}
use Rattle.gd_group.specs.Requirements.{requirement, requirements, sections}
use Rattle.gd_group.specs.Tasks.{form_of}
use Rattle.gd_group.specs.declared.requirement.Part.TheVariants as part
use Rattle.gd_points.specs.declared.table.Row.{Row}
use Rattle.gd_tables.specs.Kinds.{File, Frame}
use Rattle.gd_tables.specs.declared.file.DatumRef.{DatumRef}
use Rattle.gd_tables.specs.declared.file.FeatureDef.{FeatureDef}
use Rattle.gd_tables.specs.declared.kind.Kind.{Kind}
use Rattle.gd_tables.specs.declared.kind.Kind.TheVariants as kind
use Rattle.gd_tables.specs.declared.kind.Material.TheVariants as material
use Rattle.gd_tables.specs.declared.kind.Shape.TheVariants as shape
use Rattle.gd_tables.specs.declared.kind.Turn.TheVariants as turn
use Rattle.gd_vec.specs.declared.vector.V3.{V3}

abbrev at_z : ℕ → V3
at_z n = record { x = pos 0; y = pos 0; z = pos n }

abbrev point : ℕ → ℕ → Row
point feature group = record { feature = feature; group = group; at = at_z 0 }

-- a hole that is feature 7 of the points
abbrev hole : FeatureDef
hole = record {
  feature = 7;
  shape = shape.Hole;
  direction = at_z 1;
  point = at_z 0;
  radius = None;
  mmc = None;
  lmc = None;
}

-- sections stand as their first points do, each once, and those of other features aren't among them
abbrev points : List Row
points = point 7 3 ∷ point 4 5 ∷ point 7 0 ∷ point 7 3 ∷ point 7 12 ∷ []

first_points_first : sections points hole ≡ 3 ∷ 0 ∷ 12 ∷ []
first_points_first = refl

abbrev word : Bool → DatumRef
word at_mmb = record { datum = 0; at_mmb = at_mmb }

-- a frame on that hole
abbrev frame : List ℕ → Kind → List DatumRef → Option ℕ → Bool → Frame
frame name k words lower separate = record {
  name = name;
  kind = k;
  features = 0 ∷ [];
  tolerance = 100;
  datums = words;
  material = material.Rfs;
  above = None;
  lower = lower;
  lower_datums = [];
  separate = separate;
}

abbrev file : List Frame → File
file frames = record {
  turn = turn.All;
  shift = 4;
  centre = None;
  features = hole ∷ [];
  datums = [];
  frames = frames;
}

-- a composite frame and its lower segment, and a circularity in each of its sections
abbrev two : File
two = file (frame (codes "pat") kind.Position [] (Some 10) false ∷ frame (codes "ci") kind.Circularity [] None false ∷ [])

asked_of_two : requirements two points
    ≡ requirement 0 part.Whole ∷ requirement 0 part.Lower ∷ requirement 1 (part.Section 3) ∷ requirement 1 (part.Section 0)
    ∷ requirement 1 (part.Section 12) ∷ []
asked_of_two = refl

-- without a datum word each is judged by itself
by_themselves : groups two (requirements two points)
    ≡ (requirement 0 part.Whole ∷ []) ∷ (requirement 0 part.Lower ∷ []) ∷ (requirement 1 (part.Section 3) ∷ [])
    ∷ (requirement 1 (part.Section 0) ∷ []) ∷ (requirement 1 (part.Section 12) ∷ []) ∷ []
by_themselves = refl

names_of_parts : label two (requirement 0 part.Lower ∷ []) ≡ codes "pat/lower"
names_of_parts = refl

names_of_sections : label two (requirement 1 (part.Section 12) ∷ []) ≡ codes "ci#12"
unfolding digits
names_of_sections = refl

-- a section asks for a circle through its own points, and a position asks no form
form_of_section : form_of two (requirement 1 (part.Section 12) ∷ []) ≡ Some (record {
  shape = form.Circle;
  feature = 7;
  group = Some 12;
  direction = at_z 1;
  point = at_z 0;
  shift = 4;
  tolerance = 100;
})
form_of_section = refl

form_of_position : form_of two (whole 0 ∷ []) ≡ None
form_of_position = refl

-- a position and a profile with the same word are judged together; one that is separate isn't, nor one whose word has
-- no `(M)`, nor an orientation
abbrev five : File
five = file (frame (codes "f1") kind.Position (word true ∷ []) None false
    ∷ frame (codes "f2") kind.Position (word true ∷ []) None true
    ∷ frame (codes "f3") kind.Profile (word true ∷ []) None false
    ∷ frame (codes "f4") kind.Position (word false ∷ []) None false
    ∷ frame (codes "f5") kind.Orientation (word true ∷ []) None false ∷ [])

joined_by_words : groups five (requirements five points)
    ≡ (whole 0 ∷ whole 2 ∷ []) ∷ (whole 1 ∷ []) ∷ (whole 3 ∷ []) ∷ (whole 4 ∷ []) ∷ []
joined_by_words = refl

joined_names : label five (whole 0 ∷ whole 2 ∷ []) ≡ codes "f1+f3"
joined_names = refl
