-- For the proof, and cited by private functions alone: what is so of each group of a file that was read.
use Rattle.std.specs.Prelude.{◌≡◌, ◌<◌, ◌≤◌, ◌^◌, List, Option, length, slice_get}
use Rattle.std.specs.List.{All}
use Rattle.std.specs.Option.{IfSome, option_and_then}
use Rattle.gd_base.specs.Limits.{TOLERANCE}
use Rattle.gd_flat.specs.Judged.{numbers_of}
use Rattle.gd_form.specs.declared.form.FormDef.{FormDef}
use Rattle.gd_group.specs.Groups.{judged_with}
use Rattle.gd_group.specs.Requirements.{form_feature, section_of}
use Rattle.gd_group.specs.declared.requirement.Requirement.{Requirement}
use Rattle.gd_points.specs.declared.table.Row.{Row}
use Rattle.gd_tables.specs.Kinds.{File}
use Rattle.gd_tables.specs.declared.file.FeatureDef.{FeatureDef}
use Rattle.gd_vec.specs.Vector.{IsWithin}

-- the first feature of a requirement's frame
abbrev pub feature_in : File → Requirement → Option FeatureDef
feature_in file r = option_and_then (form_feature file.features) (slice_get file.frames r.frame)

-- that feature has a point, and one in the section where the requirement is of one
abbrev pub HasJudged : File → List Row → Requirement → Type 0
HasJudged file rows r =
    IfSome (feature_in file r) (λ (def : FeatureDef). 0 < length (numbers_of def.feature (section_of r.part) rows))

-- what is judged together with a requirement, each of them with points
pub record IsGroup (file : File) (rows : List Row) (group : List Requirement) : Type 0 where
  pub first : Requirement
  pub together : group ≡ judged_with file first
  pub judged : All (HasJudged file rows) group

-- a form whose feature, or section of it, has a point, and whose numbers are in their ranges
pub record IsForm (rows : List Row) (def : FormDef) : Type 0 where
  pub some : 0 < length (numbers_of def.feature def.group rows)
  pub direction : IsWithin (2 ^ 10) def.direction
  pub point : IsWithin (2 ^ 26) def.point
  pub shift : def.shift ≤ 28
  pub tolerance : def.tolerance ≤ TOLERANCE
