-- A form that a group asks can be judged.
use Rattle.std.proofs.Common.{◌≡◌, ◌∙◌, ap, refl, subst, ◌<◌, List, [], ◌∷◌, length, Option, Some, None, arith, option_map}
use Rattle.std.specs.Prelude.{slice_get}
use Rattle.std.specs.List.{All}
use Rattle.std.specs.Option.{IfSome, option_and_then}
use Rattle.gd_dir.specs.declared.shape.FormShape.{FormShape}
use Rattle.gd_flat.specs.Judged.{numbers_of}
use Rattle.gd_frames.specs.Facts.{IsFile}
use Rattle.gd_group.proofs.Members.{direction-fits, feature-is, point-fits, shift-fits}
use Rattle.gd_group.proofs.Placed.{tolerable}
use Rattle.gd_group.specs.Members.{HasJudged, IsForm}
use Rattle.gd_group.specs.Requirements.{form_feature, section_of}
use Rattle.gd_group.specs.Tasks.{form_of, form_of_part, form_with, shape_of}
use Rattle.gd_group.specs.declared.requirement.Requirement.{Requirement}
use Rattle.gd_points.specs.Table.{Table}
use Rattle.gd_tables.specs.Kinds.{File, Frame}
use Rattle.gd_tables.specs.declared.file.FeatureDef.{FeatureDef}

module _ (points : Table) (file : File) (was : IsFile points file) (r : Requirement) (seen : HasJudged file points.rows r) where
  of-feature : (f : Frame) (shape : FormShape) (o : Option FeatureDef) → slice_get file.frames r.frame ≡ Some f → form_feature file.features f ≡ o
      → IfSome (option_map (form_with file r.part f shape) o) (IsForm points.rows)
  of-feature f shape None is e = tt
  of-feature f shape (Some def) is e =
      let named = feature-is points file was f (Some def) e in
      record {
        some = subst (λ o. IfSome o (λ (def : FeatureDef). 0 < length (numbers_of def.feature (section_of r.part) points.rows)))
            (ap (option_and_then (form_feature file.features)) is ∙ e) seen;
        direction = direction-fits (length points.names) def named;
        point = point-fits (length points.names) def named;
        shift = shift-fits points file was;
        tolerance = tolerable points file was r.frame f is;
      }

  of-shape : (f : Frame) (s : Option FormShape) → slice_get file.frames r.frame ≡ Some f
      → IfSome (option_and_then (λ shape. option_map (form_with file r.part f shape) (form_feature file.features f)) s) (IsForm points.rows)
  of-shape f None is = tt
  of-shape f (Some shape) is = of-feature f shape (form_feature file.features f) is refl

  of-frame : (o : Option Frame) → slice_get file.frames r.frame ≡ o → IfSome (option_and_then (form_of_part file r.part) o) (IsForm points.rows)
  of-frame None is = tt
  of-frame (Some f) is = of-shape f (shape_of f.kind) is

pub form-judged : (points : Table) (file : File) (group : List Requirement) → IsFile points file → All (HasJudged file points.rows) group
    → IfSome (form_of file group) (IsForm points.rows)
form-judged points file [] was seen = tt
form-judged points file (r ∷ more) was seen = of-frame points file was r (seen 0 r (omega arith)) (slice_get file.frames r.frame) refl
