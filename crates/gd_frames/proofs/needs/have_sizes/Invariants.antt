use Rattle.std.proofs.Common.{◌≡◌, ℕ, ◌&&◌, drop, slice_get}
use Rattle.std.specs.List.{list_all}
use Rattle.gd_frames.specs.Combinations.{passes}
use Rattle.gd_frames.specs.Needs.{has_diameter, has_radius}
use Rattle.gd_tables.specs.declared.file.FeatureDef.{FeatureDef}
use Rattle.gd_frames.proofs.needs.have_sizes.Given as goal

abbrev pub invariant-loop-place : goal.invariant-loop-place
invariant-loop-place l =
    list_all (λ (place : ℕ). passes (λ (def : FeatureDef). has_diameter l.frame.material def && has_radius l.frame.kind def) (slice_get l.features place)) l.frame.features.items
    ≡ list_all (λ (place : ℕ). passes (λ (def : FeatureDef). has_diameter l.frame.material def && has_radius l.frame.kind def) (slice_get l.features place)) (drop l.place-index l.frame.features.items)
