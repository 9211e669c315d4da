use Rattle.std.proofs.Common.{◌≡◌, drop, slice_get, ℕ}
use Rattle.std.specs.List.{list_all}
use Rattle.gd_frames.specs.Combinations.{passes, takes}
use Rattle.gd_tables.specs.declared.file.FeatureDef.{FeatureDef}
use Rattle.gd_frames.proofs.combination.fits_features.Given as goal

abbrev pub invariant-loop-place : goal.invariant-loop-place
invariant-loop-place l =
    list_all (λ (place : ℕ). passes (λ (def : FeatureDef). takes l.frame.kind l.frame.material def.shape) (slice_get l.features place)) l.frame.features.items
    ≡ list_all (λ (place : ℕ). passes (λ (def : FeatureDef). takes l.frame.kind l.frame.material def.shape) (slice_get l.features place)) (drop l.place-index l.frame.features.items)
