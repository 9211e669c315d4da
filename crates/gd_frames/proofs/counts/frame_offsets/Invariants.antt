use Rattle.std.proofs.Common.{◌≡◌, ℕ, min, take, slice_get}
use Rattle.std.specs.List.{sum_by}
use Rattle.gd_frames.specs.Counts.{count_at, feature_offsets}
use Rattle.gd_tables.specs.declared.file.FeatureDef.{FeatureDef}
use Rattle.gd_frames.proofs.counts.frame_offsets.Given as goal

abbrev pub invariant-loop-place : goal.invariant-loop-place
invariant-loop-place l =
    l.total ≡ min 4097 (sum_by (λ (place : ℕ). count_at (λ (def : FeatureDef). feature_offsets l.frame.kind def.shape) (slice_get l.features place)) (take l.place-index l.frame.features.items))
