use Rattle.std.proofs.Common.{ℕ, ◌<◌, ◌^◌}
use Rattle.gd_axis.proofs.axis_def.bits_above.Given as goal

abbrev pub invariant-loop-bits : goal.invariant-loop-bits
invariant-loop-bits l = record { below : (k : ℕ) → k < l.bits → 2 ^ k < l.tolerance }
