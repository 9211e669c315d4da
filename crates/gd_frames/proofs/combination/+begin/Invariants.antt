use Rattle.std.proofs.Common.{length}
use Rattle.gd_frames.proofs.combination.+begin.Given as goal

abbrev pub decreases-begin : goal.decreases-begin
decreases-begin l = length l.first.now
