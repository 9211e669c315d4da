use Rattle.std.proofs.Common.{length}
use Rattle.gd_search.proofs.tree.+write_cell.Given as goal

abbrev pub decreases-write_cell : goal.decreases-write_cell
decreases-write_cell l = length l.levels.now
