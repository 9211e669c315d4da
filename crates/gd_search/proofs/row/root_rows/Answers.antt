use Rattle.std.proofs.Common.{arith}
use Rattle.std.proofs.lemmas.Grind.{common_steps}
use Rattle.gd_cells.specs.Halves.{whole_root}
use Rattle.gd_search.specs.Rows.{fresh}
use Rattle.gd_search.proofs.Rows.{roots_more}
use Rattle.gd_search.proofs.row.root_rows.Goals as goal

pub loop-index-preserved : goal.loop-index-preserved
loop-index-preserved c = (grind (arith, common_steps, roots_more (λ r. fresh (whole_root r)) c.loop-index.index), grind (arith, common_steps))
