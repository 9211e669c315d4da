use Rattle.std.proofs.Common.{◌<◌, length, arith}
use Rattle.std.proofs.lemmas.Grind.{common_steps}
use Rattle.std.proofs.lemmas.List.Edits.{map_over_more}
use Rattle.gd_search.specs.Rows.{judged}
use Rattle.gd_search.proofs.row.bound_rows.Goals as goal

pub loop-row-preserved : goal.loop-row-preserved
loop-row-preserved g c =
    let lt : c.loop-row.row-index < length c.args.rows.now = omega arith in
    grind (arith, common_steps, map_over_more (judged (g.T.Task.questions c.args.task.now)))
