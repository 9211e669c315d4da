use Rattle.std.proofs.Common.{◌∙◌, ap}
use Rattle.gd_flat.specs.FlatTask.{direction_at}
use Rattle.gd_flat.specs.FlatTests.{is_within}
use Rattle.gd_flat.specs.Judged.{chosen_rows}
use Rattle.gd_flat.proofs.task.FlatTaskTask.holds.Goals as goal

pub returns : goal.returns
returns c =
    let s = c.args.self.now in
    c.holds_at.ensures ∙ ap (λ rows. is_within rows s.tolerance (direction_at c.args.witness.now)) (ap (chosen_rows s.points.table.now.rows) s.all)
