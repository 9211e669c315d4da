use Rattle.std.proofs.Common.{◌<◌, ◌%◌, ◌^◌, ◌∙◌, ap, get_or, subst, sym}
use Rattle.gd_cells.proofs.Cells.{index_below}
use Rattle.gd_dir.specs.Forms.{cells_of}
use Rattle.gd_axis.proofs.PlaceFacts.{dims_are}
use Rattle.gd_axis.specs.Laws.AxisTask.{form_grid}
use Rattle.gd_axis.proofs.task.AxisTaskTask.split.Goals as goal

pub split_cell-requires-clause-index : goal.split_cell-requires-clause-index
split_cell-requires-clause-index c =
    let s = c.args.self.now in
    let cell = c.args.cell.now in
    subst (λ n. get_or cell.index n 0 < 2 ^ 60) (sym (c.turn_of.ensures ∙ ap (λ n. cell.level % n) (dims_are s.shape s.shift))) (index_below (cells_of s.shape s.shift) (form_grid s.shape s.shift s.shift_near).0 cell c.requires.cell c.requires.above)
