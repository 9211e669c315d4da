use Rattle.gd_cells.proofs.Cells.{halves_are_cells}
use Rattle.gd_cells.specs.Grid.{IsCell}
use Rattle.gd_cells.specs.Meaning.{Questions}
use Rattle.gd_cells.specs.declared.cell.Cell.{Cell}
use Rattle.std.proofs.Common.{subst, sym}
use Rattle.gd_check.proofs.Waiting.{two_more}
use Rattle.gd_check.proofs.tree.wait_after.Goals as goal

pub returns-in_ok-push-2-clause-cells : goal.returns-in_ok-push-2-clause-cells
returns-in_ok-push-2-clause-cells g c =
    let q : Questions = g.T.Task.questions c.args.task.now in
    let both : IsCell q.grid c.split.result.0 × IsCell q.grid c.split.result.1 =
    subst (λ (h : Cell × Cell). IsCell q.grid h.0 × IsCell q.grid h.1) (sym c.split.ensures) (halves_are_cells q.grid (c.show_laws.ensures c.args.task.now).is_grid c.args.cell.now c.requires.cell (c.requires.above c.in-Split.is)) in
    two_more (IsCell q.grid) c.args.waiting.now.items c.push.new.self.items c.push-in-Split.new.self.items c.split.result.1 c.split.result.0 c.in_ok-push.ensures.items c.in_ok-push-2.ensures.items c.requires.cells both.1 both.0
