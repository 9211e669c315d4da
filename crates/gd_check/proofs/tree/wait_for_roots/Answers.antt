use Rattle.std.proofs.Common.{arith, ◌<◌, ◌≡◌, ◌-◌, ◌++◌, ◌∷◌, [], ap, ◌∙◌}
use Rattle.gd_cells.specs.Halves.{whole_root}
use Rattle.gd_cells.specs.Meaning.{Questions}
use Rattle.gd_check.proofs.Waiting.{root_waits, roots_wait}
use Rattle.gd_check.proofs.tree.wait_for_roots.Goals as goal

pub loop-index-preserved : goal.loop-index-preserved
loop-index-preserved g c =
    let q : Questions = g.T.Task.questions c.args.task.now in
    let below : c.loop-index.index < c.roots-roots.result = omega arith in
    let more : c.push.new.self.items ≡ c.loop-index.waiting.items ++ whole_root (c.roots-roots.result - c.loop-index.index) ∷ [] =
    c.in_ok-push.ensures.items ∙ ap (λ cell. c.loop-index.waiting.items ++ cell ∷ []) c.root_cell.ensures in
    record {
      cells = root_waits q (c.show_laws.ensures c.args.task.now).is_grid c.roots-roots.result c.loop-index.index c.roots-roots.ensures below c.loop-index.waiting.items c.push.new.self.items more c.loop-index.invariant.cells;
      roots = roots_wait c.roots-roots.result c.loop-index.index below c.loop-index.waiting.items c.push.new.self.items more c.loop-index.invariant.roots;
    }
