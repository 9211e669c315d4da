use Rattle.std.proofs.Common.{arith, rules, ◌≡◌, ◌<◌, [], drop, length, sym, ap, Some, ◌∙◌}
use Rattle.std.proofs.lemmas.List.{drop_all}
use Rattle.gd_cells.specs.Meaning.{Questions}
use Rattle.gd_check.proofs.Waiting.{no_line, no_more}
use Rattle.gd_check.specs.Wrong.{kind_of}
use Rattle.gd_check.proofs.tree.wrong_line.Goals as goal

pub returns-then-is_empty : goal.returns-then-is_empty
returns-then-is_empty g c =
    let q : Questions = g.T.Task.questions c.args.task.now in
    let end : drop c.loop-node.node-index c.args.tree.now ≡ [] = drop_all c.loop-node.node-index c.args.tree.now (omega arith) in
    let none : length c.loop-node.waiting.items ≡ 0 = search rules in
    sym (no_more q (kind_of c.args.tree_of) c.loop-node.waiting.items none c.loop-node.line (drop c.loop-node.node-index c.args.tree.now) end) ∙ c.loop-node.invariant.left

pub returns-else-is_empty : goal.returns-else-is_empty
returns-else-is_empty g c =
    let q : Questions = g.T.Task.questions c.args.task.now in
    let end : drop c.loop-node.node-index c.args.tree.now ≡ [] = drop_all c.loop-node.node-index c.args.tree.now (omega arith) in
    let some : 0 < length c.loop-node.waiting.items = search rules in
    ap Some c.broken_at-else-is_empty.ensures ∙ sym (no_line q (kind_of c.args.tree_of) c.loop-node.waiting.items some c.loop-node.line (drop c.loop-node.node-index c.args.tree.now) end) ∙ c.loop-node.invariant.left
