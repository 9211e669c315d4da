use Rattle.std.proofs.Common.{◌≡◌, ◌++◌, map, take}
use Rattle.std.specs.List.{flat_map}
use Rattle.gd_cert.specs.Text.{line_text, node_words}
use Rattle.gd_cert.proofs.write.put_tree.Given as goal

abbrev pub invariant-loop-node : goal.invariant-loop-node
invariant-loop-node l = l.text.items ≡ l.fn.text.items ++ flat_map line_text (map node_words (take l.node-index l.tree))
