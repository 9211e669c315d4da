use Rattle.std.proofs.Common.{◌≡◌, ◌++◌, ◌-◌, length}
use Rattle.gd_search.specs.Lines.{left_of, written_roots}
use Rattle.gd_search.proofs.tree.write_roots.Given as goal

abbrev pub invariant-loop-root : goal.invariant-loop-root
invariant-loop-root l = (l.lines.items ++ written_roots (l.roots - l._root) (length l.fn.levels) (left_of l.levels) ≡ l.fn.lines.items ++ written_roots l.roots (length l.fn.levels) (left_of l.fn.levels)) × (length l.levels ≡ length l.fn.levels)
