use Rattle.std.proofs.Common.{◌≡◌, ◌++◌, map, take}
use Rattle.gd_datum.specs.Kinds.{on_group}
use Rattle.gd_datum.proofs.each.append_each.Given as goal

abbrev pub invariant-loop-at : goal.invariant-loop-at
invariant-loop-at l = l.into.items ≡ l.fn.into.items ++ map (on_group l.surface l.demand l.feature) (take l.at l.groups)
