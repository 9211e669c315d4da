use Rattle.std.proofs.Common.{◌≡◌, ◌++◌, take}
use Rattle.std.specs.List.{flat_map}
use Rattle.gd_group.specs.Conditions.{of_requirement}
use Rattle.gd_tables.specs.Kinds.{file_of}
use Rattle.gd_group.proofs.asked.append_requirements.Given as goal

abbrev pub invariant-loop-at : goal.invariant-loop-at
invariant-loop-at l = l.into.items ≡ l.fn.into.items ++ flat_map (of_requirement (file_of l.file) l.index.table.now.rows) (take l.at l.group)
