use Rattle.std.proofs.Common.{◌≡◌, map, take}
use Rattle.gd_group.specs.Lists.{lists_of}
use Rattle.gd_group.specs.Tasks.{asked_by, group_asked}
use Rattle.gd_tables.specs.Kinds.{file_of}
use Rattle.gd_group.proofs.maker.tasks_of.Given as goal

abbrev pub invariant-loop-group : goal.invariant-loop-group
invariant-loop-group l =
    map asked_by l.tasks.items ≡ map (group_asked (file_of l.file) l.index.table.now.rows) (lists_of (take l.group-index l.groups))
