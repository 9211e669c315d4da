use Rattle.std.proofs.Common.{◌≡◌, take}
use Rattle.gd_group.specs.Groups.{groups}
use Rattle.gd_group.specs.Lists.{lists_of}
use Rattle.gd_tables.specs.Kinds.{file_of}
use Rattle.gd_group.proofs.joining.groups_of.Given as goal

abbrev pub invariant-loop-requirement : goal.invariant-loop-requirement
invariant-loop-requirement l = lists_of l.groups.items ≡ groups (file_of l.file) (take l.requirement-index l.requirements)
