use Rattle.std.proofs.Common.{◌≡◌, map, take}
use Rattle.gd_group.specs.Labels.{label}
use Rattle.gd_group.specs.Lists.{lists_of}
use Rattle.gd_tables.specs.Kinds.{file_of}
use Rattle.gd_group.proofs.maker.labels_of.Given as goal

abbrev pub invariant-loop-group : goal.invariant-loop-group
invariant-loop-group l = l.labels.items ≡ map (label (file_of l.file)) (lists_of (take l.group-index l.groups))
