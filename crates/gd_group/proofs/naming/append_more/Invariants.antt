use Rattle.std.proofs.Common.{◌≡◌, ◌++◌, drop}
use Rattle.std.specs.String.{string_bytes}
use Rattle.gd_group.specs.Labels.{more_names}
use Rattle.gd_tables.specs.Kinds.{file_of}
use Rattle.gd_group.proofs.naming.append_more.Given as goal

abbrev pub invariant-loop-at : goal.invariant-loop-at
invariant-loop-at l = string_bytes l.into ++ more_names (file_of l.file) (drop l.at l.more) ≡ string_bytes l.fn.into ++ more_names (file_of l.file) l.more
