use Rattle.std.proofs.Common.{◌≡◌, ◌+◌, ◌++◌, drop}
use Rattle.std.specs.String.{string_bytes}
use Rattle.gd_report.specs.Groups.{groups_text}
use Rattle.gd_report.proofs.group.group_lines.Given as goal

abbrev pub invariant-loop-at : goal.invariant-loop-at
invariant-loop-at l = string_bytes l.text ++ groups_text (l.at + 1) (drop l.at l.groups) ≡ groups_text 1 l.groups
