use Rattle.std.proofs.Common.{◌≡◌, ◌+◌, drop}
use Rattle.std.specs.List.{prefix_len}
use Rattle.gd_points.specs.Numbers.{is_blank}
use Rattle.gd_points.proofs.number.after_blanks.Given as goal

abbrev pub invariant-loop-i : goal.invariant-loop-i
invariant-loop-i l = prefix_len is_blank l.field ≡ l.i + prefix_len is_blank (drop l.i l.field)
