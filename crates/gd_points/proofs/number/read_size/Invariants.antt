use Rattle.std.proofs.Common.{◌≡◌, ◌+◌, drop, take, min}
use Rattle.std.specs.List.{prefix_len}
use Rattle.gd_points.specs.Numbers.{is_digit, value_of}
use Rattle.gd_points.proofs.number.read_size.Given as goal

abbrev pub invariant-loop-i : goal.invariant-loop-i
invariant-loop-i l = record {
  digits : prefix_len is_digit l.text ≡ l.i + prefix_len is_digit (drop l.i l.text);
  size : l.size ≡ min 1000000000 (value_of (take l.i l.text));
}
