use Rattle.std.proofs.Common.{◌≡◌, ◌≤◌, take}
use Rattle.gd_group.specs.Conditions.{most_offsets}
use Rattle.gd_group.proofs.asked.offsets_of.Given as goal

abbrev pub invariant-loop-condition : goal.invariant-loop-condition
invariant-loop-condition l = record {
  value : l.most ≡ most_offsets (take l.condition-index l.conditions);
  few : l.most ≤ 2;
}
