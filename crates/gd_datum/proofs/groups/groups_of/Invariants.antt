use Rattle.std.proofs.Common.{◌≡◌, ◌++◌, ◌≤◌, ◌-◌}
use Rattle.gd_frames.specs.Groups.{groups_from}
use Rattle.gd_datum.proofs.groups.groups_of.Given as goal

abbrev pub invariant-loop-group : goal.invariant-loop-group
invariant-loop-group l = record {
  few : l.from ≤ 1000;
  left : l.groups.items ++ groups_from l.from l.index.table.now.rows l.feature ≡ groups_from l.first l.index.table.now.rows l.feature;
}

abbrev pub decreases-loop-group : goal.decreases-loop-group
decreases-loop-group l = 1000 - l.from
