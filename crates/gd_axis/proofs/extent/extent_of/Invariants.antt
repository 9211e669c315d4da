use Rattle.std.proofs.Common.{◌≡◌, take}
use Rattle.gd_axis.specs.AxisTests.{lower_ends, upper_ends}
use Rattle.gd_flat.specs.FlatTests.{greatest, least}
use Rattle.gd_axis.proofs.extent.extent_of.Given as goal

abbrev pub invariant-loop-at : goal.invariant-loop-at
invariant-loop-at l = record {
  most_lo : l.extent.most_lo ≡ greatest (take l.at (lower_ends l.over.shape l.over.b.now l.over.own l.judged.points.table.now.rows l.judged.numbers.now));
  least_lo : l.extent.least_lo ≡ least (take l.at (lower_ends l.over.shape l.over.b.now l.over.own l.judged.points.table.now.rows l.judged.numbers.now));
  most_hi : l.extent.most_hi ≡ greatest (take l.at (upper_ends l.over.shape l.over.b.now l.over.own l.judged.points.table.now.rows l.judged.numbers.now));
  least_hi : l.extent.least_hi ≡ least (take l.at (upper_ends l.over.shape l.over.b.now l.over.own l.judged.points.table.now.rows l.judged.numbers.now));
}
