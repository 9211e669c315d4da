use Rattle.gd_axis.proofs.LineLoops.{NoneMore}
use Rattle.gd_axis.specs.AxisTests.{upper_ends}
use Rattle.gd_axis.proofs.line.is_line.Given as goal

abbrev pub invariant-loop-at : goal.invariant-loop-at
invariant-loop-at l = record { none : NoneMore l.most l.at (upper_ends l.over.shape l.over.b.now l.over.own l.judged.points.table.now.rows l.judged.numbers.now) }
