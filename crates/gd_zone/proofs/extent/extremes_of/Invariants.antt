use Rattle.gd_quat.specs.Formulas.{ends}
use Rattle.gd_zone.proofs.Outermost.{ExtremesTo}
use Rattle.gd_zone.specs.Boxes.{placed_ends}
use Rattle.gd_zone.specs.Extremes.{ends_by}
use Rattle.gd_zone.specs.Values.{IsSized}
use Rattle.gd_zone.proofs.extent.extremes_of.Given as goal

abbrev pub invariant-loop-at : goal.invariant-loop-at
invariant-loop-at l = record {
  extremes : ExtremesTo (ends_by (placed_ends l.view.placed.now) l.view.base.now l.view.subject.now.condition l.view.subject.now.index.now.table.now.rows) l.numbers l.at (ends l.found.least) (ends l.found.greatest);
  least : IsSized l.view.subject.now.condition.surface l.found.least;
  greatest : IsSized l.view.subject.now.condition.surface l.found.greatest;
}
