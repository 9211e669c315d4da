use Rattle.std.proofs.Common.{◌≡◌, take, length}
use Rattle.gd_fit.specs.Subjects.{AreJudged, SpeakOf, conditions_of}
use Rattle.gd_fit.proofs.task.subjects_of.Given as goal

abbrev pub invariant-loop-at : goal.invariant-loop-at
invariant-loop-at l = record {
  conditions : conditions_of l.subjects.items ≡ take l.at l.conditions;
  count : length l.subjects.items ≡ l.at;
  judged : AreJudged l.subjects.items;
  of_table : SpeakOf l.index.table.now.rows l.subjects.items;
}
