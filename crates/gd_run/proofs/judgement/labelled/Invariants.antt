use Rattle.std.proofs.Common.{◌≡◌, ◌++◌, drop}
use Rattle.gd_run.specs.GroupReports.{labelled}
use Rattle.gd_run.proofs.judgement.labelled.Given as goal

abbrev pub invariant-loop-at : goal.invariant-loop-at
invariant-loop-at l = l.groups.items ++ labelled (drop l.at l.labels) (drop l.at l.verdicts) ≡ labelled l.labels l.verdicts
