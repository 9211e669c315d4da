use Rattle.std.proofs.Common.{◌≡◌, take, true}
use Rattle.std.specs.List.{list_all}
use Rattle.gd_zone.specs.Boxes.{placed_ends}
use Rattle.gd_zone.specs.Seen.{subject_holds}
use Rattle.gd_zone.proofs.holding.all_hold.Given as goal

abbrev pub invariant-loop-at : goal.invariant-loop-at
invariant-loop-at l = record {
  held : list_all (subject_holds (placed_ends l.placed) l.base) (take l.at l.subjects) ≡ true;
}
