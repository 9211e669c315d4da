use Rattle.std.proofs.Common.{◌≡◌, ◌≤◌, ◌+◌, ◌++◌, drop}
use Rattle.std.specs.List.{sum_by}
use Rattle.gd_place.specs.Listed.{of_places, offsets_at}
use Rattle.gd_place.proofs.frame.of_features.Given as goal

abbrev pub invariant-loop-at : goal.invariant-loop-at
invariant-loop-at l = record {
  listed : l.conditions.items ++ of_places l.features l.frame.kind l.frame.material l.t l.next (drop l.at l.frame.features.items)
      ≡ of_places l.features l.frame.kind l.frame.material l.t l.offset l.frame.features.items;
  few : l.next + sum_by (offsets_at l.features l.frame.kind) (drop l.at l.frame.features.items) ≤ 3;
}
