use Rattle.std.proofs.Common.{◌≡◌, take}
use Rattle.gd_surface.specs.Listed.{first_datum, of_places}
use Rattle.gd_surface.proofs.frame.of_features.Given as goal

abbrev pub invariant-loop-at : goal.invariant-loop-at
invariant-loop-at l =
    l.conditions.items
    ≡ of_places l.file.features.items l.index.table.now.rows l.frame.kind (first_datum l.file.features.items l.file.datums.items l.frame.datums.items) l.t l.frame.above (take l.at l.frame.features.items)
