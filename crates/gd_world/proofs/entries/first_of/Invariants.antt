use Rattle.std.proofs.Common.{◌≡◌, drop}
use Rattle.gd_world.specs.Shelf.{held}
use Rattle.gd_world.proofs.entries.first_of.Given as goal

abbrev pub invariant-loop-entry : goal.invariant-loop-entry
invariant-loop-entry l = held (drop l.entry-index l.entries) l.name ≡ held l.entries l.name
