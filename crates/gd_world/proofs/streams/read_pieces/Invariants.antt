-- What was read so far stands in `into`, and each turn adds a byte.
use Rattle.std.proofs.Common.{◌≤◌, ◌-◌, length}
use Rattle.std.specs.Io.KnownBytes.{Consumes}
use Rattle.gd_world.proofs.streams.read_pieces.Given as goal

abbrev pub invariant-loop-into : goal.invariant-loop-into
invariant-loop-into g l = (length l.into.items ≤ 134217729) × Consumes (g.F.Read.remaining l.initial.from) (g.F.Read.remaining l.from) l.into.items

abbrev pub decreases-loop-into : goal.decreases-loop-into
decreases-loop-into g l = 134217729 - length l.into.items
