use Rattle.std.proofs.Common.{◌≡◌, get_or, map, take}
use Rattle.std.specs.Prelude.{pos}
use Rattle.gd_points.proofs.index.values_at.Given as goal

abbrev pub invariant-loop-place : goal.invariant-loop-place
invariant-loop-place l = l.found.items ≡ map (λ place. get_or l.values place (pos 0)) (take l.place-index l.places)
