use Rattle.std.proofs.Common.{◌≡◌, map, drop}
use Rattle.gd_keys.specs.Keys.{is_among}
use Rattle.gd_keys.proofs.key.is_listed.Given as goal

abbrev pub invariant-loop-listed : goal.invariant-loop-listed
invariant-loop-listed l =
    is_among (map (λ k. k.now) l.keys) l.key ≡ is_among (map (λ k. k.now) (drop l.listed-index l.keys)) l.key
