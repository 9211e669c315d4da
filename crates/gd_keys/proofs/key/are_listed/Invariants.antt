use Rattle.std.proofs.Common.{◌≡◌, map}
use Rattle.toml.specs.View.{members_view}
use Rattle.gd_keys.specs.Keys.{are_listed}
use Rattle.gd_keys.proofs.key.are_listed.Given as goal

abbrev pub invariant-loop-key : goal.invariant-loop-key
invariant-loop-key l =
    are_listed (map (λ k. k.now) l.keys) (members_view l.table.entries) ≡ are_listed (map (λ k. k.now) l.keys) (members_view l.key-iterator)
