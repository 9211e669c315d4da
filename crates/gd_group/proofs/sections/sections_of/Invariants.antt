use Rattle.std.proofs.Common.{ℕ, map, take}
use Rattle.std.specs.Prelude.{slice_get}
use Rattle.gd_group.specs.Met.{HasMet, group_in}
use Rattle.gd_group.proofs.sections.sections_of.Given as goal

abbrev pub invariant-loop-number : goal.invariant-loop-number
invariant-loop-number l = HasMet (map (λ (i : ℕ). group_in (slice_get l.index.table.now.rows i)) (take l.number-index l.numbers)) l.met
