use Rattle.gd_bound.proofs.Firsts.{first-refutes, none-refutes}
use Rattle.gd_bound.proofs.Refuting.{evidence-refutes, refuted-is-empty}
use Rattle.gd_bound.proofs.laws.bounds_are_sound.Goals as goal

pub returns : goal.returns
returns c = record { evidence = evidence-refutes; empty = refuted-is-empty; first = first-refutes; none = none-refutes }
