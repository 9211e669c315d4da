use Rattle.std.proofs.Common.{rules, FitsSigned, ◌≡◌, ◌∙◌, ap}
use Rattle.std.proofs.lemmas.Int.{to_z-of_z}
use Rattle.std.specs.Int.{w128}
use Rattle.std.specs.Prelude.{int_le}
use Rattle.gd_quat.specs.Formulas.{Ends}
use Rattle.gd_bound.proofs.threshold.is_far.Goals as goal

pub returns : goal.returns
returns c =
    let l : FitsSigned w128 c.value.result.lo = search rules in
    let t : FitsSigned w128 c.args.threshold = search rules in
    let e : c.is_at_most.result ≡ int_le c.args.threshold c.value.result.lo = rw (to_z-of_z w128 c.args.threshold t, to_z-of_z w128 c.value.result.lo l) at c.is_at_most.ensures in
    e ∙ ap (λ (z : Ends). int_le c.args.threshold z.lo) c.value.ensures.ends
