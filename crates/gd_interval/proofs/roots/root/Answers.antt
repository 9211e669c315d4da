use Rattle.std.proofs.Common.{◌∙◌, FitsSigned, rules}
use Rattle.std.proofs.lemmas.Int.{to_z-of_z}
use Rattle.std.specs.Int.{w128}
use Rattle.gd_interval.specs.Formulas.{IsRootBelow, IsRootAbove}
use Rattle.gd_interval.proofs.Encloses.{encloses-root}
use Rattle.gd_interval.proofs.RootOrder.{roots-ordered}
use Rattle.gd_interval.proofs.Wholes.{same_order}
use Rattle.gd_interval.proofs.roots.root.Goals as goal

pub between-requires : goal.between-requires
between-requires c =
    let a : FitsSigned w128 c.args.a.lo = search rules in
    let b : FitsSigned w128 c.args.a.hi = search rules in
    let lo : IsRootBelow c.root_below.result c.args.a.lo = rw (to_z-of_z w128 c.args.a.lo a) at c.root_below.ensures in
    let hi : IsRootAbove c.root_above.result c.args.a.hi = rw (to_z-of_z w128 c.args.a.hi b) at c.root_above.ensures in
    same_order c.root_below.result c.root_above.result (search rules) (search rules)
    (roots-ordered c.args.a.lo c.args.a.hi c.root_below.result c.root_above.result c.args.a.ordered lo hi)

pub returns : goal.returns
returns c =
    let a : FitsSigned w128 c.args.a.lo = search rules in
    let b : FitsSigned w128 c.args.a.hi = search rules in
    let f : FitsSigned w128 c.root_below.result = search rules in
    let g : FitsSigned w128 c.root_above.result = search rules in
    let lo : IsRootBelow c.between.result.lo c.args.a.lo = rw (c.between.ensures.lo ∙ to_z-of_z w128 c.root_below.result f) (rw (to_z-of_z w128 c.args.a.lo a) at c.root_below.ensures) in
    let hi : IsRootAbove c.between.result.hi c.args.a.hi = rw (c.between.ensures.hi ∙ to_z-of_z w128 c.root_above.result g) (rw (to_z-of_z w128 c.args.a.hi b) at c.root_above.ensures) in
    record { lo = lo; hi = hi; encloses = encloses-root c.args.a c.between.result lo hi }
