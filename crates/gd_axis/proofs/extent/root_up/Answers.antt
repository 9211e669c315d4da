use Rattle.std.proofs.Common.{FitsSigned, rules}
use Rattle.std.proofs.lemmas.Int.{to_z-of_z}
use Rattle.std.specs.Int.{w128}
use Rattle.gd_axis.proofs.RootExtremes.{root-above-size}
use Rattle.gd_axis.proofs.Roots.{ceil-root-one}
use Rattle.gd_interval.specs.Formulas.{IsRootAbove}
use Rattle.gd_axis.proofs.extent.root_up.Goals as goal

pub returns-clause-value : goal.returns-clause-value
returns-clause-value c =
    let a : FitsSigned w128 c.args.square = search rules in
    let f : FitsSigned w128 c.root_above.result = search rules in
    let k : IsRootAbove c.root_above.result c.args.square = rw (to_z-of_z w128 c.args.square a) at c.root_above.ensures in
    rw (to_z-of_z w128 c.root_above.result f) (ceil-root-one c.root_above.result c.args.square c.requires.0 k)

pub returns-clause-size : goal.returns-clause-size
returns-clause-size c =
    let a : FitsSigned w128 c.args.square = search rules in
    let f : FitsSigned w128 c.root_above.result = search rules in
    let k : IsRootAbove c.root_above.result c.args.square = rw (to_z-of_z w128 c.args.square a) at c.root_above.ensures in
    rw (to_z-of_z w128 c.root_above.result f) (root-above-size c.root_above.result c.args.square c.requires k)
