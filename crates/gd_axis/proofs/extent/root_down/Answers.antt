use Rattle.std.proofs.Common.{FitsSigned, rules}
use Rattle.std.proofs.lemmas.Int.{to_z-of_z}
use Rattle.std.specs.Int.{w128}
use Rattle.gd_axis.proofs.RootExtremes.{root-below-size}
use Rattle.gd_axis.proofs.Roots.{floor-root-one}
use Rattle.gd_interval.specs.Formulas.{IsRootBelow}
use Rattle.gd_axis.proofs.extent.root_down.Goals as goal

pub returns-clause-value : goal.returns-clause-value
returns-clause-value c =
    let a : FitsSigned w128 c.args.square = search rules in
    let f : FitsSigned w128 c.root_below.result = search rules in
    let k : IsRootBelow c.root_below.result c.args.square = rw (to_z-of_z w128 c.args.square a) at c.root_below.ensures in
    rw (to_z-of_z w128 c.root_below.result f) (floor-root-one c.root_below.result c.args.square c.requires.0 k)

pub returns-clause-size : goal.returns-clause-size
returns-clause-size c =
    let a : FitsSigned w128 c.args.square = search rules in
    let f : FitsSigned w128 c.root_below.result = search rules in
    let k : IsRootBelow c.root_below.result c.args.square = rw (to_z-of_z w128 c.args.square a) at c.root_below.ensures in
    rw (to_z-of_z w128 c.root_below.result f) (root-below-size c.root_below.result c.args.square c.requires k)
