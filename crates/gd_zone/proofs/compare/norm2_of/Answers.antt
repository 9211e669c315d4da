use Rattle.std.proofs.Common.{rules, FitsSigned}
use Rattle.std.proofs.lemmas.Int.{to_z-of_z}
use Rattle.std.specs.Int.{w128}
use Rattle.gd_zone.proofs.Sizes.{direction-size}
use Rattle.gd_zone.proofs.compare.norm2_of.Goals as goal

pub returns-clause-size : goal.returns-clause-size
returns-clause-size c =
    let f : FitsSigned w128 c.norm2.result = search rules in
    rw (to_z-of_z w128 c.norm2.result f, c.norm2.ensures.value) (direction-size c.args.direction.now c.requires)
