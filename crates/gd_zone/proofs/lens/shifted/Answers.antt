use Rattle.std.proofs.Common.{◌^◌}
use Rattle.gd_zone.proofs.Sizes.{moved-fits}
use Rattle.gd_zone.proofs.lens.shifted.Goals as goal

pub returns-clause-size : goal.returns-clause-size
returns-clause-size c = moved-fits c.args.x.now c.args.by.now c.moved.result (2 ^ 45) (2 ^ 45) c.moved.ensures.ends c.requires.x c.requires.by
