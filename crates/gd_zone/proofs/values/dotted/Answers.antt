use Rattle.std.proofs.Common.{◌≡◌, rules}
use Rattle.gd_zone.specs.Shorts.{short_ends, short_vector}
use Rattle.gd_quat.specs.Formulas.{multiple}
use Rattle.gd_zone.proofs.Sizes.{along-is}
use Rattle.gd_zone.proofs.values.dotted.Goals as goal

pub returns-clause-ends : goal.returns-clause-ends
returns-clause-ends c =
    let x : short_ends c.scaled.result ≡ multiple (short_ends c.args.y.now.x) c.args.direction.now.x = search rules in
    let y : short_ends c.scaled-2.result ≡ multiple (short_ends c.args.y.now.y) c.args.direction.now.y = search rules in
    let z : short_ends c.scaled-3.result ≡ multiple (short_ends c.args.y.now.z) c.args.direction.now.z = search rules in
    along-is c.args.direction.now (short_vector c.args.y.now) (short_ends c.sum_of.result) (short_ends c.scaled.result) (short_ends c.scaled-2.result) (short_ends c.scaled-3.result) c.sum_of.ensures.ends x y z
