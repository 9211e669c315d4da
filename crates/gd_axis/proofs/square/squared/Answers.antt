use Rattle.std.proofs.Common.{◌≡◌, ◌^◌, rules}
use Rattle.gd_axis.proofs.AxisSizes.{squares-are}
use Rattle.gd_axis.specs.Shorts.{short_ends, short_vector}
use Rattle.gd_quat.specs.Formulas.{ends, square}
use Rattle.gd_axis.proofs.square.squared.Goals as goal

pub sum_of-requires-clause-a : goal.sum_of-requires-clause-a
sum_of-requires-clause-a c = c.square_of.ensures.small (2 ^ 56) c.requires.x

pub sum_of-requires-clause-b : goal.sum_of-requires-clause-b
sum_of-requires-clause-b c = c.square_of-2.ensures.small (2 ^ 56) c.requires.y

pub sum_of-requires-clause-c : goal.sum_of-requires-clause-c
sum_of-requires-clause-c c = c.square_of-3.ensures.small (2 ^ 56) c.requires.z

pub returns-clause-ends : goal.returns-clause-ends
returns-clause-ends c =
    let x : ends c.square_of.result ≡ square (short_ends c.args.y.now.x) = search rules in
    let y : ends c.square_of-2.result ≡ square (short_ends c.args.y.now.y) = search rules in
    let z : ends c.square_of-3.result ≡ square (short_ends c.args.y.now.z) = search rules in
    squares-are (short_vector c.args.y.now) (ends c.sum_of.result) (ends c.square_of.result) (ends c.square_of-2.result) (ends c.square_of-3.result) c.sum_of.ensures.ends x y z
