use Rattle.std.proofs.Common.{rules}
use Rattle.gd_axis.proofs.SignProducts.{square-sign, square-size}
use Rattle.gd_axis.proofs.square.square_of.Goals as goal

pub returns-clause-small : goal.returns-clause-small
returns-clause-small c = λ m h. square-size c.args.a c.square_by_ends.result m h (search rules) (search rules)

pub returns-clause-not_negative : goal.returns-clause-not_negative
returns-clause-not_negative c = square-sign c.args.a c.square_by_ends.result.lo c.square_by_ends.ensures.lo
