use Rattle.std.proofs.Common.{arith, zero, suc}
use Rattle.gd_vec.proofs.Sizes.{kept-is}
use Rattle.gd_vec.proofs.vector.cross.Goals as goal

pub returns-clause-size : goal.returns-clause-size
returns-clause-size c zero d h = rw (kept-is c.determinant.result (omega (arith, c.determinant.ensures.size))) c.determinant.ensures.size
returns-clause-size c (suc zero) d h = rw (kept-is c.determinant-2.result (omega (arith, c.determinant-2.ensures.size))) c.determinant-2.ensures.size
returns-clause-size c (suc (suc zero)) d h = rw (kept-is c.determinant-3.result (omega (arith, c.determinant-3.ensures.size))) c.determinant-3.ensures.size
returns-clause-size c (suc (suc (suc k))) d h = absurd (omega (arith, h))
