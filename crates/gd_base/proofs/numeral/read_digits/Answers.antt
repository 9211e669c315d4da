use Rattle.std.proofs.Common.{arith}
use Rattle.gd_base.proofs.Numerals.{room}
use Rattle.gd_base.proofs.numeral.read_digits.Goals as goal

pub with_digit-number-requires-clause-small : goal.with_digit-number-requires-clause-small
with_digit-number-requires-clause-small c = room c.loop-byte.byte-index c.loop-byte.number (omega (arith, c.loop-byte-test.true, c.requires)) c.loop-byte.invariant.small
