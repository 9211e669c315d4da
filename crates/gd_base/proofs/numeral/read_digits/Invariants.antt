use Rattle.std.proofs.Common.{◌≡◌, ◌<◌, ◌^◌, drop}
use Rattle.gd_base.specs.Numerals.{digits_from}
use Rattle.gd_base.proofs.numeral.read_digits.Given as goal

abbrev pub invariant-loop-byte : goal.invariant-loop-byte
invariant-loop-byte l = record {
  left : digits_from l.number (drop l.byte-index l.word) ≡ digits_from 0 l.word;
  small : l.number < 10 ^ l.byte-index;
}
