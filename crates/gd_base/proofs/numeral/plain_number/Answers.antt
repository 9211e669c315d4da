use Rattle.std.proofs.Common.{◌≡◌, ℕ, ◌<◌, ◌≤◌, ◌^◌, arith, sym}
use Rattle.gd_base.proofs.Numerals.{long_is_no_number, not_plain_is_no_number, read_is_spelled, spelled_is_read, unread_is_no_number}
use Rattle.gd_base.proofs.numeral.plain_number.Goals.{then-word-gt-DIGITS-via-then-word-gt-DIGITS, then-word-gt-DIGITS-via-else-word-gt-DIGITS+then-not-begins_plain}
use Rattle.gd_base.proofs.numeral.plain_number.Goals as goal

pub returns-then-word-gt-DIGITS : goal.returns-then-word-gt-DIGITS
returns-then-word-gt-DIGITS c = λ n most is. elim c.then-word-gt-DIGITS.branch [
  | then-word-gt-DIGITS-via-then-word-gt-DIGITS w ↦ long_is_no_number c.args.word.now n (omega (arith, c.requires)) (omega (arith, w.if-word-gt-DIGITS.true)) is
  | then-word-gt-DIGITS-via-else-word-gt-DIGITS+then-not-begins_plain w ↦ not_plain_is_no_number c.args.word.now n (omega (arith, c.requires)) (sym w.if-not-begins_plain.ensures) is
]

pub returns-then-number-limit : goal.returns-then-number-limit
returns-then-number-limit c =
    (omega (arith, c.if-number-limit.true), read_is_spelled c.args.word.now c.in_ok-number.number (sym c.if-not-begins_plain.ensures) (sym c.in_ok-number.ensures) (omega (arith, c.if-number-limit.true, c.requires)))

pub returns-else-number-limit : goal.returns-else-number-limit
returns-else-number-limit c = λ n most is.
    let same : n ≡ c.in_ok-number.number = spelled_is_read c.args.word.now n c.in_ok-number.number (omega (arith, c.requires)) is (sym c.in_ok-number.ensures) in
    absurd (omega (arith, c.if-number-limit.false))

pub returns-in_err-number : goal.returns-in_err-number
returns-in_err-number c = rw c.from_residual.ensures (λ n most is. unread_is_no_number c.args.word.now n (omega (arith, c.requires)) (sym c.in_err-number.ensures) is)
