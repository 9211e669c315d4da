-- Texts as FORMATS.md has them, so that a wrong definition doesn't check.
use Rattle.std.proofs.Common.{◌≡◌, refl, codes}
use Rattle.std.specs.Fmt.{digits}
use Rattle.gd_base.specs.declared.verdict.Reason.TheVariants as reason
use Rattle.gd_report.specs.Said.{status_of}
use Rattle.gd_report.specs.Texts.{cannot_read_text, input_text, invalid_text, open_text, reject_text}
use Rattle.gd_report.specs.declared.ending.Ending.TheVariants as ending

known_unread : cannot_read_text (codes "p.csv") ≡ codes "gdteval: cannot read p.csv\n"
known_unread = refl

known_refusal : input_text (codes "p.csv") (record { code = 14; row = 2; column = 3 }) ≡ codes "input p.csv code 14 row 2 column 3\n"
unfolding digits
known_refusal = refl

known_reject : reject_text 62 ≡ codes "reject leaves 62\n"
unfolding digits
known_reject = refl

known_open : open_text (record { level = 2; undecided = 3; spent = 4; reason = reason.Budget }) ≡ codes "open budget level 2 undecided 3 spent 4\n"
unfolding digits
known_open = refl

known_invalid : invalid_text 6 50 ≡ codes "invalid line 6 code 50\n"
unfolding digits
known_invalid = refl

known_status : status_of ending.Invalid ≡ 8
known_status = refl
