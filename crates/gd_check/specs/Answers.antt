-- What an answer of the check tells.
use Rattle.std.specs.Prelude.{Option, Some, None}
use Rattle.gd_cert.specs.Reading.{fault}
use Rattle.gd_cert.specs.declared.fault.CertFault.{CertFault}
use Rattle.gd_check.specs.declared.answer.CheckAnswer.{CheckAnswer}
use Rattle.gd_check.specs.declared.answer.CheckAnswer.TheVariants.{Invalid, Valid}

-- the first wrong line, if any is wrong
abbrev pub answer_of : CheckAnswer → Option CertFault
answer_of Valid = None
answer_of (Invalid line code) = Some (fault line code)
