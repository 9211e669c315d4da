-- What a run says: one text, and how the run ends that prints it.
use Rattle.std.specs.Prelude.{ℕ, List}
use Rattle.std.specs.String.{string_bytes}
use Rattle.gd_base.specs.declared.fault.InputFault.{InputFault}
use Rattle.gd_base.specs.declared.verdict.Counts.{Counts}
use Rattle.gd_report.specs.Texts.{accept_text, cannot_read_text, input_text, invalid_text, open_text, reject_text, valid_text, wrong_words_text}
use Rattle.gd_report.specs.declared.ending.Ending.{Ending}
use Rattle.gd_report.specs.declared.ending.Ending.TheVariants as ending
use Rattle.gd_report.specs.declared.line.Line.{Line}
use Rattle.gd_vec.specs.declared.vector.V3.{V3}

pub record Said : Type 0 where
  pub text : List ℕ
  pub ending : Ending

-- the status of an ending
abbrev pub status_of : Ending → ℕ
status_of ending.Done = 0
status_of ending.Rejected = 1
status_of ending.Open = 2
status_of ending.Refused = 3
status_of ending.WrongWords = 4
status_of ending.Unread = 5
status_of ending.Unwritten = 6
status_of ending.OutOfMemory = 7
status_of ending.Invalid = 8

-- what a line of the program says
abbrev pub said_in : Line → Said
said_in line = record { text = string_bytes line.text; ending = line.ending }

-- ---- refusals
abbrev pub wrong_words : Said
wrong_words = record { text = wrong_words_text; ending = ending.WrongWords }

abbrev pub unread : List ℕ → Said
unread word = record { text = cannot_read_text word; ending = ending.Unread }

abbrev pub refused : List ℕ → InputFault → Said
refused word f = record { text = input_text word f; ending = ending.Refused }

-- ---- certificates
abbrev pub valid : Said
valid = record { text = valid_text; ending = ending.Done }

abbrev pub invalid : ℕ → ℕ → Said
invalid line code = record { text = invalid_text line code; ending = ending.Invalid }

-- ---- verdicts of one requirement
abbrev pub accepted : ℕ → V3 → Said
accepted level direction = record { text = accept_text level direction; ending = ending.Done }

abbrev pub rejected : ℕ → Said
rejected leaves = record { text = reject_text leaves; ending = ending.Rejected }

abbrev pub opened : Counts → Said
opened counts = record { text = open_text counts; ending = ending.Open }
