-- What a run's text says of the groups of a frame file over the points of a part.
use Rattle.std.specs.Prelude.{ℕ, ◌≡◌, List, Some, map}
use Rattle.gd_base.specs.declared.verdict.Verdict.{Verdict}
use Rattle.gd_cert.specs.Certificates.{Certificate}
use Rattle.gd_check.specs.Means.{AreRight}
use Rattle.gd_group.specs.Tasks.{Asked, Meets, all_asked, assignment_of, labels, questions_of}
use Rattle.gd_report.specs.Texts.{invalid_text, valid_text}
use Rattle.gd_run.specs.Asks.{Asks, ForCheck, ForJudge}
use Rattle.gd_run.specs.CheckCommand.{Check}
use Rattle.gd_run.specs.Claims.{HasFrames, HasTable, IsValidFor}
use Rattle.gd_run.specs.GroupReports.{AreJudgedSo, labelled, said_of_groups}
use Rattle.gd_run.specs.GroupVerdicts.{AreAccepted, SomeOpen, SomeRejected}
use Rattle.gd_run.specs.JudgeCommand.{Judge}
use Rattle.gd_world.specs.Shelf.{Files}

-- ---- `judge`
-- the run printed the verdicts of all groups of the frame file by their labels, each for its share of the budget. Each
-- verdict means what it says
pub record IsGroupReport (words : List (List ℕ)) (files : Files) (printed : List ℕ) : Type 0 where
  pub judge : Judge
  pub asks : Asks words (ForJudge judge)
  pub input : HasTable files judge.points
  pub frames : HasFrames files input.table judge.frames
  pub verdicts : List Verdict
  pub certificate : Certificate
  pub so : AreJudgedSo questions_of Meets assignment_of (all_asked frames.file input.table.rows) judge.budget verdicts
      certificate
  pub text : printed ≡ (said_of_groups judge.layout (labelled (labels frames.file input.table.rows) verdicts)).text

-- what the groups of a report ask, and their labels
abbrev pub asked_in : {words : List (List ℕ)} {files : Files} {printed : List ℕ}
    → IsGroupReport words files printed → List Asked
asked_in r = all_asked r.frames.file r.input.table.rows

abbrev pub labels_in : {words : List (List ℕ)} {files : Files} {printed : List ℕ}
    → IsGroupReport words files printed → List (List ℕ)
labels_in r = labels r.frames.file r.input.table.rows

-- a report of which each group is accepted: its witness in the certificate meets what it asks
pub record IsJudgedAccept (words : List (List ℕ)) (files : Files) (printed : List ℕ) : Type 0 where
  pub report : IsGroupReport words files printed
  pub accepted : AreAccepted questions_of Meets assignment_of (asked_in report) report.verdicts
      report.certificate.groups

-- a report of which some group is rejected: nothing meets what it asks
pub record IsJudgedReject (words : List (List ℕ)) (files : Files) (printed : List ℕ) : Type 0 where
  pub report : IsGroupReport words files printed
  pub rejected : SomeRejected Meets (asked_in report) (labels_in report) report.verdicts

-- a report of which no group is rejected, and some is open
pub record IsJudgedOpen (words : List (List ℕ)) (files : Files) (printed : List ℕ) : Type 0 where
  pub report : IsGroupReport words files printed
  pub open_group : SomeOpen questions_of (asked_in report) (labels_in report) report.certificate.share report.verdicts

-- ---- `check`
-- the run printed `valid`: the certificate is right for all groups of the frame file, and what it says of each is so
pub record AreGroupsValid (words : List (List ℕ)) (files : Files) (printed : List ℕ) : Type 0 where
  pub check : Check
  pub asks : Asks words (ForCheck check)
  pub input : HasTable files check.points
  pub frames : HasFrames files input.table check.frames
  pub bytes : List ℕ
  pub held : files check.certificate ≡ Some bytes
  pub valid : IsValidFor (map questions_of (all_asked frames.file input.table.rows)) bytes
  pub says : AreRight questions_of Meets assignment_of (all_asked frames.file input.table.rows) valid.certificate
  pub text : printed ≡ valid_text

-- the run printed that the certificate is invalid: its bytes are of none that is right for these groups
pub record AreGroupsInvalid (words : List (List ℕ)) (files : Files) (printed : List ℕ) : Type 0 where
  pub check : Check
  pub asks : Asks words (ForCheck check)
  pub input : HasTable files check.points
  pub frames : HasFrames files input.table check.frames
  pub bytes : List ℕ
  pub held : files check.certificate ≡ Some bytes
  pub wrong : IsValidFor (map questions_of (all_asked frames.file input.table.rows)) bytes → ⊥
  pub line : ℕ
  pub code : ℕ
  pub text : printed ≡ invalid_text line code
