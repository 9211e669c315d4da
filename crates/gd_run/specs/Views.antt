-- What the program's values stand for.
use Rattle.std.specs.Prelude.{List, [], ◌∷◌, Option, Some, None, option_map}
use Rattle.gd_cert.specs.Certificates.{certificate_of}
use Rattle.gd_report.specs.Said.{said_in}
use Rattle.gd_run.specs.Answers.{Answer, Store}
use Rattle.gd_run.specs.Asks.{Ask, ForCheck, ForCheckFlat, ForFlat, ForJudge}
use Rattle.gd_run.specs.CheckCommand.{Check}
use Rattle.gd_run.specs.CheckFlatCommand.{CheckFlat}
use Rattle.gd_run.specs.FlatCommand.{Flat}
use Rattle.gd_run.specs.Inputs.{Given}
use Rattle.gd_run.specs.Inputs as meant
use Rattle.gd_run.specs.JudgeCommand.{Judge}
use Rattle.gd_run.specs.declared.check.CheckCommand.{CheckCommand}
use Rattle.gd_run.specs.declared.checkflat.CheckFlatCommand.{CheckFlatCommand}
use Rattle.gd_run.specs.declared.command.Command.{Command}
use Rattle.gd_run.specs.declared.command.Command.TheVariants as command
use Rattle.gd_run.specs.declared.flat.FlatCommand.{FlatCommand}
use Rattle.gd_run.specs.declared.inputs.Input.{Input}
use Rattle.gd_run.specs.declared.inputs.Inputs.{Inputs}
use Rattle.gd_run.specs.declared.judge.JudgeCommand.{JudgeCommand}
use Rattle.gd_run.specs.declared.report.NamedFile.{NamedFile}
use Rattle.gd_run.specs.declared.report.Report.{Report}
use Rattle.gd_tables.specs.Kinds.{file_of}

abbrev pub flat_of : FlatCommand → Flat
flat_of c = record {
  points = c.points.now;
  tolerance = c.tolerance;
  budget = c.budget;
  certificate = option_map (λ w. w.now) c.certificate;
}

abbrev pub check_flat_of : CheckFlatCommand → CheckFlat
check_flat_of c = record { points = c.points.now; tolerance = c.tolerance; certificate = c.certificate.now }

abbrev pub judge_of : JudgeCommand → Judge
judge_of c = record {
  frames = c.frames.now;
  points = c.points.now;
  certificate = c.certificate.now;
  budget = c.budget;
  layout = c.layout;
}

abbrev pub check_of : CheckCommand → Check
check_of c = record { frames = c.frames.now; points = c.points.now; certificate = c.certificate.now }

abbrev pub ask_of : Command → Ask
ask_of (command.Flat c) = ForFlat (flat_of c)
ask_of (command.CheckFlat c) = ForCheckFlat (check_flat_of c)
ask_of (command.Judge c) = ForJudge (judge_of c)
ask_of (command.Check c) = ForCheck (check_of c)

abbrev pub input_of : Input → meant.Input
input_of i = record { kind = i.kind; word = i.word.now }

abbrev pub given_of : Inputs → Given
given_of i = record {
  table = i.table;
  frames = option_map file_of i.frames;
  certificate = option_map certificate_of i.certificate;
}

abbrev pub stores_in : Option NamedFile → List Store
stores_in None = []
stores_in (Some file) = (file.name.now, file.bytes.items) ∷ []

abbrev pub answer_in : Report → Answer
answer_in report = record { stores = stores_in report.file; said = said_in report.line }
