-- What a run over groups of requirements says.
use Rattle.std.specs.Prelude.{List}
use Rattle.gd_report.specs.Groups.{ending_of, report_text}
use Rattle.gd_report.specs.Json.{report_json}
use Rattle.gd_report.specs.Said.{Said}
use Rattle.gd_report.specs.declared.group.GroupVerdict.{GroupVerdict}

abbrev pub reported : List GroupVerdict → Said
reported groups = record { text = report_text groups; ending = ending_of groups }

abbrev pub reported_as_json : List GroupVerdict → Said
reported_as_json groups = record { text = report_json groups; ending = ending_of groups }
