-- Reports as FORMATS.md has them, so that a wrong definition doesn't check.
use Rattle.std.proofs.Common.{◌≡◌, refl, codes, [], ◌∷◌}
use Rattle.std.specs.Fmt.{digits}
use Rattle.gd_base.specs.declared.verdict.Reason.TheVariants as reason
use Rattle.gd_base.specs.declared.verdict.Verdict.TheVariants as verdict
use Rattle.gd_report.specs.Groups.{report_text}
use Rattle.gd_report.specs.Json.{report_json}
use Rattle.gd_report.specs.declared.group.GroupVerdict.{GroupVerdict}
use Rattle.serde_json.proofs.OnLiterals.{serde_json_on_literals}

abbrev conforming : GroupVerdict
conforming = record { label = codes "pos"; verdict = verdict.Accept 0 }

abbrev rejected : GroupVerdict
rejected = record { label = codes "f1+f2"; verdict = verdict.Reject 16 }

abbrev undecided : GroupVerdict
undecided = record { label = codes "ci#1"; verdict = verdict.StillOpen (record { level = 2; undecided = 3; spent = 4; reason = reason.Budget }) }

known_lines : report_text (conforming ∷ undecided ∷ []) ≡ codes "group 1 pos accept level 0\ngroup 2 ci#1 open budget level 2 undecided 3 spent 4\nstatus 2\n"
unfolding digits
known_lines = refl

known_status : report_text (rejected ∷ undecided ∷ []) ≡ codes "group 1 f1+f2 reject leaves 16\ngroup 2 ci#1 open budget level 2 undecided 3 spent 4\nstatus 1\n"
unfolding digits
known_status = refl

known_json : report_json (conforming ∷ []) ≡ codes "{\"groups\":[{\"level\":0,\"name\":\"pos\",\"verdict\":\"accept\"}],\"status\":0}\n"
unfolding digits serde_json_on_literals
known_json = refl

known_json_groups : report_json (rejected ∷ undecided ∷ []) ≡ codes "{\"groups\":[{\"leaves\":16,\"name\":\"f1+f2\",\"verdict\":\"reject\"},{\"level\":2,\"name\":\"ci#1\",\"reason\":\"budget\",\"spent\":4,\"undecided\":3,\"verdict\":\"open\"}],\"status\":1}\n"
unfolding digits serde_json_on_literals
known_json_groups = refl
