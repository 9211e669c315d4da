use Rattle.std.proofs.Common.{◌≡◌, ◌∙◌, ◌++◌, ap, codes, decimal, refl}
use Rattle.std.specs.String.{string_bytes}
use Rattle.gd_report.proofs.JsonTexts.{report_has_no_float, report_is}
use Rattle.gd_report.specs.Json.{groups_json, report_json}
use Rattle.gd_report.specs.Said.{status_of}
use Rattle.serde_json.specs.Written.{compact_text, has_float}
use Rattle.gd_report.proofs.as_json.json_report.Goals as goal

pub returns : goal.returns
returns c =
    let groups = c.args.groups.now in
    let status = status_of c.of_groups-ending.result in
    let is = c.in_ok-value.ensures in
    let written = c.in_ok-text.ensures.text (ap has_float is ∙ report_has_no_float groups status) ∙ ap compact_text is in
    let whole : string_bytes c.push_str.new.self ≡ report_json groups =
    c.in_ok-push_str.ensures.bytes ∙ ap (λ t. t ++ codes "\n") written ∙ report_is groups status
    ∙ ap (λ e. codes "{\"groups\":[" ++ (groups_json groups ++ (codes "],\"status\":" ++ (decimal (status_of e) ++ codes "}\n")))) c.of_groups-ending.ensures in
    rw (whole, c.of_groups-ending.ensures) refl
