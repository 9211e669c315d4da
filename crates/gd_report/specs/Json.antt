-- The report of a run over groups of requirements, as JSON: the bytes of one object without spaces, and LF.
-- A label stands in quotation marks with JSON's escapes, of which the bytes of a label need none.
use Rattle.std.specs.Prelude.{ℕ, ◌++◌, List, [], ◌∷◌, codes, decimal}
use Rattle.gd_base.specs.declared.verdict.Counts.{Counts}
use Rattle.gd_base.specs.declared.verdict.Verdict.{Verdict}
use Rattle.gd_base.specs.declared.verdict.Verdict.TheVariants as verdict
use Rattle.gd_report.specs.Groups.{ending_of}
use Rattle.gd_report.specs.Said.{status_of}
use Rattle.gd_report.specs.Texts.{reason_text}
use Rattle.gd_report.specs.declared.group.GroupVerdict.{GroupVerdict}
use Rattle.json.specs.Print.{quoted}

abbrev pub open_json : List ℕ → Counts → List ℕ
open_json label c = codes "{\"level\":" ++ (decimal c.level
    ++ (codes ",\"name\":" ++ (quoted label
    ++ (codes ",\"reason\":\"" ++ (reason_text c.reason
    ++ (codes "\",\"spent\":" ++ (decimal c.spent
    ++ (codes ",\"undecided\":" ++ (decimal c.undecided
    ++ codes ",\"verdict\":\"open\"}")))))))))

abbrev pub verdict_json : List ℕ → Verdict → List ℕ
verdict_json label (verdict.Accept level) = codes "{\"level\":" ++ (decimal level
    ++ (codes ",\"name\":" ++ (quoted label ++ codes ",\"verdict\":\"accept\"}")))
verdict_json label (verdict.Reject leaves) = codes "{\"leaves\":" ++ (decimal leaves
    ++ (codes ",\"name\":" ++ (quoted label ++ codes ",\"verdict\":\"reject\"}")))
verdict_json label (verdict.StillOpen counts) = open_json label counts

abbrev pub group_json : GroupVerdict → List ℕ
group_json group = verdict_json group.label group.verdict

-- the groups in order, with a comma between each and the next
abbrev pub groups_json : List GroupVerdict → List ℕ
groups_json [] = []
groups_json (group ∷ []) = group_json group
groups_json (group ∷ next ∷ groups) = group_json group ++ (codes "," ++ groups_json (next ∷ groups))

abbrev pub report_json : List GroupVerdict → List ℕ
report_json groups = codes "{\"groups\":[" ++ (groups_json groups
    ++ (codes "],\"status\":" ++ (decimal (status_of (ending_of groups)) ++ codes "}\n")))
