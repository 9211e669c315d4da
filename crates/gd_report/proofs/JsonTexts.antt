-- The text of the JSON value of a report is the one that is stated.
use Rattle.std.proofs.Common.{◌≡◌, refl, sym, ap, ◌∙◌, append_assoc, ℕ, true, false, List, [], ◌∷◌, ◌++◌, map, codes, decimal}
use Rattle.gd_base.specs.declared.verdict.Reason.{Reason}
use Rattle.gd_base.specs.declared.verdict.Reason.TheVariants as reason
use Rattle.gd_base.specs.declared.verdict.Verdict.{Verdict}
use Rattle.gd_base.specs.declared.verdict.Verdict.TheVariants as verdict
use Rattle.gd_report.specs.Json.{group_json, groups_json, verdict_json, open_json}
use Rattle.gd_report.specs.JsonData.{group_data, report_data, verdict_data, open_data}
use Rattle.gd_report.specs.declared.group.GroupVerdict.{GroupVerdict}
use Rattle.serde_json.specs.View.{items_of}
use Rattle.serde_json.specs.Written.{compact_text, has_float, items_have_float, items_text}
use Rattle.serde_json.proofs.OnLiterals.{serde_json_on_literals}

-- ---- a group
-- by the reason, whose word needs no escape
open_is : (label : List ℕ) (level undecided spent : ℕ) (r : Reason)
    → compact_text (open_data label (record { level = level; undecided = undecided; spent = spent; reason = r }))
    ≡ open_json label (record { level = level; undecided = undecided; spent = spent; reason = r })
unfolding serde_json_on_literals
open_is label level undecided spent reason.Budget = refl
open_is label level undecided spent reason.Floor = refl

pub verdict_is : (label : List ℕ) (v : Verdict) → compact_text (verdict_data label v) ≡ verdict_json label v
unfolding serde_json_on_literals
verdict_is label (verdict.Accept level) = refl
verdict_is label (verdict.Reject leaves) = refl
verdict_is label (verdict.StillOpen c) = open_is label c.level c.undecided c.spent c.reason

no_float : (label : List ℕ) (v : Verdict) → has_float (verdict_data label v) ≡ false
no_float label (verdict.Accept level) = refl
no_float label (verdict.Reject leaves) = refl
no_float label (verdict.StillOpen counts) = refl

-- ---- all groups
no_floats : (groups : List GroupVerdict) → items_have_float (items_of (map group_data groups)) ≡ false
no_floats [] = refl
no_floats (g ∷ gs) = rw no_float (no_floats gs)

more_are : (g : GroupVerdict) (gs : List GroupVerdict) → compact_text (group_data g) ++ items_text true (items_of (map group_data gs)) ≡ groups_json (g ∷ gs) ++ codes "]"
unfolding serde_json_on_literals
more_are g [] = ap (λ t. t ++ codes "]") (verdict_is g.label g.verdict)
more_are g (h ∷ gs) =
    ap (λ t. t ++ (codes "," ++ (compact_text (group_data h) ++ items_text true (items_of (map group_data gs))))) (verdict_is g.label g.verdict)
    ∙ ap (λ t. group_json g ++ (codes "," ++ t)) (more_are h gs)
    ∙ sym (append_assoc (group_json g) (codes "," ++ groups_json (h ∷ gs)) (codes "]"))

items_are : (groups : List GroupVerdict) → items_text false (items_of (map group_data groups)) ≡ groups_json groups ++ codes "]"
unfolding serde_json_on_literals
items_are [] = refl
items_are (g ∷ gs) = more_are g gs

-- ---- the report
pub report_has_no_float : (groups : List GroupVerdict) (status : ℕ) → has_float (report_data groups status) ≡ false
report_has_no_float groups status = rw no_floats refl

pieces : (g a b d e f : List ℕ) → ((g ++ a) ++ (b ++ (d ++ e))) ++ f ≡ g ++ ((a ++ b) ++ (d ++ (e ++ f)))
pieces g a b d e f = simp append_assoc

pub report_is : (groups : List GroupVerdict) (status : ℕ) → compact_text (report_data groups status) ++ codes "\n"
    ≡ codes "{\"groups\":[" ++ (groups_json groups ++ (codes "],\"status\":" ++ (decimal status ++ codes "}\n")))
unfolding serde_json_on_literals
report_is groups status =
    ap (λ t. codes "{\"groups\":[" ++ ((t ++ (codes ",\"status\":" ++ (decimal status ++ codes "}"))) ++ codes "\n")) (items_are groups)
    ∙ ap (λ t. codes "{\"groups\":[" ++ t) (pieces (groups_json groups) (codes "]") (codes ",\"status\":") (decimal status) (codes "}") (codes "\n"))
