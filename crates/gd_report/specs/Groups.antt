-- The report of a run over groups of requirements, as lines: one a group, and the status.
use Rattle.std.specs.Prelude.{ℕ, ◌+◌, ◌++◌, Bool, true, false, cond, List, [], ◌∷◌, codes, decimal}
use Rattle.std.specs.List.{list_any}
use Rattle.gd_base.specs.declared.verdict.Verdict.{Verdict}
use Rattle.gd_base.specs.declared.verdict.Verdict.TheVariants as verdict
use Rattle.gd_report.specs.Said.{status_of}
use Rattle.gd_report.specs.Texts.{open_text, reject_text}
use Rattle.gd_report.specs.declared.ending.Ending.{Ending}
use Rattle.gd_report.specs.declared.ending.Ending.TheVariants as ending
use Rattle.gd_report.specs.declared.group.GroupVerdict.{GroupVerdict}

-- ---- how the run ends
abbrev pub is_reject : Verdict → Bool
is_reject (verdict.Accept level) = false
is_reject (verdict.Reject leaves) = true
is_reject (verdict.StillOpen counts) = false

abbrev pub is_still_open : Verdict → Bool
is_still_open (verdict.Accept level) = false
is_still_open (verdict.Reject leaves) = false
is_still_open (verdict.StillOpen counts) = true

abbrev pub is_rejected : GroupVerdict → Bool
is_rejected group = is_reject group.verdict

abbrev pub is_open : GroupVerdict → Bool
is_open group = is_still_open group.verdict

-- rejected where some group is, else open where some group is, else done
abbrev pub ending_of : List GroupVerdict → Ending
ending_of groups = cond (list_any is_rejected groups) ending.Rejected (cond (list_any is_open groups) ending.Open ending.Done)

-- ---- its lines
abbrev pub verdict_text : Verdict → List ℕ
verdict_text (verdict.Accept level) = codes "accept level " ++ (decimal level ++ codes "\n")
verdict_text (verdict.Reject leaves) = reject_text leaves
verdict_text (verdict.StillOpen counts) = open_text counts

-- the line of a group: its number from 1, its label and its verdict
abbrev pub group_text : ℕ → GroupVerdict → List ℕ
group_text number group = codes "group " ++ (decimal number ++ (codes " " ++ (group.label ++ (codes " " ++ verdict_text group.verdict))))

-- those of some groups, of which the first has this number
abbrev pub groups_text : ℕ → List GroupVerdict → List ℕ
groups_text number [] = []
groups_text number (group ∷ groups) = group_text number group ++ groups_text (number + 1) groups

abbrev pub status_text : ℕ → List ℕ
status_text status = codes "status " ++ (decimal status ++ codes "\n")

abbrev pub report_text : List GroupVerdict → List ℕ
report_text groups = groups_text 1 groups ++ status_text (status_of (ending_of groups))
