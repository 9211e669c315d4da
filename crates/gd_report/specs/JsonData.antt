-- The JSON value of a report: what is built before it is written.
use Rattle.std.specs.Prelude.{ℕ, List, codes, map}
use Rattle.gd_base.specs.declared.verdict.Counts.{Counts}
use Rattle.gd_base.specs.declared.verdict.Verdict.{Verdict}
use Rattle.gd_base.specs.declared.verdict.Verdict.TheVariants as verdict
use Rattle.gd_report.specs.Texts.{reason_text}
use Rattle.gd_report.specs.declared.group.GroupVerdict.{GroupVerdict}
use Rattle.serde_json.specs.Data.{Data, Members, array, member, no_members, number, object, string, unsigned}
use Rattle.serde_json.specs.View.{items_of}

-- the members after the first: the name, and the verdict's word
abbrev pub named : List ℕ → List ℕ → Members
named name word = member (codes "name") (string name) (member (codes "verdict") (string word) no_members)

abbrev pub open_data : List ℕ → Counts → Data
open_data name c =
    object (member (codes "level") (number (unsigned c.level))
    (member (codes "name") (string name)
    (member (codes "reason") (string (reason_text c.reason))
    (member (codes "spent") (number (unsigned c.spent))
    (member (codes "undecided") (number (unsigned c.undecided))
    (member (codes "verdict") (string (codes "open")) no_members))))))

abbrev pub verdict_data : List ℕ → Verdict → Data
verdict_data name (verdict.Accept level) = object (member (codes "level") (number (unsigned level)) (named name (codes "accept")))
verdict_data name (verdict.Reject leaves) = object (member (codes "leaves") (number (unsigned leaves)) (named name (codes "reject")))
verdict_data name (verdict.StillOpen counts) = open_data name counts

abbrev pub group_data : GroupVerdict → Data
group_data group = verdict_data group.label group.verdict

abbrev pub report_data : List GroupVerdict → ℕ → Data
report_data groups status =
    object (member (codes "groups") (array (items_of (map group_data groups)))
    (member (codes "status") (number (unsigned status)) no_members))
