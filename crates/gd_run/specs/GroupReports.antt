-- What a run says of the groups of a part: a report of their verdicts with their certificate, or a check of one. A
-- group is known by what it asks: its questions, what meets it, and the assignment of a witness.
use Rattle.std.specs.Prelude.{ℕ, ◌≡◌, ◌≤◌, ℤ, List, [], ◌∷◌, None, length, map}
use Rattle.gd_base.specs.Limits.{FILE_BYTES}
use Rattle.gd_base.specs.declared.verdict.Verdict.{Verdict}
use Rattle.gd_cells.specs.Meaning.{Questions}
use Rattle.gd_cells.specs.declared.cell.Witness.{Witness}
use Rattle.gd_cert.specs.Bounds.{IsInBounds}
use Rattle.gd_cert.specs.Certificates.{Certificate}
use Rattle.gd_cert.specs.Text.{text}
use Rattle.gd_check.specs.Means.{AreRight}
use Rattle.gd_check.specs.Right.{IsRight}
use Rattle.gd_check.specs.Wrong.{first_wrong}
use Rattle.gd_judge.specs.Judged.{AreOfTasks}
use Rattle.gd_judge.specs.Means.{AreMeant}
use Rattle.gd_report.specs.Reports.{reported, reported_as_json}
use Rattle.gd_report.specs.Said.{Said}
use Rattle.gd_report.specs.declared.group.GroupVerdict.{GroupVerdict}
use Rattle.gd_run.specs.Answers.{Answer, only_said, said_of_certificate}
use Rattle.gd_run.specs.declared.layout.Layout.{Layout}
use Rattle.gd_run.specs.declared.layout.Layout.TheVariants as layout

-- each group by its label, with its verdict
abbrev pub labelled : List (List ℕ) → List Verdict → List GroupVerdict
labelled [] vs = []
labelled (label ∷ labels) [] = []
labelled (label ∷ labels) (v ∷ vs) = record { label = label; verdict = v } ∷ labelled labels vs

-- what is said of the groups in a layout
abbrev pub said_of_groups : Layout → List GroupVerdict → Said
said_of_groups layout.Text groups = reported groups
said_of_groups layout.Json groups = reported_as_json groups

-- these are the verdicts of the groups, each for its share of a budget, and their certificate. Each verdict means what
-- it says, and the certificate is right and can be read again
pub record AreJudgedSo {A : Type 0} (questions : A → Questions) (meets : A → List ℤ → Type 0)
    (assignment : A → Witness → List ℤ) (asked : List A) (budget : ℕ) (verdicts : List Verdict)
    (certificate : Certificate) : Type 0 where
  pub judged : AreOfTasks (map questions asked) budget verdicts certificate
  pub means : AreMeant questions meets assignment asked certificate.share verdicts certificate.groups
  pub right : IsRight (map questions asked) certificate
  pub fits : IsInBounds certificate
  pub short : length (text certificate) ≤ FILE_BYTES

-- an answer that reports such verdicts by the labels of their groups, and stores the certificate under a name
pub record AreReported {A : Type 0} (questions : A → Questions) (meets : A → List ℤ → Type 0)
    (assignment : A → Witness → List ℤ) (asked : List A) (labels : List (List ℕ)) (budget : ℕ)
    (layout : Layout) (name : List ℕ) (a : Answer) : Type 0 where
  pub verdicts : List Verdict
  pub certificate : Certificate
  pub so : AreJudgedSo questions meets assignment asked budget verdicts certificate
  pub answer : a ≡ record {
    stores = (name, text certificate) ∷ [];
    said = said_of_groups layout (labelled labels verdicts);
  }

-- an answer that tells whether a certificate is right for the groups, and else its first wrong line. What a right one
-- says of each group is so
pub record IsDecided {A : Type 0} (questions : A → Questions) (meets : A → List ℤ → Type 0)
    (assignment : A → Witness → List ℤ) (asked : List A) (c : Certificate) (a : Answer) : Type 0 where
  pub sound : first_wrong (map questions asked) c ≡ None → IsRight (map questions asked) c
  pub complete : IsRight (map questions asked) c → first_wrong (map questions asked) c ≡ None
  pub means : IsRight (map questions asked) c → AreRight questions meets assignment asked c
  pub answer : a ≡ only_said (said_of_certificate (map questions asked) c)
