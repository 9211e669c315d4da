-- What the answer of a run says of the points of a file.
use Rattle.std.proofs.Common.{arith, ◌≡◌, ◌∙◌, ap, refl, ℕ, ◌≤◌, ◌<◌, List, [], ◌∷◌, Option, Some, None, Result, Ok, Err, length}
use Rattle.gd_base.specs.Limits.{BUDGET, POINTS}
use Rattle.gd_cells.specs.Meaning.{Questions}
use Rattle.gd_cells.specs.declared.cell.Witness.{Witness}
use Rattle.gd_cells.specs.declared.node.Node.{Node}
use Rattle.gd_cert.proofs.Again.{reading_again}
use Rattle.gd_cert.proofs.Whole.{reading_takes}
use Rattle.gd_cert.specs.Certificates.{Accept, Body, Certificate, Heading, Plain, Probe, Reject}
use Rattle.gd_cert.specs.Certificates as certificates
use Rattle.gd_cert.specs.Reading.{reading}
use Rattle.gd_cert.specs.Text.{text}
use Rattle.gd_cert.specs.declared.fault.CertFault.{CertFault}
use Rattle.gd_check.specs.Right.{AreRightBodies, IsRight, IsRightBody}
use Rattle.gd_check.specs.Wrong.{first_wrong}
use Rattle.gd_flat.specs.FlatTask.{assignment_of, direction_at, questions_of}
use Rattle.gd_flat.specs.Flatness.{IsFlatAlong}
use Rattle.gd_flat.specs.Laws.Task.{flat_laws}
use Rattle.gd_points.specs.declared.table.Row.{Row}
use Rattle.gd_report.specs.Said.{Said, status_of}
use Rattle.gd_report.specs.Texts.{invalid_text, valid_text}
use Rattle.gd_run.proofs.Certified.{end_in_bounds, end_is_short, flat_right, flat_true, flat_verdict_is_right, right_flat}
use Rattle.gd_run.proofs.FilesRead.{CertificateRead, short_file}
use Rattle.gd_run.specs.Answers.{certificate_of_end, said_of_certificate, said_of_wrong, said_under}
use Rattle.gd_run.specs.Claims.{IsFlatNowhere, IsTrueFor, IsValidFor, SaysOfPoints}
use Rattle.gd_run.specs.Inputs.{certificate_file}
use Rattle.gd_verdict.proofs.Meant.{accepts, rejects}
use Rattle.gd_verdict.specs.Verdict.{Accepted, End, IsVerdict, Rejected}

-- ---- what a verdict of flatness says
pub accept_is_flat : (rows : List Row) (tolerance : ℕ) → 0 < length rows → length rows ≤ POINTS → (budget level : ℕ) (w : Witness) → IsVerdict (questions_of rows tolerance) budget (Accepted w level) → IsFlatAlong rows tolerance w.root (direction_at w)
accept_is_flat rows tolerance some few budget level w verdict = (accepts (flat_laws rows tolerance some few) budget w level verdict).shown

pub reject_is_flat_nowhere : (rows : List Row) (tolerance : ℕ) → 0 < length rows → length rows ≤ POINTS → (budget leaves : ℕ) (tree : List Node) → IsVerdict (questions_of rows tolerance) budget (Rejected leaves tree) → IsFlatNowhere rows tolerance
reject_is_flat_nowhere rows tolerance some few budget leaves tree verdict flat = rejects (flat_laws rows tolerance some few) budget leaves tree verdict (assignment_of flat.axis flat.direction) flat.along

-- ---- the certificate of a verdict
pub end_is_valid : (rows : List Row) (tolerance budget : ℕ) (e : End) → 0 < length rows → length rows ≤ POINTS → budget ≤ BUDGET → IsVerdict (questions_of rows tolerance) budget e
    → IsValidFor (questions_of rows tolerance ∷ []) (text (certificate_of_end (questions_of rows tolerance) budget e))
end_is_valid rows tolerance budget e some few small verdict = record {
  short = end_is_short rows tolerance budget e some few small verdict;
  certificate = certificate_of_end (questions_of rows tolerance) budget e;
  fits = end_in_bounds rows tolerance budget e some few small verdict;
  spelled = refl;
  plain = refl;
  right = record { told = refl; groups = ((flat_verdict_is_right rows tolerance some few budget e small verdict).0, tt) };
}

-- ---- what a check says
says_of : (rows : List Row) (tolerance : ℕ) → 0 < length rows → length rows ≤ POINTS → (budget : ℕ) (b : Body) → IsRightBody (questions_of rows tolerance) budget b → SaysOfPoints rows tolerance budget b
says_of rows tolerance some few budget (Accept root at) right = flat_true rows tolerance some few budget (Accept root at) right
says_of rows tolerance some few budget (Reject lines) right = λ flat. flat_true rows tolerance some few budget (Reject lines) right (assignment_of flat.axis flat.direction) flat.along
says_of rows tolerance some few budget (certificates.Open counts lines) right = flat_true rows tolerance some few budget (certificates.Open counts lines) right

-- the one group of a right certificate of one task
record OneGroup (q : Questions) (c : Certificate) : Type 0 where
  group : Body
  only : c.groups ≡ group ∷ []
  right : IsRightBody q c.share group

one_group : (q : Questions) (c : Certificate) (bs : List Body) → c.groups ≡ bs → AreRightBodies (q ∷ []) c.share bs → OneGroup q c
one_group q c [] is right = absurd right
one_group q c (b ∷ []) is right = record { group = b; only = is; right = right.0 }
one_group q c (b ∷ d ∷ bs) is right = absurd right.1

-- ---- what is said of a certificate
no_fault : (o : Option CertFault) → status_of (said_of_wrong o).ending ≡ 0 → o ≡ None
no_fault None h = refl
no_fault (Some f) h = absurd (omega (arith, h))

pub record IsSaidValid (qs : List Questions) (c : Certificate) : Type 0 where
  pub plain : c.heading ≡ Plain
  pub none : first_wrong qs c ≡ None
  pub text : (said_of_certificate qs c).text ≡ valid_text

pub said_valid : (qs : List Questions) (c : Certificate) (h : Heading) → c.heading ≡ h → status_of (said_under qs h c).ending ≡ 0 → IsSaidValid qs c
said_valid qs c Plain is zero =
    let none : first_wrong qs c ≡ None = no_fault (first_wrong qs c) zero in record { plain = is; none = none; text = rw (is, none) refl }
said_valid qs c (Probe name tolerance) is zero = absurd (omega (arith, zero))

-- the text of an invalid certificate states some line and some code
pub record StatesLine (said : Said) : Type 0 where
  pub line : ℕ
  pub code : ℕ
  pub text : said.text ≡ invalid_text line code

wrong_states : (o : Option CertFault) → status_of (said_of_wrong o).ending ≡ 8 → StatesLine (said_of_wrong o)
wrong_states None h = absurd (omega (arith, h))
wrong_states (Some f) h = record { line = f.line; code = f.code; text = refl }

pub under_states : (qs : List Questions) (h : Heading) (c : Certificate) → status_of (said_under qs h c).ending ≡ 8 → StatesLine (said_under qs h c)
under_states qs Plain c h = wrong_states (first_wrong qs c) h
under_states qs (Probe name tolerance) c h = record { line = 2; code = 55; text = refl }

wrong_no_verdict : (o : Option CertFault) (code : ℕ) → status_of (said_of_wrong o).ending ≡ code → 1 ≤ code → code ≤ 2 → ⊥
wrong_no_verdict None code h low high = absurd (omega (arith, h, low))
wrong_no_verdict (Some f) code h low high = absurd (omega (arith, h, high))

-- a check gives no verdict
pub under_no_verdict : (qs : List Questions) (h : Heading) (c : Certificate) (code : ℕ) → status_of (said_under qs h c).ending ≡ code → 1 ≤ code → code ≤ 2 → ⊥
under_no_verdict qs Plain c code h low high = wrong_no_verdict (first_wrong qs c) code h low high
under_no_verdict qs (Probe name tolerance) c code h low high = absurd (omega (arith, h, high))

-- a valid certificate is read, and said to be valid
pub valid_is_read : (qs : List Questions) (bytes : List ℕ) (v : IsValidFor qs bytes) → certificate_file bytes ≡ Ok v.certificate
valid_is_read qs bytes v =
    let read : reading bytes ≡ Ok v.certificate = ap reading v.spelled ∙ reading_again v.certificate v.fits in
    rw (short_file bytes v.short) read

pub valid_is_said : (rows : List Row) (tolerance : ℕ) → 0 < length rows → length rows ≤ POINTS → (bytes : List ℕ) (v : IsValidFor (questions_of rows tolerance ∷ []) bytes) → status_of (said_of_certificate (questions_of rows tolerance ∷ []) v.certificate).ending ≡ 0
valid_is_said rows tolerance some few bytes v =
    let none : first_wrong (questions_of rows tolerance ∷ []) v.certificate ≡ None = right_flat rows tolerance some few v.certificate v.right in
    rw (v.plain, none) refl

pub same_value : {X F : Type 0} (r : Result X F) (x y : X) → r ≡ Ok x → r ≡ Ok y → x ≡ y
same_value (Ok z) x y h i = cc
same_value (Err f) x y h i = cc

pub true_for : (rows : List Row) (tolerance : ℕ) → 0 < length rows → length rows ≤ POINTS → (bytes : List ℕ) (c : Certificate) → CertificateRead bytes c → IsSaidValid (questions_of rows tolerance ∷ []) c → IsTrueFor rows tolerance bytes
true_for rows tolerance some few bytes c read said =
    let takes = reading_takes bytes c read.read in
    let right : IsRight (questions_of rows tolerance ∷ []) c = flat_right rows tolerance some few c said.none in
    let one : OneGroup (questions_of rows tolerance) c = one_group (questions_of rows tolerance) c c.groups refl right.groups in
    record {
      valid = record { short = read.short; certificate = c; fits = takes.0; spelled = takes.1; plain = said.plain; right = right };
      group = one.group;
      only = one.only;
      says = says_of rows tolerance some few c.share one.group one.right;
    }
