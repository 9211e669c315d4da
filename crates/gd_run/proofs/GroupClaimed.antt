-- What the answers of `judge` and `check` say of the groups of a frame file.
use Rattle.std.proofs.Common.{arith, ◌≡◌, ◌∙◌, ap, sym, refl, subst, ℕ, List, Some, None, Ok, Err, length, map}
use Rattle.std.proofs.lemmas.List.{length-map}
use Rattle.gd_cells.specs.Meaning.{Questions}
use Rattle.gd_cert.proofs.Whole.{reading_takes}
use Rattle.gd_cert.specs.Certificates.{Certificate}
use Rattle.gd_cert.specs.declared.fault.CertFault.{CertFault}
use Rattle.gd_check.specs.Right.{IsRight}
use Rattle.gd_check.specs.Wrong.{first_wrong}
use Rattle.gd_group.specs.Groups.{groups}
use Rattle.gd_group.specs.Labels.{label}
use Rattle.gd_group.specs.Requirements.{requirements}
use Rattle.gd_group.specs.Tasks.{Asked, Meets, all_asked, assignment_of, group_asked, labels, questions_of}
use Rattle.gd_points.specs.declared.table.Row.{Row}
use Rattle.gd_report.specs.Said.{Said, invalid, status_of}
use Rattle.gd_run.proofs.Claimed.{IsSaidValid, StatesLine, said_valid, same_value, under_no_verdict, under_states, valid_is_read}
use Rattle.gd_run.proofs.FilesRead.{CertificateRead, certificate_read}
use Rattle.gd_run.proofs.Grouped.{report_eight, report_one, report_two, report_zero}
use Rattle.gd_run.specs.Answers.{Answer, only_said, said_of_certificate}
use Rattle.gd_run.specs.Asks.{Asks, ForCheck, ForJudge}
use Rattle.gd_run.specs.CheckCommand.{Check, IsCheckAnswer}
use Rattle.gd_run.specs.Claims.{HasFrames, HasTable, IsValidFor}
use Rattle.gd_run.specs.GroupClaims.{AreGroupsInvalid, AreGroupsValid, IsGroupReport, IsJudgedAccept, IsJudgedOpen, IsJudgedReject}
use Rattle.gd_run.specs.Inputs.{certificate_file}
use Rattle.gd_run.specs.JudgeCommand.{IsJudgeAnswer, Judge}
use Rattle.gd_tables.specs.Kinds.{File}
use Rattle.gd_world.specs.Shelf.{Files}

-- there is a label a group
pub label_each : (file : File) (rows : List Row) → length (labels file rows) ≡ length (all_asked file rows)
label_each file rows = length-map (groups file (requirements file rows)) (label file) ∙ sym (length-map (groups file (requirements file rows)) (group_asked file rows))

-- ---- `judge`
-- what its text says, by its status
pub record JudgeMeans (words : List (List ℕ)) (files : Files) (said : Said) : Type 0 where
  pub zero : status_of said.ending ≡ 0 → IsJudgedAccept words files said.text
  pub one : status_of said.ending ≡ 1 → IsJudgedReject words files said.text
  pub two : status_of said.ending ≡ 2 → IsJudgedOpen words files said.text
  pub eight : status_of said.ending ≡ 8 → ⊥

module _ (words : List (List ℕ)) (files : Files) (judge : Judge) (asks : Asks words (ForJudge judge)) (input : HasTable files judge.points) (frames : HasFrames files input.table judge.frames) (a : Answer) (is : IsJudgeAnswer judge input.table frames.file a) where
  abbrev asked : List Asked
  asked = all_asked frames.file input.table.rows

  abbrev named : List (List ℕ)
  named = labels frames.file input.table.rows

  abbrev report : IsGroupReport words files a.said.text
  report = record {
    judge = judge;
    asks = asks;
    input = input;
    frames = frames;
    verdicts = is.verdicts;
    certificate = is.certificate;
    so = is.so;
    text = ap (λ (b : Answer). b.said.text) is.answer;
  }

  pub judge_means : JudgeMeans words files a.said
  judge_means =
      let each : length named ≡ length asked = label_each frames.file input.table.rows in
      record {
        zero = λ h. record { report = report; accepted = report_zero questions_of Meets assignment_of asked named judge.budget judge.layout judge.certificate a each is h };
        one = λ h. record { report = report; rejected = report_one questions_of Meets assignment_of asked named judge.budget judge.layout judge.certificate a each is h };
        two = λ h. record { report = report; open_group = report_two questions_of Meets assignment_of asked named judge.budget judge.layout judge.certificate a each is h };
        eight = report_eight questions_of Meets assignment_of asked named judge.budget judge.layout judge.certificate a each is;
      }

-- ---- `check`
pub record CheckMeans (words : List (List ℕ)) (files : Files) (said : Said) : Type 0 where
  pub zero : status_of said.ending ≡ 0 → AreGroupsValid words files said.text
  pub one : status_of said.ending ≡ 1 → ⊥
  pub two : status_of said.ending ≡ 2 → ⊥
  pub eight : status_of said.ending ≡ 8 → AreGroupsInvalid words files said.text

-- a right certificate of the requirements as they are written is said to be valid
right_is_said : (qs : List Questions) (bytes : List ℕ) (v : IsValidFor qs bytes) → (IsRight qs v.certificate → first_wrong qs v.certificate ≡ None) → status_of (said_of_certificate qs v.certificate).ending ≡ 0
right_is_said qs bytes v complete = rw (v.plain, complete v.right) refl

module _ (words : List (List ℕ)) (files : Files) (check : Check) (asks : Asks words (ForCheck check)) (input : HasTable files check.points) (frames : HasFrames files input.table check.frames) (bytes : List ℕ) (held : files check.certificate ≡ Some bytes) where
  abbrev asked_of : List Asked
  asked_of = all_asked frames.file input.table.rows

  abbrev qs : List Questions
  qs = map questions_of asked_of

  -- the certificate was read, and decided
  pub check_means : (c : Certificate) → certificate_file bytes ≡ Ok c → (a : Answer) → IsCheckAnswer input.table frames.file c a → CheckMeans words files a.said
  check_means c read a is =
      let status : status_of a.said.ending ≡ status_of (said_of_certificate qs c).ending = ap (λ (b : Answer). status_of b.said.ending) is.answer in
      let printed : a.said.text ≡ (said_of_certificate qs c).text = ap (λ (b : Answer). b.said.text) is.answer in
      record {
        zero = λ h.
            let said : IsSaidValid qs c = said_valid qs c c.heading refl (sym status ∙ h) in
            let from : CertificateRead bytes c = certificate_read bytes c read in
            let takes = reading_takes bytes c from.read in
            let right : IsRight qs c = is.sound said.none in
            record {
              check = check;
              asks = asks;
              input = input;
              frames = frames;
              bytes = bytes;
              held = held;
              valid = record { short = from.short; certificate = c; fits = takes.0; spelled = takes.1; plain = said.plain; right = right };
              says = is.means right;
              text = printed ∙ said.text;
            };
        one = λ h. under_no_verdict qs c.heading c 1 (sym status ∙ h) (omega arith) (omega arith);
        two = λ h. under_no_verdict qs c.heading c 2 (sym status ∙ h) (omega arith) (omega arith);
        eight = λ h.
            let t : StatesLine (said_of_certificate qs c) = under_states qs c.heading c (sym status ∙ h) in
            record {
              check = check;
              asks = asks;
              input = input;
              frames = frames;
              bytes = bytes;
              held = held;
              wrong = λ v.
                  let same : v.certificate ≡ c = same_value (certificate_file bytes) v.certificate c (valid_is_read qs bytes v) read in
                  let complete : IsRight qs v.certificate → first_wrong qs v.certificate ≡ None = subst (λ d. IsRight qs d → first_wrong qs d ≡ None) (sym same) is.complete in
                  let zero : status_of (said_of_certificate qs c).ending ≡ 0 = subst (λ d. status_of (said_of_certificate qs d).ending ≡ 0) same (right_is_said qs bytes v complete) in
                  absurd (omega (arith, zero, status, h));
              line = t.line;
              code = t.code;
              text = printed ∙ t.text;
            };
      }

  -- the certificate has a fault
  pub fault_means : (f : CertFault) → certificate_file bytes ≡ Err f → (a : Answer) → a ≡ only_said (invalid f.line f.code) → CheckMeans words files a.said
  fault_means f read a is =
      let status : status_of a.said.ending ≡ 8 = ap (λ (b : Answer). status_of b.said.ending) is in
      record {
        zero = λ h. absurd (omega (arith, h, status));
        one = λ h. omega (arith, h, status);
        two = λ h. omega (arith, h, status);
        eight = λ h. record {
          check = check;
          asks = asks;
          input = input;
          frames = frames;
          bytes = bytes;
          held = held;
          wrong = λ v. let ok = valid_is_read qs bytes v in cc;
          line = f.line;
          code = f.code;
          text = ap (λ (b : Answer). b.said.text) is;
        };
      }
