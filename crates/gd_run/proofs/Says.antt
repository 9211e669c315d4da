-- What an answer says, by its status.
use Rattle.std.proofs.Common.{arith, ◌≡◌, ◌∙◌, ap, sym, refl, subst, ℕ, ◌⊎◌, inl, inr, List, [], ◌∷◌}
use Rattle.gd_base.specs.declared.fault.InputFault.{InputFault}
use Rattle.gd_cells.specs.Meaning.{Questions}
use Rattle.gd_flat.specs.FlatTask.{direction_at, questions_of}
use Rattle.gd_points.specs.declared.table.Row.{Row}
use Rattle.gd_report.specs.Said.{Said, refused, status_of}
use Rattle.gd_run.proofs.Claimed.{IsSaidValid, StatesLine, accept_is_flat, reject_is_flat_nowhere, said_valid, same_value, true_for, under_no_verdict, under_states, valid_is_read, valid_is_said}
use Rattle.gd_run.proofs.FilesRead.{CheckDecided, CheckFlatRead, CheckRead, CheckRefused, CheckUnreadable, Decided, FlatRead, JudgeRead, JudgeRefused, JudgeReported, Judged, Refused, Unread, Unreadable, certificate_read, check_flat_read, check_read, few_of, flat_read, judge_read, some_of}
use Rattle.gd_run.proofs.GroupClaimed.{CheckMeans, JudgeMeans, check_means, fault_means, judge_means}
use Rattle.gd_run.specs.Answers.{Answer, only_said, said_of_certificate}
use Rattle.gd_run.specs.Asks.{Asks, ForCheck, ForCheckFlat, ForFlat, ForJudge}
use Rattle.gd_run.specs.CheckCommand.{Check}
use Rattle.gd_run.specs.CheckFlatCommand.{CheckFlat}
use Rattle.gd_run.specs.Claims.{HasTable, IsAccept, IsInvalid, IsOpen, IsReject, IsValid}
use Rattle.gd_run.specs.FlatCommand.{Flat, said_of_end}
use Rattle.gd_run.specs.GroupClaims.{AreGroupsInvalid, AreGroupsValid, IsJudgedAccept, IsJudgedOpen, IsJudgedReject}
use Rattle.gd_run.specs.Inputs.{certificate_file}
use Rattle.gd_run.specs.JudgeCommand.{Judge}
use Rattle.gd_run.specs.Runs.{IsAnswer}
use Rattle.gd_verdict.specs.Verdict.{Accepted, End, IsVerdict, Open, Rejected}
use Rattle.gd_world.specs.Shelf.{Files}

pub record Means (words : List (List ℕ)) (files : Files) (said : Said) : Type 0 where
  pub zero : status_of said.ending ≡ 0 → IsAccept words files said.text ⊎ (IsValid words files said.text ⊎ (IsJudgedAccept words files said.text ⊎ AreGroupsValid words files said.text))
  pub one : status_of said.ending ≡ 1 → IsReject words files said.text ⊎ IsJudgedReject words files said.text
  pub two : status_of said.ending ≡ 2 → IsOpen words files said.text ⊎ IsJudgedOpen words files said.text
  pub eight : status_of said.ending ≡ 8 → IsInvalid words files said.text ⊎ AreGroupsInvalid words files said.text

-- an answer of another status says nothing here
means_nothing : (words : List (List ℕ)) (files : Files) (said : Said) (code : ℕ) → status_of said.ending ≡ code → (code ≡ 0 → ⊥) → (code ≡ 1 → ⊥) → (code ≡ 2 → ⊥) → (code ≡ 8 → ⊥) → Means words files said
means_nothing words files said code is a b c d = record { zero = λ h. absurd (a (sym is ∙ h)); one = λ h. absurd (b (sym is ∙ h)); two = λ h. absurd (c (sym is ∙ h)); eight = λ h. absurd (d (sym is ∙ h)) }

refusal_means : (words : List (List ℕ)) (files : Files) (a : Answer) (word : List ℕ) (f : InputFault) → a ≡ only_said (refused word f) → Means words files a.said
refusal_means words files a word f is = means_nothing words files a.said 3 (ap (λ (b : Answer). status_of b.said.ending) is) (λ h. omega (arith, h)) (λ h. omega (arith, h)) (λ h. omega (arith, h)) (λ h. omega (arith, h))

verdict_means : (words : List (List ℕ)) (files : Files) (flat : Flat) (input : HasTable files flat.points) → Asks words (ForFlat flat) → (e : End) → IsVerdict (questions_of input.table.rows flat.tolerance) flat.budget e → (said : Said) → said ≡ said_of_end e → Means words files said
verdict_means words files flat input asks (Accepted w level) verdict said is =
    let status : status_of said.ending ≡ 0 = ap (λ (s : Said). status_of s.ending) is in
    record {
      zero = λ h. inl (record { flat = flat; asks = asks; input = input; level = level; axis = w.root; direction = direction_at w; conforms = accept_is_flat input.table.rows flat.tolerance (some_of input) (few_of input) flat.budget level w verdict; text = ap (λ (s : Said). s.text) is });
      one = λ h. absurd (omega (arith, h, status));
      two = λ h. absurd (omega (arith, h, status));
      eight = λ h. absurd (omega (arith, h, status));
    }
verdict_means words files flat input asks (Rejected leaves tree) verdict said is =
    let status : status_of said.ending ≡ 1 = ap (λ (s : Said). status_of s.ending) is in
    record {
      zero = λ h. absurd (omega (arith, h, status));
      one = λ h. inl (record { flat = flat; asks = asks; input = input; leaves = leaves; none = reject_is_flat_nowhere input.table.rows flat.tolerance (some_of input) (few_of input) flat.budget leaves tree verdict; text = ap (λ (s : Said). s.text) is });
      two = λ h. absurd (omega (arith, h, status));
      eight = λ h. absurd (omega (arith, h, status));
    }
verdict_means words files flat input asks (Open tree counts) verdict said is =
    let status : status_of said.ending ≡ 2 = ap (λ (s : Said). status_of s.ending) is in
    record {
      zero = λ h. absurd (omega (arith, h, status));
      one = λ h. absurd (omega (arith, h, status));
      two = λ h. inl (record { flat = flat; asks = asks; input = input; lines = tree; counts = counts; is = verdict; text = ap (λ (s : Said). s.text) is });
      eight = λ h. absurd (omega (arith, h, status));
    }

flat_means : (words : List (List ℕ)) (files : Files) (flat : Flat) → Asks words (ForFlat flat) → (a : Answer) → FlatRead files flat a → Means words files a.said
flat_means words files flat asks a (Judged input is) = verdict_means words files flat input asks is.0 is.1 a.said (ap (λ (b : Answer). b.said) is.2)
flat_means words files flat asks a (Refused f is) = refusal_means words files a flat.points f is

check_flat_means : (words : List (List ℕ)) (files : Files) (check : CheckFlat) → Asks words (ForCheckFlat check) → (a : Answer) → CheckFlatRead files check a → Means words files a.said
check_flat_means words files check asks a (Decided input bytes held c read is) =
    let rows : List Row = input.table.rows in
    let qs : List Questions = questions_of rows check.tolerance ∷ [] in
    let some = some_of input in
    let few = few_of input in
    let status : status_of a.said.ending ≡ status_of (said_of_certificate qs c).ending = ap (λ (b : Answer). status_of b.said.ending) is in
    let printed : a.said.text ≡ (said_of_certificate qs c).text = ap (λ (b : Answer). b.said.text) is in
    record {
      zero = λ h.
          let said : IsSaidValid qs c = said_valid qs c c.heading refl (sym status ∙ h) in
          inr (inl (record { check = check; asks = asks; input = input; bytes = bytes; held = held; true = true_for rows check.tolerance some few bytes c (certificate_read bytes c read) said; text = printed ∙ said.text }));
      one = λ h. absurd (under_no_verdict qs c.heading c 1 (sym status ∙ h) (omega arith) (omega arith));
      two = λ h. absurd (under_no_verdict qs c.heading c 2 (sym status ∙ h) (omega arith) (omega arith));
      eight = λ h.
          let t : StatesLine (said_of_certificate qs c) = under_states qs c.heading c (sym status ∙ h) in
          inl (record {
            check = check;
            asks = asks;
            input = input;
            bytes = bytes;
            held = held;
            wrong = λ v.
                let same : v.certificate ≡ c = same_value (certificate_file bytes) v.certificate c (valid_is_read qs bytes v) read in
                let zero : status_of (said_of_certificate qs c).ending ≡ 0 = subst (λ d. status_of (said_of_certificate qs d).ending ≡ 0) same (valid_is_said rows check.tolerance some few bytes v) in
                absurd (omega (arith, zero, status, h));
            line = t.line;
            code = t.code;
            text = printed ∙ t.text;
          });
    }
check_flat_means words files check asks a (Unreadable input bytes held f read is) =
    let status : status_of a.said.ending ≡ 8 = ap (λ (b : Answer). status_of b.said.ending) is in
    record {
      zero = λ h. absurd (omega (arith, h, status));
      one = λ h. absurd (omega (arith, h, status));
      two = λ h. absurd (omega (arith, h, status));
      eight = λ h. inl (record { check = check; asks = asks; input = input; bytes = bytes; held = held; wrong = λ v. let ok = valid_is_read (questions_of input.table.rows check.tolerance ∷ []) bytes v in cc; line = f.line; code = f.code; text = ap (λ (b : Answer). b.said.text) is });
    }
check_flat_means words files check asks a (Unread f is) = refusal_means words files a check.points f is

judge_says : (words : List (List ℕ)) (files : Files) (judge : Judge) → Asks words (ForJudge judge) → (a : Answer) → JudgeRead files judge a → Means words files a.said
judge_says words files judge asks a (JudgeReported input frames is) =
    let m : JudgeMeans words files a.said = judge_means words files judge asks input frames a is in
    record { zero = λ h. inr (inr (inl (m.zero h))); one = λ h. inr (m.one h); two = λ h. inr (m.two h); eight = λ h. absurd (m.eight h) }
judge_says words files judge asks a (JudgeRefused word f is) = refusal_means words files a word f is

groups_say : (words : List (List ℕ)) (files : Files) (said : Said) → CheckMeans words files said → Means words files said
groups_say words files said m = record { zero = λ h. inr (inr (inr (m.zero h))); one = λ h. absurd (m.one h); two = λ h. absurd (m.two h); eight = λ h. inr (m.eight h) }

check_says : (words : List (List ℕ)) (files : Files) (check : Check) → Asks words (ForCheck check) → (a : Answer) → CheckRead files check a → Means words files a.said
check_says words files check asks a (CheckDecided input frames bytes held c read is) =
    groups_say words files a.said (check_means words files check asks input frames bytes held c read a is)
check_says words files check asks a (CheckUnreadable input frames bytes held f read is) =
    groups_say words files a.said (fault_means words files check asks input frames bytes held f read a is)
check_says words files check asks a (CheckRefused word f is) = refusal_means words files a word f is

pub means : (words : List (List ℕ)) (files : Files) (a : Answer) → IsAnswer words files a → Means words files a.said
means words files a (inl wrong) = means_nothing words files a.said 4 (ap (λ (b : Answer). status_of b.said.ending) wrong.1) (λ h. omega (arith, h)) (λ h. omega (arith, h)) (λ h. omega (arith, h)) (λ h. omega (arith, h))
means words files a (inr (ForFlat flat, asks, is)) = flat_means words files flat asks a (flat_read files flat a is)
means words files a (inr (ForCheckFlat check, asks, is)) = check_flat_means words files check asks a (check_flat_read files check a is)
means words files a (inr (ForJudge judge, asks, is)) = judge_says words files judge asks a (judge_read files judge a is)
means words files a (inr (ForCheck check, asks, is)) = check_says words files check asks a (check_read files check a is)
