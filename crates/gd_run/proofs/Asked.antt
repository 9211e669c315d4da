-- What words ask for, and what an answer to it may be.
use Rattle.std.proofs.Common.{arith, ◌≡◌, ◌≤◌, ◌∙◌, ◌⊎◌, inl, inr, refl, ap, sym, ℕ, decimal, option_to_list, Bool, true, false, cond, List, [], ◌∷◌, Option, Some, None, codes, get_or, map}
use Rattle.std.proofs.lemmas.Fmt.{decimal_injective}
use Rattle.std.proofs.lemmas.List.Elements.{All-cons, All-nil}
use Rattle.std.specs.List.{All, list_any}
use Rattle.std.specs.Prelude.{IsSomeAnd}
use Rattle.gd_cert.specs.Certificates.{Certificate, Heading, Plain, Probe}
use Rattle.gd_cells.specs.Meaning.{Questions}
use Rattle.gd_cert.specs.declared.fault.CertFault.{CertFault}
use Rattle.gd_check.specs.Wrong.{first_wrong}
use Rattle.gd_flat.specs.FlatTask.{questions_of}
use Rattle.gd_group.specs.Tasks as group
use Rattle.gd_points.specs.Table.{Table}
use Rattle.gd_report.specs.Groups.{is_open, is_rejected}
use Rattle.gd_report.specs.Said.{Said, status_of}
use Rattle.gd_report.specs.declared.ending.Ending.TheVariants as ending
use Rattle.gd_report.specs.declared.group.GroupVerdict.{GroupVerdict}
use Rattle.gd_run.specs.Answers.{Answer, Store, only_said, said_of_certificate, said_of_wrong, said_under, stores_to}
use Rattle.gd_run.specs.Asks.{Ask, Asks, ForCheck, ForCheckFlat, ForFlat, ForJudge, IsJob, store_of}
use Rattle.gd_run.specs.CheckCommand.{Check, IsCheckAnswer, check_words}
use Rattle.gd_run.specs.CheckFlatCommand.{CheckFlat, IsCheckFlatAnswer, IsCheckFlatRange, check_flat_words}
use Rattle.gd_run.specs.FlatCommand.{Flat, IsFlatAnswer, IsFlatRange, flat_words, said_of_end}
use Rattle.gd_run.specs.GroupReports.{said_of_groups}
use Rattle.gd_run.specs.Inputs.{Given}
use Rattle.gd_run.specs.JudgeCommand.{IsJudgeAnswer, IsJudgeRange, Judge, judge_words, layout_word}
use Rattle.gd_run.specs.Runs.{IsAnswerOf}
use Rattle.gd_run.specs.declared.layout.Layout.{Layout}
use Rattle.gd_run.specs.declared.layout.Layout.TheVariants as layout
use Rattle.gd_tables.specs.Kinds.{File}
use Rattle.gd_verdict.specs.Verdict.{End, Accepted, Rejected, Open}

-- ---- an answer from what was read
low_status : (e : End) → status_of (said_of_end e).ending ≤ 2
low_status (Accepted w l) = omega arith
low_status (Rejected n lines) = omega arith
low_status (Open lines counts) = omega arith

named_store : (word : Option (List ℕ)) (bytes : List ℕ) → All (λ (s : Store). word ≡ Some s.0) (stores_to word bytes)
named_store None bytes = All-nil (λ (s : Store). None ≡ Some s.0)
named_store (Some name) bytes = All-cons (λ (s : Store). Some name ≡ Some s.0) (name, bytes) [] refl (All-nil (λ (s : Store). Some name ≡ Some s.0))

flat_possible : (flat : Flat) (e : End) (bytes : List ℕ) (a : Answer) → a ≡ record { stores = stores_to flat.certificate bytes; said = said_of_end e } → IsAnswerOf (ForFlat flat) a
flat_possible flat e bytes a is = rw is (record {
  ending = inl (omega (arith, low_status e));
  named = named_store flat.certificate bytes;
  refused = λ h. absurd (omega (arith, h, low_status e));
})

-- an answer that stores nothing
pub only_possible : (ask : Ask) (said : Said) (a : Answer) → (status_of said.ending ≤ 3) ⊎ (status_of said.ending ≡ 8) → a ≡ only_said said → IsAnswerOf ask a
only_possible ask said a ending is = rw is (record { ending = ending; named = All-nil (λ (s : Store). store_of ask ≡ Some s.0); refused = λ h. refl })

wrong_ending : (o : Option CertFault) → (status_of (said_of_wrong o).ending ≤ 3) ⊎ (status_of (said_of_wrong o).ending ≡ 8)
wrong_ending None = inl (omega arith)
wrong_ending (Some f) = inr refl

under_ending : (qs : List Questions) (h : Heading) (c : Certificate) → (status_of (said_under qs h c).ending ≤ 3) ⊎ (status_of (said_under qs h c).ending ≡ 8)
under_ending qs Plain c = wrong_ending (first_wrong qs c)
under_ending qs (Probe name tolerance) c = inr refl

flat_table : (flat : Flat) (t : Option Table) (a : Answer) → IsSomeAnd t (λ table. IsFlatAnswer flat table a) → IsAnswerOf (ForFlat flat) a
flat_table flat (Some table) a job = flat_possible flat job.0 _ a job.2
flat_table flat None a job = absurd job

check_flat_certificate : (check : CheckFlat) (table : Table) (c : Option Certificate) (a : Answer) → IsSomeAnd c (λ d. IsCheckFlatAnswer check table d a) → IsAnswerOf (ForCheckFlat check) a
check_flat_certificate check table (Some c) a job =
    let qs : List Questions = questions_of table.rows check.tolerance ∷ [] in
    only_possible (ForCheckFlat check) (said_of_certificate qs c) a (under_ending qs c.heading c) job
check_flat_certificate check table None a job = absurd job

check_flat_table : (check : CheckFlat) (t : Option Table) (c : Option Certificate) (a : Answer) → IsSomeAnd t (λ table. IsSomeAnd c (λ d. IsCheckFlatAnswer check table d a)) → IsAnswerOf (ForCheckFlat check) a
check_flat_table check (Some table) c a job = check_flat_certificate check table c a job
check_flat_table check None c a job = absurd job

-- a report ends in a verdict
low_ending : (a b : Bool) → status_of (cond a ending.Rejected (cond b ending.Open ending.Done)) ≤ 2
low_ending true b = omega arith
low_ending false true = omega arith
low_ending false false = omega arith

low_report : (l : Layout) (groups : List GroupVerdict) → status_of (said_of_groups l groups).ending ≤ 2
low_report layout.Text groups = low_ending (list_any is_rejected groups) (list_any is_open groups)
low_report layout.Json groups = low_ending (list_any is_rejected groups) (list_any is_open groups)

judge_possible : (judge : Judge) (bytes : List ℕ) (groups : List GroupVerdict) (a : Answer) → a ≡ record { stores = (judge.certificate, bytes) ∷ []; said = said_of_groups judge.layout groups } → IsAnswerOf (ForJudge judge) a
judge_possible judge bytes groups a is = rw is (record {
  ending = inl (omega (arith, low_report judge.layout groups));
  named = named_store (Some judge.certificate) bytes;
  refused = λ h. absurd (omega (arith, h, low_report judge.layout groups));
})

judge_frames : (judge : Judge) (table : Table) (f : Option File) (a : Answer) → IsSomeAnd f (λ file. IsJudgeAnswer judge table file a) → IsAnswerOf (ForJudge judge) a
judge_frames judge table (Some file) a job = judge_possible judge _ _ a job.answer
judge_frames judge table None a job = absurd job

judge_table : (judge : Judge) (t : Option Table) (f : Option File) (a : Answer) → IsSomeAnd t (λ table. IsSomeAnd f (λ file. IsJudgeAnswer judge table file a)) → IsAnswerOf (ForJudge judge) a
judge_table judge (Some table) f a job = judge_frames judge table f a job
judge_table judge None f a job = absurd job

check_certificate : (check : Check) (table : Table) (file : File) (c : Option Certificate) (a : Answer) → IsSomeAnd c (λ d. IsCheckAnswer table file d a) → IsAnswerOf (ForCheck check) a
check_certificate check table file (Some c) a job =
    let qs : List Questions = map group.questions_of (group.all_asked file table.rows) in
    only_possible (ForCheck check) (said_of_certificate qs c) a (under_ending qs c.heading c) job.answer
check_certificate check table file None a job = absurd job

check_frames : (check : Check) (table : Table) (f : Option File) (c : Option Certificate) (a : Answer) → IsSomeAnd f (λ file. IsSomeAnd c (λ d. IsCheckAnswer table file d a)) → IsAnswerOf (ForCheck check) a
check_frames check table (Some file) c a job = check_certificate check table file c a job
check_frames check table None c a job = absurd job

check_table : (check : Check) (t : Option Table) (f : Option File) (c : Option Certificate) (a : Answer) → IsSomeAnd t (λ table. IsSomeAnd f (λ file. IsSomeAnd c (λ d. IsCheckAnswer table file d a))) → IsAnswerOf (ForCheck check) a
check_table check (Some table) f c a job = check_frames check table f c a job
check_table check None f c a job = absurd job

pub job_possible : (ask : Ask) (given : Given) (a : Answer) → IsJob ask given a → IsAnswerOf ask a
job_possible (ForFlat flat) given a job = flat_table flat given.table a job
job_possible (ForCheckFlat check) given a job = check_flat_table check given.table given.certificate a job
job_possible (ForJudge judge) given a job = judge_table judge given.table given.frames a job
job_possible (ForCheck check) given a job = check_table check given.table given.frames given.certificate a job

-- ---- words are of one command at most
same_option : (a b : Option (List ℕ)) → option_to_list a ≡ option_to_list b → a ≡ b
same_option None None h = refl
same_option None (Some y) h = cc
same_option (Some x) None h = cc
same_option (Some x) (Some y) h = cc

abbrev flat_with : List ℕ → ℕ → ℕ → Option (List ℕ) → Flat
flat_with points tolerance budget certificate = record { points = points; tolerance = tolerance; budget = budget; certificate = certificate }

same_flat : (a b : Flat) → IsFlatRange a → IsFlatRange b → flat_words a ≡ flat_words b → a ≡ b
same_flat a b x y both =
    let points : a.points ≡ b.points = cc in
    let t : decimal a.tolerance ≡ decimal b.tolerance = cc in
    let u : decimal a.budget ≡ decimal b.budget = cc in
    let v : option_to_list a.certificate ≡ option_to_list b.certificate = cc in
    let tolerance : a.tolerance ≡ b.tolerance = decimal_injective a.tolerance b.tolerance (omega (arith, x.tolerance)) (omega (arith, y.tolerance)) t in
    let budget : a.budget ≡ b.budget = decimal_injective a.budget b.budget (omega (arith, x.budget)) (omega (arith, y.budget)) u in
    let certificate : a.certificate ≡ b.certificate = same_option a.certificate b.certificate v in
    ap (λ p. flat_with p a.tolerance a.budget a.certificate) points
    ∙ ap (λ n. flat_with b.points n a.budget a.certificate) tolerance
    ∙ ap (λ n. flat_with b.points b.tolerance n a.certificate) budget
    ∙ ap (flat_with b.points b.tolerance b.budget) certificate

abbrev check_flat_with : List ℕ → ℕ → List ℕ → CheckFlat
check_flat_with points tolerance certificate = record { points = points; tolerance = tolerance; certificate = certificate }

same_check_flat : (a b : CheckFlat) → IsCheckFlatRange a → IsCheckFlatRange b → check_flat_words a ≡ check_flat_words b → a ≡ b
same_check_flat a b x y both =
    let points : a.points ≡ b.points = cc in
    let t : decimal a.tolerance ≡ decimal b.tolerance = cc in
    let certificate : a.certificate ≡ b.certificate = cc in
    let tolerance : a.tolerance ≡ b.tolerance = decimal_injective a.tolerance b.tolerance (omega (arith, x)) (omega (arith, y)) t in
    ap (λ p. check_flat_with p a.tolerance a.certificate) points
    ∙ ap (λ n. check_flat_with b.points n a.certificate) tolerance
    ∙ ap (check_flat_with b.points b.tolerance) certificate

same_layout : (k l : Layout) → layout_word k ≡ layout_word l → k ≡ l
same_layout layout.Text layout.Text h = refl
same_layout layout.Text layout.Json h = let first : 116 ≡ 106 = ap (λ (w : List ℕ). get_or w 0 0) h in absurd (omega (arith, first))
same_layout layout.Json layout.Text h = let first : 106 ≡ 116 = ap (λ (w : List ℕ). get_or w 0 0) h in absurd (omega (arith, first))
same_layout layout.Json layout.Json h = refl

abbrev judge_with : List ℕ → List ℕ → List ℕ → ℕ → Layout → Judge
judge_with frames points certificate budget l = record { frames = frames; points = points; certificate = certificate; budget = budget; layout = l }

same_judge : (a b : Judge) → IsJudgeRange a → IsJudgeRange b → judge_words a ≡ judge_words b → a ≡ b
same_judge a b x y both =
    let frames : a.frames ≡ b.frames = cc in
    let points : a.points ≡ b.points = cc in
    let certificate : a.certificate ≡ b.certificate = cc in
    let u : decimal a.budget ≡ decimal b.budget = cc in
    let v : layout_word a.layout ≡ layout_word b.layout = cc in
    let budget : a.budget ≡ b.budget = decimal_injective a.budget b.budget (omega (arith, x.budget)) (omega (arith, y.budget)) u in
    ap (λ f. judge_with f a.points a.certificate a.budget a.layout) frames
    ∙ ap (λ p. judge_with b.frames p a.certificate a.budget a.layout) points
    ∙ ap (λ c. judge_with b.frames b.points c a.budget a.layout) certificate
    ∙ ap (λ n. judge_with b.frames b.points b.certificate n a.layout) budget
    ∙ ap (judge_with b.frames b.points b.certificate b.budget) (same_layout a.layout b.layout v)

abbrev check_with : List ℕ → List ℕ → List ℕ → Check
check_with frames points certificate = record { frames = frames; points = points; certificate = certificate }

same_check : (a b : Check) → check_words a ≡ check_words b → a ≡ b
same_check a b both =
    let frames : a.frames ≡ b.frames = cc in
    let points : a.points ≡ b.points = cc in
    let certificate : a.certificate ≡ b.certificate = cc in
    ap (λ f. check_with f a.points a.certificate) frames ∙ ap (λ p. check_with b.frames p a.certificate) points
    ∙ ap (check_with b.frames b.points) certificate

pub same_ask : (words : List (List ℕ)) (a b : Ask) → Asks words a → Asks words b → a ≡ b
same_ask words (ForFlat a) (ForFlat b) x y = ap ForFlat (same_flat a b x.range y.range (sym x.spelled ∙ y.spelled))
same_ask words (ForCheckFlat a) (ForCheckFlat b) x y = ap ForCheckFlat (same_check_flat a b x.range y.range (sym x.spelled ∙ y.spelled))
same_ask words (ForJudge a) (ForJudge b) x y = ap ForJudge (same_judge a b x.range y.range (sym x.spelled ∙ y.spelled))
same_ask words (ForCheck a) (ForCheck b) x y = ap ForCheck (same_check a b (sym x.spelled ∙ y.spelled))
same_ask words (ForFlat a) (ForCheckFlat b) x y = let both = sym x.spelled ∙ y.spelled in let no : codes "flat" ≡ codes "checkflat" = cc in cc
same_ask words (ForFlat a) (ForJudge b) x y = let both = sym x.spelled ∙ y.spelled in let no : codes "flat" ≡ codes "judge" = cc in cc
same_ask words (ForFlat a) (ForCheck b) x y = let both = sym x.spelled ∙ y.spelled in let no : codes "flat" ≡ codes "check" = cc in cc
same_ask words (ForCheckFlat a) (ForFlat b) x y = let both = sym x.spelled ∙ y.spelled in let no : codes "checkflat" ≡ codes "flat" = cc in cc
same_ask words (ForCheckFlat a) (ForJudge b) x y = let both = sym x.spelled ∙ y.spelled in let no : codes "checkflat" ≡ codes "judge" = cc in cc
same_ask words (ForCheckFlat a) (ForCheck b) x y = let both = sym x.spelled ∙ y.spelled in let no : codes "checkflat" ≡ codes "check" = cc in cc
same_ask words (ForJudge a) (ForFlat b) x y = let both = sym x.spelled ∙ y.spelled in let no : codes "judge" ≡ codes "flat" = cc in cc
same_ask words (ForJudge a) (ForCheckFlat b) x y = let both = sym x.spelled ∙ y.spelled in let no : codes "judge" ≡ codes "checkflat" = cc in cc
same_ask words (ForJudge a) (ForCheck b) x y = let both = sym x.spelled ∙ y.spelled in let no : codes "judge" ≡ codes "check" = cc in cc
same_ask words (ForCheck a) (ForFlat b) x y = let both = sym x.spelled ∙ y.spelled in let no : codes "check" ≡ codes "flat" = cc in cc
same_ask words (ForCheck a) (ForCheckFlat b) x y = let both = sym x.spelled ∙ y.spelled in let no : codes "check" ≡ codes "checkflat" = cc in cc
same_ask words (ForCheck a) (ForJudge b) x y = let both = sym x.spelled ∙ y.spelled in let no : codes "check" ≡ codes "judge" = cc in cc
