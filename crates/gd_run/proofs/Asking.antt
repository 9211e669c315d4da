-- What tasks show is so of what they ask.
use Rattle.std.proofs.Common.{◌≡◌, ◌∙◌, refl, ap, sym, subst, ℕ, ℤ, None, List, [], ◌∷◌, map}
use Rattle.gd_base.specs.declared.verdict.Verdict.{Verdict}
use Rattle.gd_cells.specs.Meaning.{Questions}
use Rattle.gd_cells.specs.declared.cell.Witness.{Witness}
use Rattle.gd_cert.specs.Certificates.{Body, Certificate}
use Rattle.gd_check.specs.Means.{AreTrueOf}
use Rattle.gd_check.specs.Right.{IsRight}
use Rattle.gd_check.specs.Wrong.{first_wrong}
use Rattle.gd_judge.specs.Judged.{AreOfTasks}
use Rattle.gd_judge.specs.Means.{AreMeant}
use Rattle.gd_run.specs.Answers.{Answer, only_said, said_of_certificate}
use Rattle.gd_run.specs.GroupReports.{AreReported, IsDecided}
use Rattle.gd_run.specs.declared.layout.Layout.{Layout}

module _ {T A : Type 0} (asks : T → A) (questions : A → Questions) (meets : A → List ℤ → Type 0) (assignment : A → Witness → List ℤ) where
  abbrev of_task : T → Questions
  of_task t = questions (asks t)

  abbrev met_by : T → List ℤ → Type 0
  met_by t = meets (asks t)

  abbrev places : T → Witness → List ℤ
  places t = assignment (asks t)

  same_questions : (tasks : List T) → map of_task tasks ≡ map questions (map asks tasks)
  same_questions [] = refl
  same_questions (t ∷ tasks) = ap (λ qs. questions (asks t) ∷ qs) (same_questions tasks)

  asked_meant : (tasks : List T) (share : ℕ) (vs : List Verdict) (bs : List Body) → AreMeant of_task met_by places tasks share vs bs → AreMeant questions meets assignment (map asks tasks) share vs bs
  asked_meant [] share vs bs h = h
  asked_meant (t ∷ tasks) share [] bs h = h
  asked_meant (t ∷ tasks) share (v ∷ vs) [] h = h
  asked_meant (t ∷ tasks) share (v ∷ vs) (b ∷ bs) h = (h.0, asked_meant tasks share vs bs h.1)

  asked_true : (tasks : List T) (share : ℕ) (bs : List Body) → AreTrueOf of_task met_by places tasks share bs → AreTrueOf questions meets assignment (map asks tasks) share bs
  asked_true [] share [] h = h
  asked_true [] share (b ∷ bs) h = h
  asked_true (t ∷ tasks) share [] h = h
  asked_true (t ∷ tasks) share (b ∷ bs) h = (h.0, asked_true tasks share bs h.1)

  pub asked_reported : (tasks : List T) (labels : List (List ℕ)) (budget : ℕ) (layout : Layout) (name : List ℕ) (a : Answer)
      → AreReported of_task met_by places tasks labels budget layout name a → AreReported questions meets assignment (map asks tasks) labels budget layout name a
  asked_reported tasks labels budget layout name a r = record {
    verdicts = r.verdicts;
    certificate = r.certificate;
    so = record {
      judged = subst (λ qs. AreOfTasks qs budget r.verdicts r.certificate) (same_questions tasks) r.so.judged;
      means = asked_meant tasks r.certificate.share r.verdicts r.certificate.groups r.so.means;
      right = subst (λ qs. IsRight qs r.certificate) (same_questions tasks) r.so.right;
      fits = r.so.fits;
      short = r.so.short;
    };
    answer = r.answer;
  }

  pub asked_decided : (tasks : List T) (c : Certificate) (a : Answer) → IsDecided of_task met_by places tasks c a → IsDecided questions meets assignment (map asks tasks) c a
  asked_decided tasks c a d =
      let same = same_questions tasks in
      record {
        sound = subst (λ qs. first_wrong qs c ≡ None → IsRight qs c) same d.sound;
        complete = subst (λ qs. IsRight qs c → first_wrong qs c ≡ None) same d.complete;
        means = λ right. asked_true tasks c.share c.groups (d.means (subst (λ qs. IsRight qs c) (sym same) right));
        answer = subst (λ qs. a ≡ only_said (said_of_certificate qs c)) same d.answer;
      }

  -- the same tasks and labels, by other names
  pub reported_of : (tasks others : List T) (asked : List A) (labels others_labels named : List (List ℕ)) (budget : ℕ) (layout : Layout) (name : List ℕ) (a : Answer) → others ≡ tasks → others_labels ≡ labels → map asks tasks ≡ asked → labels ≡ named
      → AreReported of_task met_by places others others_labels budget layout name a → AreReported questions meets assignment asked named budget layout name a
  reported_of tasks others asked labels others_labels named budget layout name a same same_labels are are_labels r =
      subst (λ xs. AreReported questions meets assignment xs named budget layout name a) (ap (map asks) same ∙ are)
      (subst (λ ls. AreReported questions meets assignment (map asks others) ls budget layout name a) (same_labels ∙ are_labels) (asked_reported others others_labels budget layout name a r))

  pub decided_of : (tasks others : List T) (asked : List A) (c : Certificate) (a : Answer) → others ≡ tasks → map asks tasks ≡ asked → IsDecided of_task met_by places others c a → IsDecided questions meets assignment asked c a
  decided_of tasks others asked c a same are d = subst (λ xs. IsDecided questions meets assignment xs c a) (ap (map asks) same ∙ are) (asked_decided others c a d)
