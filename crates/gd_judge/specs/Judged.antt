-- The verdicts of several tasks that share a budget, and their certificate.
use Rattle.std.specs.Prelude.{ℕ, ◌/◌, ◌≡◌, List, [], ◌∷◌, length}
use Rattle.gd_base.specs.declared.verdict.Verdict.{Verdict}
use Rattle.gd_base.specs.declared.verdict.Verdict.TheVariants as verdict
use Rattle.gd_cells.specs.Meaning.{Questions}
use Rattle.gd_cert.specs.Certificates.{Body, Certificate, Plain}
use Rattle.gd_check.specs.Written.{body_of_end}
use Rattle.gd_verdict.specs.Verdict.{Accepted, End, IsVerdict, Open, Rejected}

-- the part of a budget that each of some tasks has, rounded down
abbrev pub share_of : ℕ → ℕ → ℕ
share_of budget tasks = budget / tasks

-- what is told of how a search ends: the level, the number of leaves, or the counts
abbrev pub verdict_of : End → Verdict
verdict_of (Accepted witness level) = verdict.Accept level
verdict_of (Rejected leaves tree) = verdict.Reject leaves
verdict_of (Open tree counts) = verdict.StillOpen counts

-- a verdict and the body of a group tell how the search of the task ends that has this budget
pub record IsJudged (q : Questions) (budget : ℕ) (v : Verdict) (b : Body) : Type 0 where
  pub last : End
  pub is : IsVerdict q budget last
  pub told : v ≡ verdict_of last
  pub shown : b ≡ body_of_end q last

-- there is one for each task, in order
abbrev pub AreJudged : List Questions → ℕ → List Verdict → List Body → Type 0
AreJudged [] budget vs bs = (vs ≡ []) × (bs ≡ [])
AreJudged (q ∷ qs) budget [] bs = ⊥
AreJudged (q ∷ qs) budget (v ∷ vs) [] = ⊥
AreJudged (q ∷ qs) budget (v ∷ vs) (b ∷ bs) = IsJudged q budget v b × AreJudged qs budget vs bs

-- these are the verdicts of the tasks, each for its share of the budget, and this is their certificate: of the
-- requirements as they are written, with the share, the number of tasks, and what shows each verdict
pub record AreOfTasks (qs : List Questions) (budget : ℕ) (vs : List Verdict) (c : Certificate) : Type 0 where
  pub heading : c.heading ≡ Plain
  pub share : c.share ≡ share_of budget (length qs)
  pub told : c.told ≡ length qs
  pub judged : AreJudged qs c.share vs c.groups
