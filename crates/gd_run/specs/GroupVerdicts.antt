-- What the verdicts of groups say of the part that they judge.
use Rattle.std.specs.Prelude.{ℕ, ◌≡◌, ℤ, false, List, [], ◌∷◌, Some, slice_get}
use Rattle.std.specs.List.{list_any}
use Rattle.gd_base.specs.declared.verdict.Counts.{Counts}
use Rattle.gd_base.specs.declared.verdict.Verdict.{Verdict}
use Rattle.gd_base.specs.declared.verdict.Verdict.TheVariants as verdict
use Rattle.gd_cells.specs.Meaning.{Questions}
use Rattle.gd_cells.specs.Witnesses.{witness_of}
use Rattle.gd_cells.specs.declared.cell.Witness.{Witness}
use Rattle.gd_cells.specs.declared.node.Node.{Node}
use Rattle.gd_cert.specs.Certificates.{Accept, Body}
use Rattle.gd_check.specs.Right.{IsAccepted}
use Rattle.gd_report.specs.Groups.{is_reject}
use Rattle.gd_verdict.specs.Verdict.{IsVerdict, Open}

-- a group is accepted: its witness in the certificate is in range and holds, and the assignment of the witness meets
-- what the group asks
pub record IsAcceptedBy {A : Type 0} (questions : A → Questions) (meets : A → List ℤ → Type 0)
    (assignment : A → Witness → List ℤ) (asks : A) (v : Verdict) (b : Body) : Type 0 where
  pub level : ℕ
  pub root : ℕ
  pub at : List ℤ
  pub told : v ≡ verdict.Accept level
  pub witness : b ≡ Accept root at
  pub shown : IsAccepted (questions asks) root at
  pub met : meets asks (assignment asks (witness_of root at))

-- each group is accepted
abbrev pub AreAccepted : {A : Type 0} → (A → Questions) → (A → List ℤ → Type 0) → (A → Witness → List ℤ) → List A
    → List Verdict → List Body → Type 0
AreAccepted questions meets assignment [] vs bs = (vs ≡ []) × (bs ≡ [])
AreAccepted questions meets assignment (asks ∷ asked) [] bs = ⊥
AreAccepted questions meets assignment (asks ∷ asked) (v ∷ vs) [] = ⊥
AreAccepted questions meets assignment (asks ∷ asked) (v ∷ vs) (b ∷ bs) =
    IsAcceptedBy questions meets assignment asks v b × AreAccepted questions meets assignment asked vs bs

-- a group at a place, from 0: what it asks, its label and its verdict
pub record IsGroupAt {A : Type 0} (asked : List A) (labels : List (List ℕ)) (vs : List Verdict) (asks : A)
    (v : Verdict) : Type 0 where
  pub place : ℕ
  pub label : List ℕ
  pub found : slice_get asked place ≡ Some asks
  pub named : slice_get labels place ≡ Some label
  pub told : slice_get vs place ≡ Some v

-- some group is rejected, and no assignment meets what it asks
pub record SomeRejected {A : Type 0} (meets : A → List ℤ → Type 0) (asked : List A) (labels : List (List ℕ))
    (vs : List Verdict) : Type 0 where
  pub asks : A
  pub leaves : ℕ
  pub group : IsGroupAt asked labels vs asks (verdict.Reject leaves)
  pub none : (a : List ℤ) → meets asks a → ⊥

-- no group is rejected, and some group is open: that is its verdict for its share of the budget
pub record SomeOpen {A : Type 0} (questions : A → Questions) (asked : List A) (labels : List (List ℕ)) (share : ℕ)
    (vs : List Verdict) : Type 0 where
  pub asks : A
  pub lines : List Node
  pub counts : Counts
  pub group : IsGroupAt asked labels vs asks (verdict.StillOpen counts)
  pub is : IsVerdict (questions asks) share (Open lines counts)
  pub unrejected : list_any is_reject vs ≡ false
