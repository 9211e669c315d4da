-- What the verdicts of several tasks say of the tasks' assignments.
use Rattle.std.specs.Prelude.{ℕ, ◌≡◌, ℤ, List, [], ◌∷◌}
use Rattle.gd_base.specs.declared.verdict.Verdict.{Verdict}
use Rattle.gd_base.specs.declared.verdict.Verdict.TheVariants as verdict
use Rattle.gd_cells.specs.Meaning.{Questions}
use Rattle.gd_cells.specs.declared.cell.Witness.{Witness}
use Rattle.gd_cert.specs.Certificates.{Accept, Body, Open, Reject}
use Rattle.gd_check.specs.Means.{IsTrueOf}
use Rattle.gd_check.specs.Right.{IsRightBody}

-- a verdict and the body of a group say the same: accept, reject, or open with the same counts
abbrev pub Agrees : Verdict → Body → Type 0
Agrees (verdict.Accept level) (Accept root at) = Unit {0}
Agrees (verdict.Accept level) (Reject lines) = ⊥
Agrees (verdict.Accept level) (Open counts lines) = ⊥
Agrees (verdict.Reject leaves) (Accept root at) = ⊥
Agrees (verdict.Reject leaves) (Reject lines) = Unit {0}
Agrees (verdict.Reject leaves) (Open counts lines) = ⊥
Agrees (verdict.StillOpen told) (Accept root at) = ⊥
Agrees (verdict.StillOpen told) (Reject lines) = ⊥
Agrees (verdict.StillOpen told) (Open counts lines) = told ≡ counts

-- a verdict means what it says: of an accept the written witness is in range and holds, and its assignment is feasible;
-- of a reject no assignment is; an open one is the verdict for the budget
pub record IsMeant (q : Questions) (feasible : List ℤ → Type 0) (assignment : Witness → List ℤ) (budget : ℕ)
    (v : Verdict) (b : Body) : Type 0 where
  pub agrees : Agrees v b
  pub right : IsRightBody q budget b
  pub true : IsTrueOf q feasible assignment budget b

-- each verdict means what it says of its task
abbrev pub AreMeant : {T : Type 0} → (T → Questions) → (T → List ℤ → Type 0) → (T → Witness → List ℤ) → List T → ℕ
    → List Verdict → List Body → Type 0
AreMeant questions feasible assignment [] budget vs bs = (vs ≡ []) × (bs ≡ [])
AreMeant questions feasible assignment (t ∷ ts) budget [] bs = ⊥
AreMeant questions feasible assignment (t ∷ ts) budget (v ∷ vs) [] = ⊥
AreMeant questions feasible assignment (t ∷ ts) budget (v ∷ vs) (b ∷ bs) =
    IsMeant (questions t) (feasible t) (assignment t) budget v b
    × AreMeant questions feasible assignment ts budget vs bs
