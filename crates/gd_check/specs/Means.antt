-- What a right certificate says of the assignments of its tasks.
use Rattle.std.specs.Prelude.{ℕ, ℤ, List, [], ◌∷◌}
use Rattle.gd_cells.specs.Meaning.{Questions}
use Rattle.gd_cells.specs.declared.cell.Witness.{Witness}
use Rattle.gd_cert.specs.Certificates.{Accept, Body, Certificate, Reject, Open}
use Rattle.gd_verdict.specs.Verdict.{IsVerdict}
use Rattle.gd_cells.specs.Witnesses.{witness_of}
use Rattle.gd_verdict.specs.Trees.{tree}
use Rattle.gd_verdict.specs.Verdict as verdict

-- an accepted group has a feasible assignment, that of the written witness; a rejected group has none; and an open
-- group has the open verdict for the budget
abbrev pub IsTrueOf : Questions → (List ℤ → Type 0) → (Witness → List ℤ) → ℕ → Body → Type 0
IsTrueOf q feasible assignment budget (Accept root at) = feasible (assignment (witness_of root at))
IsTrueOf q feasible assignment budget (Reject lines) = (a : List ℤ) → feasible a → ⊥
IsTrueOf q feasible assignment budget (Open counts lines) = IsVerdict q budget (verdict.Open (tree q counts.level) counts)

-- each group is true of its task
abbrev pub AreTrueOf : {T : Type 0} → (T → Questions) → (T → List ℤ → Type 0) → (T → Witness → List ℤ) → List T → ℕ → List Body → Type 0
AreTrueOf questions feasible assignment [] budget [] = Unit {0}
AreTrueOf questions feasible assignment [] budget (b ∷ bs) = ⊥
AreTrueOf questions feasible assignment (t ∷ ts) budget [] = ⊥
AreTrueOf questions feasible assignment (t ∷ ts) budget (b ∷ bs) =
    IsTrueOf (questions t) (feasible t) (assignment t) budget b × AreTrueOf questions feasible assignment ts budget bs

abbrev pub AreRight : {T : Type 0} → (T → Questions) → (T → List ℤ → Type 0) → (T → Witness → List ℤ) → List T → Certificate → Type 0
AreRight questions feasible assignment tasks c = AreTrueOf questions feasible assignment tasks c.share c.groups
