-- What a verdict says of the assignments of a task.
use Rattle.std.specs.Prelude.{ℕ, ◌≡◌, true, List, ℤ}
use Rattle.gd_cells.specs.Laws.{NamesPlace}
use Rattle.gd_cells.specs.Meaning.{Questions}
use Rattle.gd_cells.specs.declared.cell.Witness.{Witness}
use Rattle.gd_verdict.specs.Verdict.{Accepted, End, IsVerdict, Open, Rejected}

-- a witness in range that holds, so that its assignment is feasible
pub record IsShown (q : Questions) (feasible : List ℤ → Type 0) (assignment : Witness → List ℤ) (w : Witness) : Type 0 where
  pub ranges : q.tests.in_range w ≡ true
  pub meets : q.tests.holds w ≡ true
  pub place : NamesPlace q.grid w
  pub shown : feasible (assignment w)

-- an accepted witness shows a feasible assignment; where all cells are rejected, none is feasible; an open verdict says nothing
abbrev pub IsTrueEnd : Questions → (List ℤ → Type 0) → (Witness → List ℤ) → End → Type 0
IsTrueEnd q feasible assignment (Accepted w level) = IsShown q feasible assignment w
IsTrueEnd q feasible assignment (Rejected leaves tree) = (a : List ℤ) → feasible a → ⊥
IsTrueEnd q feasible assignment (Open tree counts) = Unit {0}

-- every verdict is true so, whatever its budget
abbrev pub VerdictMeans : Questions → (List ℤ → Type 0) → (Witness → List ℤ) → Type 0
VerdictMeans q feasible assignment = (budget : ℕ) (e : End) → IsVerdict q budget e → IsTrueEnd q feasible assignment e
