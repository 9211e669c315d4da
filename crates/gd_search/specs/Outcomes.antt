-- What an outcome says of the verdict, and of the assignments.
use Rattle.std.specs.Prelude.{List, ℤ}
use Rattle.gd_cells.specs.Meaning.{Questions}
use Rattle.gd_cells.specs.declared.cell.Witness.{Witness}
use Rattle.gd_search.specs.declared.outcome.Outcome.{Outcome}
use Rattle.gd_search.specs.declared.outcome.Outcome.TheVariants.{Accept, Reject, StillOpen}
use Rattle.gd_verdict.specs.Meant.{IsShown}
use Rattle.gd_verdict.specs.Trees.{leaves_of}
use Rattle.gd_verdict.specs.Verdict.{Accepted, End, Open, Rejected}

-- the end that an outcome states
abbrev pub end_of : Outcome → End
end_of (Accept witness level) = Accepted witness level
end_of (Reject tree) = Rejected (leaves_of tree.items) tree.items
end_of (StillOpen tree counts) = Open tree.items counts

-- where an outcome rejects, no assignment is feasible
abbrev pub RejectsRightly : (List ℤ → Type 0) → Outcome → Type 0
RejectsRightly feasible (Reject tree) = (a : List ℤ) → feasible a → ⊥
RejectsRightly feasible (Accept witness level) = Unit {0}
RejectsRightly feasible (StillOpen tree counts) = Unit {0}

-- where an outcome accepts, its witness shows a feasible assignment
abbrev pub AcceptsRightly : Questions → (List ℤ → Type 0) → (Witness → List ℤ) → Outcome → Type 0
AcceptsRightly q feasible assignment (Accept witness level) = IsShown q feasible assignment witness
AcceptsRightly q feasible assignment (Reject tree) = Unit {0}
AcceptsRightly q feasible assignment (StillOpen tree counts) = Unit {0}
