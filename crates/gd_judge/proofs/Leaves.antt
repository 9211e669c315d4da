-- The leaves of a search's tree can be counted in 32 bits.
use Rattle.std.proofs.Common.{arith, ℕ, ◌≤◌, List, [], ◌∷◌, Bool, true, false, cond, length, filter}
use Rattle.gd_base.specs.Limits.{BUDGET}
use Rattle.gd_cells.specs.Laws.{IsGrid}
use Rattle.gd_cells.specs.Meaning.{Questions}
use Rattle.gd_cells.specs.Nodes.{is_refuted}
use Rattle.gd_check.proofs.Written.{tree_is_bounded}
use Rattle.gd_judge.specs.Outcomes.{HasFewLeaves}
use Rattle.gd_search.specs.Outcomes.{end_of}
use Rattle.gd_search.specs.declared.outcome.Outcome.{Outcome}
use Rattle.gd_search.specs.declared.outcome.Outcome.TheVariants.{Accept, Reject, StillOpen}
use Rattle.gd_verdict.specs.Trees.{leaves_of}
use Rattle.gd_verdict.specs.Verdict.{IsVerdict, Rejected}

filter-short : {A : Type 0} (test : A → Bool) (xs : List A) → length (filter test xs) ≤ length xs
filter-short test [] = omega arith
filter-short test (x ∷ xs) = one (test x) (filter-short test xs)
  where
    one : (b : Bool) → length (filter test xs) ≤ length xs → length (cond b (x ∷ filter test xs) (filter test xs)) ≤ length (x ∷ xs)
    one true less = omega (arith, less)
    one false less = omega (arith, less)

pub few_leaves : (q : Questions) → IsGrid q.grid → (share : ℕ) → share ≤ BUDGET → (o : Outcome) → IsVerdict q share (end_of o) → HasFewLeaves o
few_leaves q grid share few (Accept w l) is = tt
few_leaves q grid share few (Reject tree) is =
    omega (arith, filter-short is_refuted tree.items, tree_is_bounded q grid share (Rejected (leaves_of tree.items) tree.items) is, few)
few_leaves q grid share few (StillOpen tree counts) is = tt
