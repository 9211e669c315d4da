-- A group without a wrong line is right, and a right one has none.
use Rattle.std.proofs.Common.{arith, ◌≡◌, refl, ℕ, suc, ◌+◌, ◌*◌, ◌<◌, ◌≤◌, Bool, true, false, ◌&&◌, cond, nat_eq, Option, Some, None, List, [], ◌∷◌, length, ℤ}
use Rattle.std.proofs.lemmas.Bool.Decides.{nat_tests}
use Rattle.gd_cells.specs.declared.cell.Witness.{Witness}
use Rattle.gd_cells.specs.declared.cell.Cell.{Cell}
use Rattle.gd_cells.proofs.Cells.{level_at}
use Rattle.gd_cells.specs.Laws.{IsGrid, NoneRefutes, Laws}
use Rattle.gd_cells.specs.Meaning.{Questions}
use Rattle.gd_cells.specs.Grid.{cell_of}
use Rattle.gd_cells.specs.declared.node.Node.{Node}
use Rattle.gd_cert.specs.Certificates.{Accept, Body, Reject, Open}
use Rattle.gd_cert.specs.Reading.{fault}
use Rattle.gd_cert.specs.declared.fault.CertFault.{CertFault}
use Rattle.gd_check.proofs.Opened.{open_right, right_open}
use Rattle.gd_check.proofs.Walk.{Fits, above_split, walked, walks}
use Rattle.gd_check.specs.Right.{AreBelow, Branch, Undecided, Split, IsAccepted, IsForest, IsRefutedBy, IsRejected, IsRightBody, Refuted}
use Rattle.gd_cells.specs.Witnesses.{witness_of}
use Rattle.gd_check.specs.Wrong.{OfReject, is_placed, wrong_body}

-- the laws of a task that its lines rest on
pub record Keeps (q : Questions) : Type 0 where
  pub grid : IsGrid q.grid
  pub none : NoneRefutes q

pub keeps_of : {q : Questions} {feasible : List ℤ → Type 0} {inside : List ℤ → Cell → Type 0} {assignment : Witness → List ℤ} → Laws q feasible inside assignment → Keeps q
keeps_of laws = record { grid = laws.is_grid; none = laws.none_refutes }

-- ---- trees below the roots, by what is so of each
below_as : (P Q : ℕ → Branch → Type 0) → ((r : ℕ) (b : Branch) → P r b → Q r b) → (a : ℕ) (bs : List Branch) → AreBelow P a bs → AreBelow Q a bs
below_as P Q f a [] h = tt
below_as P Q f a (b ∷ bs) h = (f a b h.0, below_as P Q f (a + 1) bs h.1)

pub forest_as : (P Q : ℕ → Branch → Type 0) → ((r : ℕ) (b : Branch) → P r b → Q r b) → (roots : ℕ) (nodes : List Node) → IsForest roots P nodes → IsForest roots Q nodes
forest_as P Q f roots nodes forest = record { branches = forest.branches; count = forest.count; below = below_as P Q f 1 forest.branches forest.below; spelled = forest.spelled }

-- ---- a rejected group
refutes : (v : Bool) → cond {A = Option ℕ} v None (Some 50) ≡ None → v ≡ true
refutes true h = refl
refutes false h = cc

splits : (q : Questions) (r l p : ℕ) → l < q.grid.finest → cond {A = Option ℕ} (nat_eq (cell_of q.grid r l p).level q.grid.finest) (Some 57) None ≡ None
splits q r l p above =
    let e : nat_eq l q.grid.finest ≡ false = grind (arith, nat_tests) in
    rw (level_at q.grid r l p, e) refl

fits_refuted : (q : Questions) (r l p : ℕ) (b : Branch) → l ≤ q.grid.finest → Fits q OfReject r l p b → IsRefutedBy q r l p b
fits_refuted q r l p (Refuted e) low h = refutes (q.tests.refuted (cell_of q.grid r l p) e) h
fits_refuted q r l p Undecided low h = cc
fits_refuted q r l p (Split lower upper) low h =
    let above : l < q.grid.finest = above_split q OfReject r l p low h.0 in
    (above, fits_refuted q r (suc l) (2 * p) lower (omega arith) h.1, fits_refuted q r (suc l) (2 * p + 1) upper (omega arith) h.2)

refuted_fits : (q : Questions) (r l p : ℕ) (b : Branch) → IsRefutedBy q r l p b → Fits q OfReject r l p b
refuted_fits q r l p (Refuted e) h = rw h refl
refuted_fits q r l p Undecided h = absurd h
refuted_fits q r l p (Split lower upper) h = (splits q r l p h.0, refuted_fits q r (suc l) (2 * p) lower h.1, refuted_fits q r (suc l) (2 * p + 1) upper h.2)

pub reject_right : (q : Questions) → IsGrid q.grid → (budget line : ℕ) (nodes : List Node) → wrong_body q budget line (Reject nodes) ≡ None → IsRejected q nodes
reject_right q grid budget line nodes h =
    forest_as (λ root. Fits q OfReject root 0 0) (λ root. IsRefutedBy q root 0 0) (λ r b. fits_refuted q r 0 0 b (omega arith)) q.grid.roots nodes (walks q grid OfReject (line + 1) nodes h)

pub right_reject : (q : Questions) → IsGrid q.grid → (budget line : ℕ) (nodes : List Node) → IsRejected q nodes → wrong_body q budget line (Reject nodes) ≡ None
right_reject q grid budget line nodes h =
    walked q grid OfReject (line + 1) nodes (forest_as (λ root. IsRefutedBy q root 0 0) (λ root. Fits q OfReject root 0 0) (λ r b. refuted_fits q r 0 0 b) q.grid.roots nodes h)

-- ---- an accepted group
no_fault : (placed holds : Bool) (f g : CertFault) → cond placed (cond holds None (Some f)) (Some g) ≡ None → (placed ≡ true) × (holds ≡ true)
no_fault true true f g h = (refl, refl)
no_fault true false f g h = cc
no_fault false holds f g h = cc

pub both_are : (a b : Bool) → a && b ≡ true → (a ≡ true) × (b ≡ true)
both_are true b h = (refl, h)
both_are false b h = cc

pub accept_right : (q : Questions) (budget line root : ℕ) (at : List ℤ) → wrong_body q budget line (Accept root at) ≡ None → IsAccepted q root at
accept_right q budget line root at h =
    let n : (is_placed q root at ≡ true) × (q.tests.holds (witness_of root at) ≡ true) = no_fault (is_placed q root at) (q.tests.holds (witness_of root at)) (fault (line + 1) 51) (fault (line + 1) 52) h in
    let p : (nat_eq (length at) q.grid.numbers ≡ true) × (q.tests.in_range (witness_of root at) ≡ true) = both_are (nat_eq (length at) q.grid.numbers) (q.tests.in_range (witness_of root at)) n.0 in
    let e : nat_eq (length at) q.grid.numbers ≡ true = p.0 in
    record { count = grind (arith, nat_tests); ranges = p.1; meets = n.1 }

pub right_accept : (q : Questions) (budget line root : ℕ) (at : List ℤ) → IsAccepted q root at → wrong_body q budget line (Accept root at) ≡ None
right_accept q budget line root at h =
    let c : length at ≡ q.grid.numbers = h.count in
    let e : nat_eq (length at) q.grid.numbers ≡ true = grind (arith, nat_tests) in
    rw (e, h.ranges, h.meets) refl

-- ---- a group
pub body_right : (q : Questions) → Keeps q → (budget line : ℕ) (b : Body) → wrong_body q budget line b ≡ None → IsRightBody q budget b
body_right q keeps budget line (Accept root at) h = accept_right q budget line root at h
body_right q keeps budget line (Reject nodes) h = reject_right q keeps.grid budget line nodes h
body_right q keeps budget line (Open counts nodes) h = open_right q keeps.grid keeps.none budget counts nodes line h

pub right_body : (q : Questions) → Keeps q → (budget line : ℕ) (b : Body) → IsRightBody q budget b → wrong_body q budget line b ≡ None
right_body q keeps budget line (Accept root at) h = right_accept q budget line root at h
right_body q keeps budget line (Reject nodes) h = right_reject q keeps.grid budget line nodes h
right_body q keeps budget line (Open counts nodes) h = right_open q keeps.grid keeps.none budget counts nodes line h
