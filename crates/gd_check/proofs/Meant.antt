-- What a right certificate says of the assignments of its tasks.
use Rattle.std.proofs.Common.{arith, ◌≡◌, refl, ℕ, suc, ◌+◌, ◌*◌, ◌^◌, ◌<◌, ◌≤◌, List, [], ◌∷◌, length, map, ℤ, inl, inr, pow-suc}
use Rattle.std.proofs.lemmas.Bool.{cases_lt}
use Rattle.gd_cells.specs.Laws.{HasRoot, Laws}
use Rattle.gd_cells.specs.Meaning.{Questions}
use Rattle.gd_cells.specs.Grid.{cell_of}
use Rattle.gd_cells.specs.declared.cell.Cell.{Cell}
use Rattle.gd_cells.specs.declared.cell.Witness.{Witness}
use Rattle.gd_cert.specs.Certificates.{Accept, Body, Reject, Open}
use Rattle.gd_check.specs.Means.{AreTrueOf, IsTrueOf}
use Rattle.gd_check.specs.Right.{AreBelow, AreRightBodies, Branch, Undecided, Split, IsRefutedBy, IsRejected, IsRightBody, Refuted}
use Rattle.gd_cells.specs.Witnesses.{witness_of}
use Rattle.gd_cells.specs.declared.node.Node.{Node}

-- ---- no feasible assignment lies inside a cell whose tree is refuted
none_inside : {q : Questions} {feasible : List ℤ → Type 0} {inside : List ℤ → Cell → Type 0} {assignment : Witness → List ℤ} → Laws q feasible inside assignment → (a : List ℤ) → feasible a →
    (b : Branch) (r l p : ℕ) → 1 ≤ r → r ≤ q.grid.roots → l ≤ q.grid.finest → p < 2 ^ l → IsRefutedBy q r l p b → inside a (cell_of q.grid r l p) → ⊥
none_inside {q} laws a can (Refuted e) r l p first last low within h lies =
    laws.refuted_is_empty (cell_of q.grid r l p) e a (record { root = r; level = l; path = p; first_root = first; last_root = last; deepest = low; inside = within; same = refl }) h lies can
none_inside laws a can Undecided r l p first last low within h lies = h
none_inside laws a can (Split lower upper) r l p first last low within h lies = elim (laws.halves_cover a r l p first last h.0 within lies) [
  | inl here ↦ none_inside laws a can lower r (suc l) (2 * p) first last (omega (arith, h.0)) (omega (arith, pow-suc 2 l, within)) h.1 here
  | inr here ↦ none_inside laws a can upper r (suc l) (2 * p + 1) first last (omega (arith, h.0)) (omega (arith, pow-suc 2 l, within)) h.2 here
]

-- ---- nor inside a root, where the trees below all of them are
record Below (P : ℕ → Branch → Type 0) (r : ℕ) : Type 0 where
  branch : Branch
  holds : P r branch

below_root : (P : ℕ → Branch → Type 0) (a : ℕ) (bs : List Branch) → AreBelow P a bs → (r : ℕ) → a ≤ r → r < a + length bs → Below P r
below_root P a [] h r low high = absurd (omega arith)
below_root P a (b ∷ bs) h r low high = elim (cases_lt a r) [
  | inl above ↦ below_root P (a + 1) bs h.1 r (omega arith) (omega arith)
  | inr here ↦ let same : r ≡ a = omega arith in record { branch = b; holds = rw same h.0 }
]

none_feasible : {q : Questions} {feasible : List ℤ → Type 0} {inside : List ℤ → Cell → Type 0} {assignment : Witness → List ℤ} → Laws q feasible inside assignment → (nodes : List Node) → IsRejected q nodes → (a : List ℤ) → feasible a → ⊥
none_feasible {q} {feasible} {inside} laws nodes rejected a can =
    let has : HasRoot q.grid inside a = laws.roots_cover a can in
    let b : Below (λ root. IsRefutedBy q root 0 0) has.root = below_root (λ root. IsRefutedBy q root 0 0) 1 rejected.branches rejected.below has.root has.first (omega (arith, has.last, rejected.count)) in
    none_inside laws a can b.branch has.root 0 0 has.first has.last (omega arith) (omega arith) b.holds has.lies_inside

-- ---- the groups
pub body_true : {q : Questions} {feasible : List ℤ → Type 0} {inside : List ℤ → Cell → Type 0} {assignment : Witness → List ℤ} → Laws q feasible inside assignment →
    (budget : ℕ) (b : Body) → IsRightBody q budget b → IsTrueOf q feasible assignment budget b
body_true laws budget (Accept root at) h = laws.holds_is_feasible (witness_of root at) h.ranges h.meets
body_true laws budget (Reject nodes) h = none_feasible laws nodes h
body_true laws budget (Open counts nodes) h = h.end

pub bodies_true : {T : Type 0} (questions : T → Questions) (feasible : T → List ℤ → Type 0) (inside : T → List ℤ → Cell → Type 0) (assignment : T → Witness → List ℤ) →
    ((t : T) → Laws (questions t) (feasible t) (inside t) (assignment t)) → (ts : List T) (budget : ℕ) (bs : List Body) → AreRightBodies (map questions ts) budget bs → AreTrueOf questions feasible assignment ts budget bs
bodies_true questions feasible inside assignment laws [] budget [] h = tt
bodies_true questions feasible inside assignment laws [] budget (b ∷ bs) h = h
bodies_true questions feasible inside assignment laws (t ∷ ts) budget [] h = h
bodies_true questions feasible inside assignment laws (t ∷ ts) budget (b ∷ bs) h = (body_true (laws t) budget b h.0, bodies_true questions feasible inside assignment laws ts budget bs h.1)
