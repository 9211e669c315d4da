-- What a search leaves is right, and can be written.
use Rattle.std.proofs.Common.{arith, ◌≡◌, refl, sym, ap, ◌∙◌, subst, ℕ, zero, suc, ◌+◌, ◌-◌, ◌*◌, ◌^◌, ◌<◌, ◌≤◌, false, Option, Some, None, List, [], ◌∷◌, ◌++◌, length, map, take, replicate, pos, unsigned_abs, ℤ}
use Rattle.std.proofs.lemmas.List.{length-append, length-take-le, take-append-drop}
use Rattle.std.proofs.lemmas.List.Elements.{All-append, All-take, All-cons, All-nil}
use Rattle.std.specs.List.{All, flat_map}
use Rattle.gd_base.specs.Limits.{BUDGET}
use Rattle.gd_base.specs.declared.verdict.Counts.{Counts}
use Rattle.gd_cells.specs.declared.cell.Cell.{Cell}
use Rattle.gd_cells.specs.Grid.{cell_of, count_from, MOST_DIMS}
use Rattle.gd_cells.specs.Laws.{FirstIsShort, FirstRefutes, IsGrid, NamesPlace, Laws}
use Rattle.gd_cells.specs.Meaning.{Questions}
use Rattle.gd_cells.specs.declared.cell.Evidence.{Evidence}
use Rattle.gd_cells.specs.declared.cell.Witness.{Witness}
use Rattle.gd_cells.specs.declared.node.Node.{Node}
use Rattle.gd_cells.specs.declared.node.Node.TheVariants as node
use Rattle.gd_cert.specs.Bounds.{CountsFit, IsDecided, NodeFits, WitnessFits}
use Rattle.gd_verdict.proofs.Paths.{IsPath, cell_of_path, half_path, halves_counted, halves_spent, here_counted, lower_path, none_spent, root_path, still_left}
use Rattle.gd_check.proofs.Ends.{IsOpenAt, IsRejectedAt, open_at, rejected_at}
use Rattle.gd_check.specs.Right.{AreBelow, Branch, Undecided, Split, IsAccepted, IsForest, IsOpen, IsRefutedBy, IsRejected, IsSearchedTo, Refuted, lines_of}
use Rattle.gd_cells.specs.Witnesses.{witness_of}
use Rattle.gd_cert.specs.Sizes.{tree_of}
use Rattle.gd_check.specs.Written.{VerdictIsRight, body_of_end}
use Rattle.gd_verdict.proofs.Counted.{left_below, left_in, left_in-append, left_under, none_left, spent_under, total, total-add, total-none, total-same, undecided_under}
use Rattle.gd_verdict.proofs.Below.{cells_below}
use Rattle.gd_verdict.proofs.Levels.{is_left}
use Rattle.gd_verdict.proofs.Meant.{accepts}
use Rattle.gd_verdict.specs.Meant.{IsShown}
use Rattle.gd_verdict.specs.Trees.{last_line, tree, tree_below, with_halves}
use Rattle.gd_verdict.specs.Verdict.{Accepted, End, IsVerdict, Open, Rejected, spent, undecided}

-- ---- an accepted witness
whole : (q : Questions) (w : Witness) → q.grid.numbers ≤ MOST_DIMS → NamesPlace q.grid w → witness_of w.root (take q.grid.numbers w.at) ≡ w
whole q w few place =
    let n : length (take q.grid.numbers w.at) ≡ q.grid.numbers = length-take-le q.grid.numbers w.at (omega (arith, place.room)) in
    let e : take q.grid.numbers w.at ++ replicate (MOST_DIMS - length (take q.grid.numbers w.at)) (pos 0) ≡ w.at =
    ap (λ k. take q.grid.numbers w.at ++ replicate (MOST_DIMS - k) (pos 0)) n ∙ ap (λ zs. take q.grid.numbers w.at ++ zs) (sym place.behind) ∙ take-append-drop q.grid.numbers w.at in
    ap {B = Witness} (λ at. record { root = w.root; at = at }) e

accept_right : {q : Questions} {feasible : List ℤ → Type 0} {inside : List ℤ → Cell → Type 0} {assignment : Witness → List ℤ} → Laws q feasible inside assignment → (budget : ℕ) (w : Witness) (level : ℕ) → IsVerdict q budget (Accepted w level) → IsAccepted q w.root (take q.grid.numbers w.at)
accept_right {q} {feasible} {inside} {assignment} laws budget w level is =
    let s : IsShown q feasible assignment w = accepts laws budget w level is in
    let same : witness_of w.root (take q.grid.numbers w.at) ≡ w = whole q w laws.is_grid.few_numbers s.place in
    record {
      count = length-take-le q.grid.numbers w.at (omega (arith, s.place.room, laws.is_grid.few_numbers));
      ranges = ap q.tests.in_range same ∙ s.ranges;
      meets = ap q.tests.holds same ∙ s.meets;
    }

accept_fits : {q : Questions} {feasible : List ℤ → Type 0} {inside : List ℤ → Cell → Type 0} {assignment : Witness → List ℤ} → Laws q feasible inside assignment → 2 ≤ q.grid.numbers → (budget : ℕ) (w : Witness) (level : ℕ) → IsVerdict q budget (Accepted w level) → WitnessFits w.root (take q.grid.numbers w.at)
accept_fits {q} {feasible} {inside} {assignment} laws some budget w level is =
    let s : IsShown q feasible assignment w = accepts laws budget w level is in
    let n : length (take q.grid.numbers w.at) ≡ q.grid.numbers = length-take-le q.grid.numbers w.at (omega (arith, s.place.room, laws.is_grid.few_numbers)) in
    record {
      root_fits = omega (arith, s.place.last, laws.is_grid.few_roots);
      some = omega (arith, n, some);
      few = omega (arith, n, laws.is_grid.few_numbers);
      sizes = All-take (λ x. unsigned_abs x < 2 ^ 62) q.grid.numbers w.at s.place.sizes;
    }

-- ---- the tree of a search, as branches
abbrev last_branch : Option Evidence → Branch
last_branch (Some e) = Refuted e
last_branch None = Undecided

abbrev with_branches : Option Evidence → Branch → Branch → Branch
with_branches (Some e) lower upper = Refuted e
with_branches None lower upper = Split lower upper

abbrev branch_below : Questions → ℕ → ℕ → ℕ → ℕ → Branch
branch_below q zero r l p = last_branch (q.tests.first (cell_of q.grid r l p))
branch_below q (suc depth) r l p = with_branches (q.tests.first (cell_of q.grid r l p)) (branch_below q depth r (suc l) (2 * p)) (branch_below q depth r (suc l) (2 * p + 1))

spelled_below : (q : Questions) (depth r l p : ℕ) → tree_below q depth r l p ≡ lines_of (branch_below q depth r l p)
spelled_below q zero r l p = elim (q.tests.first (cell_of q.grid r l p)) as (λ v. last_line v ∷ [] ≡ lines_of (last_branch v)) [ Some e ↦ refl | None ↦ refl ]
spelled_below q (suc depth) r l p =
    let lower : Branch = branch_below q depth r (suc l) (2 * p) in
    let upper : Branch = branch_below q depth r (suc l) (2 * p + 1) in
    ap (λ lines. with_halves (q.tests.first (cell_of q.grid r l p)) (lines ++ tree_below q depth r (suc l) (2 * p + 1))) (spelled_below q depth r (suc l) (2 * p))
    ∙ ap (λ lines. with_halves (q.tests.first (cell_of q.grid r l p)) (lines_of lower ++ lines)) (spelled_below q depth r (suc l) (2 * p + 1))
    ∙ elim (q.tests.first (cell_of q.grid r l p)) as (λ v. with_halves v (lines_of lower ++ lines_of upper) ≡ lines_of (with_branches v lower upper)) [ Some e ↦ refl | None ↦ refl ]

searched_below : (q : Questions) → FirstRefutes q → (last depth r l p : ℕ) → IsPath q r l p → l + depth ≡ last → last ≤ q.grid.finest → IsSearchedTo q last r l p (branch_below q depth r l p)
searched_below q refutes last zero r l p path at deep =
    elim (q.tests.first (cell_of q.grid r l p)) as (λ v. q.tests.first (cell_of q.grid r l p) ≡ v → IsSearchedTo q last r l p (last_branch v)) [
      | Some e ↦ λ is. refutes (cell_of q.grid r l p) e (cell_of_path q r l p path) is
      | None ↦ λ is. let here : l ≡ last = omega arith in (here, is)
    ] refl
searched_below q refutes last (suc depth) r l p path at deep =
    let higher : l < last = omega arith in
    let lower : IsSearchedTo q last r (suc l) (2 * p) (branch_below q depth r (suc l) (2 * p)) = searched_below q refutes last depth r (suc l) (2 * p) (lower_path q r l p path (omega arith)) (omega arith) deep in
    let upper : IsSearchedTo q last r (suc l) (2 * p + 1) (branch_below q depth r (suc l) (2 * p + 1)) =
    searched_below q refutes last depth r (suc l) (2 * p + 1) (half_path q r l p 1 path (omega arith) (omega arith)) (omega arith) deep in
    elim (q.tests.first (cell_of q.grid r l p)) as (λ v. q.tests.first (cell_of q.grid r l p) ≡ v → IsSearchedTo q last r l p (with_branches v (branch_below q depth r (suc l) (2 * p)) (branch_below q depth r (suc l) (2 * p + 1)))) [
      | Some e ↦ λ is. refutes (cell_of q.grid r l p) e (cell_of_path q r l p path) is
      | None ↦ λ is. (higher, is, lower, upper)
    ] refl

refuted_below : (q : Questions) → FirstRefutes q → (depth r l p : ℕ) → IsPath q r l p → l + depth ≤ q.grid.finest → left_below q r l p depth ≡ 0 → IsRefutedBy q r l p (branch_below q depth r l p)
refuted_below q refutes zero r l p path deep empty =
    elim (q.tests.first (cell_of q.grid r l p)) as (λ v. q.tests.first (cell_of q.grid r l p) ≡ v → IsRefutedBy q r l p (last_branch v)) [
      | Some e ↦ λ is. refutes (cell_of q.grid r l p) e (cell_of_path q r l p path) is
      | None ↦ λ is. absurd (omega (arith, here_counted q r l p (still_left q (cell_of q.grid r l p) is), empty))
    ] refl
refuted_below q refutes (suc depth) r l p path deep empty =
    let above : l < q.grid.finest = omega arith in
    elim (q.tests.first (cell_of q.grid r l p)) as (λ v. q.tests.first (cell_of q.grid r l p) ≡ v → IsRefutedBy q r l p (with_branches v (branch_below q depth r (suc l) (2 * p)) (branch_below q depth r (suc l) (2 * p + 1)))) [
      | Some e ↦ λ is. refutes (cell_of q.grid r l p) e (cell_of_path q r l p path) is
      | None ↦ λ is.
          let both : left_below q r (suc l) (2 * p) depth + left_below q r (suc l) (2 * p + 1) depth ≡ 0 = sym (halves_counted q r l p (still_left q (cell_of q.grid r l p) is) depth) ∙ empty in (
            above,
            refuted_below q refutes depth r (suc l) (2 * p) (lower_path q r l p path above) (omega arith) (omega (arith, both)),
            refuted_below q refutes depth r (suc l) (2 * p + 1) (half_path q r l p 1 path above (omega arith)) (omega arith) (omega (arith, both)),
          )
    ] refl

-- ---- the branches below all roots
branches : Questions → ℕ → ℕ → ℕ → List Branch
branches q level a n = map (λ r. branch_below q level r 0 0) (count_from a n)

counted_roots : (q : Questions) (level a n : ℕ) → length (branches q level a n) ≡ n
unfolding branches
counted_roots q level a zero = refl
counted_roots q level a (suc n) = ap suc (counted_roots q level (a + 1) n)

spelled_roots : (q : Questions) (level a n : ℕ) → flat_map (λ r. tree_below q level r 0 0) (count_from a n) ≡ flat_map lines_of (branches q level a n)
unfolding branches
spelled_roots q level a zero = refl
spelled_roots q level a (suc n) =
    ap (λ lines. lines ++ flat_map (λ r. tree_below q level r 0 0) (count_from (a + 1) n)) (spelled_below q level a 0 0)
    ∙ ap (λ lines. lines_of (branch_below q level a 0 0) ++ lines) (spelled_roots q level (a + 1) n)

searched_roots : (q : Questions) → FirstRefutes q → (level a n : ℕ) → 1 ≤ a → a + n ≤ suc q.grid.roots → level ≤ q.grid.finest → AreBelow (λ root. IsSearchedTo q level root 0 0) a (branches q level a n)
unfolding branches
searched_roots q refutes level a zero first few deep = tt
searched_roots q refutes level a (suc n) first few deep =
    (searched_below q refutes level level a 0 0 (root_path q a first (omega arith)) (omega arith) deep, searched_roots q refutes level (a + 1) n (omega arith) (omega arith) deep)

-- no cell is undecided under the first of some roots, nor under the others
none_each_root : (q : Questions) (level a n : ℕ) → left_under q a (suc n) level ≡ 0 → (left_below q a 0 0 level ≡ 0) × (left_under q (a + 1) n level ≡ 0)
unfolding left_under left_below
none_each_root q level a n empty =
    let both : left_in q (cells_below q level a 0 0) + left_in q (flat_map (λ r. cells_below q level r 0 0) (count_from (a + 1) n)) ≡ 0 =
    sym (left_in-append q (cells_below q level a 0 0) (flat_map (λ r. cells_below q level r 0 0) (count_from (a + 1) n))) ∙ empty in
    (omega (arith, both), omega (arith, both))

refuted_roots : (q : Questions) → FirstRefutes q → (level a n : ℕ) → 1 ≤ a → a + n ≤ suc q.grid.roots → level ≤ q.grid.finest → left_under q a n level ≡ 0 → AreBelow (λ root. IsRefutedBy q root 0 0) a (branches q level a n)
unfolding branches
refuted_roots q refutes level a zero first few deep empty = tt
refuted_roots q refutes level a (suc n) first few deep empty =
    let two = none_each_root q level a n empty in
    (refuted_below q refutes level a 0 0 (root_path q a first (omega arith)) (omega arith) two.0, refuted_roots q refutes level (a + 1) n (omega arith) (omega arith) deep two.1)

tree_searched : (q : Questions) → FirstRefutes q → (level : ℕ) → level ≤ q.grid.finest → IsForest q.grid.roots (λ root. IsSearchedTo q level root 0 0) (tree q level)
unfolding tree
tree_searched q refutes level deep = record {
  branches = branches q level 1 q.grid.roots;
  count = counted_roots q level 1 q.grid.roots;
  below = searched_roots q refutes level 1 q.grid.roots (omega arith) (omega arith) deep;
  spelled = spelled_roots q level 1 q.grid.roots;
}

tree_refuted : (q : Questions) → IsGrid q.grid → FirstRefutes q → (level : ℕ) → level ≤ q.grid.finest → length (undecided q level) ≡ 0 → IsRejected q (tree q level)
unfolding tree
tree_refuted q grid refutes level deep empty = record {
  branches = branches q level 1 q.grid.roots;
  count = counted_roots q level 1 q.grid.roots;
  below = refuted_roots q refutes level 1 q.grid.roots (omega arith) (omega arith) deep (sym (undecided_under q grid level deep) ∙ empty);
  spelled = spelled_roots q level 1 q.grid.roots;
}

-- ---- the lines of the tree can be written
fit_below : (q : Questions) → FirstIsShort q → (depth r l p : ℕ) → IsPath q r l p → l + depth ≤ q.grid.finest → All NodeFits (tree_below q depth r l p)
fit_below q short zero r l p path deep =
    elim (q.tests.first (cell_of q.grid r l p)) as (λ v. q.tests.first (cell_of q.grid r l p) ≡ v → All NodeFits (last_line v ∷ [])) [
      | Some e ↦ λ is. All-cons NodeFits (node.Refuted e) [] (short (cell_of q.grid r l p) e (cell_of_path q r l p path) is) (All-nil NodeFits)
      | None ↦ λ is. All-cons NodeFits node.Left [] tt (All-nil NodeFits)
    ] refl
fit_below q short (suc depth) r l p path deep =
    let lower : List Node = tree_below q depth r (suc l) (2 * p) in
    let upper : List Node = tree_below q depth r (suc l) (2 * p + 1) in
    let low : All NodeFits (tree_below q depth r (suc l) (2 * p)) = fit_below q short depth r (suc l) (2 * p) (lower_path q r l p path (omega arith)) (omega arith) in
    let high : All NodeFits (tree_below q depth r (suc l) (2 * p + 1)) = fit_below q short depth r (suc l) (2 * p + 1) (half_path q r l p 1 path (omega arith) (omega arith)) (omega arith) in
    elim (q.tests.first (cell_of q.grid r l p)) as (λ v. q.tests.first (cell_of q.grid r l p) ≡ v → All NodeFits (with_halves v (tree_below q depth r (suc l) (2 * p) ++ tree_below q depth r (suc l) (2 * p + 1)))) [
      | Some e ↦ λ is. All-cons NodeFits (node.Refuted e) [] (short (cell_of q.grid r l p) e (cell_of_path q r l p path) is) (All-nil NodeFits)
      | None ↦ λ is. All-cons NodeFits node.Split (lower ++ upper) tt (All-append NodeFits lower upper low high)
    ] refl

fit_roots : (q : Questions) → FirstIsShort q → (level a n : ℕ) → 1 ≤ a → a + n ≤ suc q.grid.roots → level ≤ q.grid.finest → All NodeFits (flat_map (λ r. tree_below q level r 0 0) (count_from a n))
fit_roots q short level a zero first few deep = All-nil NodeFits
fit_roots q short level a (suc n) first few deep =
    All-append NodeFits (tree_below q level a 0 0) (flat_map (λ r. tree_below q level r 0 0) (count_from (a + 1) n))
    (fit_below q short level a 0 0 (root_path q a first (omega arith)) (omega arith))
    (fit_roots q short level (a + 1) n (omega arith) (omega arith) deep)

tree_fits : (q : Questions) → FirstIsShort q → (level : ℕ) → level ≤ q.grid.finest → All NodeFits (tree q level)
unfolding tree
tree_fits q short level deep = fit_roots q short level 1 q.grid.roots (omega arith) (omega arith) deep

decided_below : (q : Questions) (depth r l p : ℕ) → left_below q r l p depth ≡ 0 → All IsDecided (tree_below q depth r l p)
decided_below q zero r l p empty =
    elim (q.tests.first (cell_of q.grid r l p)) as (λ v. q.tests.first (cell_of q.grid r l p) ≡ v → All IsDecided (last_line v ∷ [])) [
      | Some e ↦ λ is. All-cons IsDecided (node.Refuted e) [] tt (All-nil IsDecided)
      | None ↦ λ is. absurd (omega (arith, here_counted q r l p (still_left q (cell_of q.grid r l p) is), empty))
    ] refl
decided_below q (suc depth) r l p empty =
    let lower : List Node = tree_below q depth r (suc l) (2 * p) in
    let upper : List Node = tree_below q depth r (suc l) (2 * p + 1) in
    elim (q.tests.first (cell_of q.grid r l p)) as (λ v. q.tests.first (cell_of q.grid r l p) ≡ v → All IsDecided (with_halves v (tree_below q depth r (suc l) (2 * p) ++ tree_below q depth r (suc l) (2 * p + 1)))) [
      | Some e ↦ λ is. All-cons IsDecided (node.Refuted e) [] tt (All-nil IsDecided)
      | None ↦ λ is.
          let both : left_below q r (suc l) (2 * p) depth + left_below q r (suc l) (2 * p + 1) depth ≡ 0 = sym (halves_counted q r l p (still_left q (cell_of q.grid r l p) is) depth) ∙ empty in
          All-cons IsDecided node.Split (lower ++ upper) tt
          (All-append IsDecided lower upper (decided_below q depth r (suc l) (2 * p) (omega (arith, both))) (decided_below q depth r (suc l) (2 * p + 1) (omega (arith, both))))
    ] refl

decided_roots : (q : Questions) (level a n : ℕ) → left_under q a n level ≡ 0 → All IsDecided (flat_map (λ r. tree_below q level r 0 0) (count_from a n))
decided_roots q level a zero empty = All-nil IsDecided
decided_roots q level a (suc n) empty =
    let two = none_each_root q level a n empty in
    All-append IsDecided (tree_below q level a 0 0) (flat_map (λ r. tree_below q level r 0 0) (count_from (a + 1) n)) (decided_below q level a 0 0 two.0) (decided_roots q level (a + 1) n two.1)

tree_decided : (q : Questions) → IsGrid q.grid → (level : ℕ) → level ≤ q.grid.finest → length (undecided q level) ≡ 0 → All IsDecided (tree q level)
unfolding tree
tree_decided q grid level deep empty = decided_roots q level 1 q.grid.roots (sym (undecided_under q grid level deep) ∙ empty)

-- ---- how many lines there are: each split gives two more
long_below : (q : Questions) (depth r l p : ℕ) → length (tree_below q depth r l p) ≡ 2 * total (left_below q r l p) depth + 1
long_below q zero r l p = refl
long_below q (suc depth) r l p =
    let lower : List Node = tree_below q depth r (suc l) (2 * p) in
    let upper : List Node = tree_below q depth r (suc l) (2 * p + 1) in
    elim (q.tests.first (cell_of q.grid r l p)) as (λ v. q.tests.first (cell_of q.grid r l p) ≡ v → length (with_halves v (tree_below q depth r (suc l) (2 * p) ++ tree_below q depth r (suc l) (2 * p + 1))) ≡ 2 * total (left_below q r l p) (suc depth) + 1) [
      | Some e ↦ λ is. let gone : is_left q (cell_of q.grid r l p) ≡ false = rw is refl in omega (arith, none_spent q r l p gone (suc depth))
      | None ↦ λ is. omega (arith, length-append lower upper, halves_spent q r l p (still_left q (cell_of q.grid r l p) is) depth, long_below q depth r (suc l) (2 * p), long_below q depth r (suc l) (2 * p + 1))
    ] refl

long_roots : (q : Questions) (level a n : ℕ) → length (flat_map (λ r. tree_below q level r 0 0) (count_from a n)) ≡ 2 * total (left_under q a n) level + n
unfolding left_under left_below
long_roots q level a zero = omega (arith, total-same (left_under q a 0) (λ j. 0) level (λ j h. none_left q), total-none level)
long_roots q level a (suc n) =
    let more : ℕ → ℕ = λ j. left_in q (flat_map (λ r. cells_below q j r 0 0) (count_from (a + 1) n)) in
    omega (
      arith,
      length-append (tree_below q level a 0 0) (flat_map (λ r. tree_below q level r 0 0) (count_from (a + 1) n)),
      long_below q level a 0 0,
      long_roots q level (a + 1) n,
      total-same (left_under q a (suc n)) (λ j. left_in q (cells_below q j a 0 0) + more j) level (λ j h. left_in-append q (cells_below q j a 0 0) (flat_map (λ r. cells_below q j r 0 0) (count_from (a + 1) n))),
      total-add (λ j. left_in q (cells_below q j a 0 0)) more level,
    )

tree_long : (q : Questions) → IsGrid q.grid → (level : ℕ) → level ≤ q.grid.finest → length (tree q level) ≡ 2 * spent q level + q.grid.roots
unfolding tree
tree_long q grid level deep = omega (arith, long_roots q level 1 q.grid.roots, spent_under q grid level (omega arith))

-- ---- an open group
open_right : (q : Questions) → FirstRefutes q → (budget : ℕ) (lines : List Node) (o : Counts) → IsVerdict q budget (Open lines o) → IsOpenAt q budget lines o → IsOpen q budget o lines
open_right q refutes budget lines o is there = record {
  searched = subst (IsForest q.grid.roots (λ root. IsSearchedTo q o.level root 0 0)) (sym there.same) (tree_searched q refutes o.level there.low);
  end = subst (λ t. IsVerdict q budget (Open t o)) there.same is;
}

counts_fit : (q : Questions) → IsGrid q.grid → (budget : ℕ) (lines : List Node) (o : Counts) → budget ≤ BUDGET → IsOpenAt q budget lines o → CountsFit o
counts_fit q grid budget lines o few there = record {
  level_fits = omega (arith, there.low, grid.few_levels);
  undecided_fits = omega (arith, there.few);
  spent_fits = omega (arith, there.affords);
}

-- ---- what a verdict leaves
pub verdict_is_right : {q : Questions} {feasible : List ℤ → Type 0} {inside : List ℤ → Cell → Type 0} {assignment : Witness → List ℤ} → Laws q feasible inside assignment → 2 ≤ q.grid.numbers → VerdictIsRight q
verdict_is_right laws some budget (Accepted w level) few is = (accept_right laws budget w level is, accept_fits laws some budget w level is)
verdict_is_right {q} laws some budget (Rejected leaves lines) few is =
    let there : IsRejectedAt q budget lines = rejected_at q budget leaves lines is in (
      subst (IsRejected q) (sym there.same) (tree_refuted q laws.is_grid laws.first_refutes there.level there.low there.empty),
      (
        subst (All NodeFits) (sym there.same) (tree_fits q laws.first_is_short there.level there.low),
        subst (All IsDecided) (sym there.same) (tree_decided q laws.is_grid there.level there.low there.empty),
      ),
    )
verdict_is_right {q} laws some budget (Open lines o) few is =
    let there : IsOpenAt q budget lines o = open_at q laws.is_grid budget lines o is in (
      open_right q laws.first_refutes budget lines o is there,
      (counts_fit q laws.is_grid budget lines o few there, subst (All NodeFits) (sym there.same) (tree_fits q laws.first_is_short o.level there.low)),
    )

-- its tree has two lines for each split, and one for each root
pub tree_is_bounded : (q : Questions) → IsGrid q.grid → (budget : ℕ) (e : End) → IsVerdict q budget e → length (tree_of (body_of_end q e)) ≤ 2 * budget + 4
tree_is_bounded q grid budget (Accepted w level) is = omega arith
tree_is_bounded q grid budget (Rejected leaves lines) is =
    let there : IsRejectedAt q budget lines = rejected_at q budget leaves lines is in
    omega (arith, ap length there.same, tree_long q grid there.level there.low, there.affords, grid.few_roots)
tree_is_bounded q grid budget (Open lines o) is =
    let there : IsOpenAt q budget lines o = open_at q grid budget lines o is in
    omega (arith, ap length there.same, tree_long q grid o.level there.low, there.affords, there.splits, grid.few_roots)

pub tree_is_short : (q : Questions) → IsGrid q.grid → (budget : ℕ) (e : End) → budget ≤ BUDGET → IsVerdict q budget e → length (tree_of (body_of_end q e)) ≤ 2 * BUDGET + 4
tree_is_short q grid budget e few is = omega (arith, tree_is_bounded q grid budget e is)
