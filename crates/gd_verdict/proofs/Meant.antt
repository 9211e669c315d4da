-- What a verdict means for the assignments.
use Rattle.std.proofs.Common.{arith, ◌≡◌, refl, sym, ap, ◌∙◌, subst, ℕ, zero, suc, ◌+◌, ◌*◌, ◌/◌, ◌^◌, ◌<◌, ◌≤◌, Bool, true, false, ◌&&◌, Some, None, is_none, cond, List, ◌∷◌, length, filter, find, map, ℤ, inl, inr, pow-suc}
use Rattle.std.proofs.lemmas.Bool.{cases_lt}
use Rattle.std.proofs.lemmas.List.{length-append}
use Rattle.std.proofs.lemmas.List.Elements.{All-filter, All-map, filter-append}
use Rattle.std.specs.List.{flat_map}
use Rattle.gd_cells.specs.Grid.{IsCell, cell_of, count_from}
use Rattle.gd_cells.specs.Laws.{HasRoot, Laws, NamesPlace}
use Rattle.gd_cells.specs.Meaning.{Questions}
use Rattle.gd_cells.specs.declared.cell.Cell.{Cell}
use Rattle.gd_cells.specs.declared.cell.Witness.{Witness}
use Rattle.gd_cells.specs.declared.node.Node.{Node}
use Rattle.gd_verdict.proofs.Ends.{accepted_is, low_level, rejected_is}
use Rattle.gd_verdict.proofs.Levels.{candidates, candidates_at, centres_are, is_left}
use Rattle.gd_verdict.proofs.Lists.{found_kept, found_passes}
use Rattle.gd_verdict.specs.Meant.{IsShown, VerdictMeans}
use Rattle.gd_verdict.specs.Verdict.{Accepted, IsVerdict, Open, Rejected, cells, centres, end_at, is_undecided, undecided}

-- ---- an accepted witness
pub accepts : {q : Questions} {feasible : List ℤ → Type 0} {inside : List ℤ → Cell → Type 0} {assignment : Witness → List ℤ} → Laws q feasible inside assignment →
    (budget : ℕ) (w : Witness) (level : ℕ) → IsVerdict q budget (Accepted w level) → IsShown q feasible assignment w
unfolding end_at
accepts {q} laws budget w level verdict =
    let low : verdict.0 ≤ q.grid.finest = low_level q budget verdict.0 verdict.1 in
    let h : find q.tests.holds (centres q verdict.0) ≡ Some w = accepted_is (find q.tests.holds (centres q verdict.0)) _ _ _ _ _ _ _ w level verdict.2 in
    let f : find q.tests.holds (map q.tests.centre (filter (is_left q) (candidates q verdict.0))) ≡ Some w = ap (find q.tests.holds) (sym (centres_are q laws.is_grid verdict.0 low)) ∙ h in
    let of_centres : (P : Witness → Type 0) → ((c : Cell) → IsCell q.grid c → P (q.tests.centre c)) → P w = λ P each.
    found_kept P q.tests.holds w _
    (All-map P q.tests.centre (filter (is_left q) (candidates q verdict.0)) (All-filter (is_left q) (λ c. P (q.tests.centre c)) (candidates q verdict.0) (λ k d n. each _ (candidates_at q laws.is_grid verdict.0 low k d n).0))) f in
    let ranges : q.tests.in_range w ≡ true = of_centres (λ v. q.tests.in_range v ≡ true) laws.centre_in_range in
    let meets : q.tests.holds w ≡ true = found_passes q.tests.holds w _ f in
    record { ranges = ranges; meets = meets; place = of_centres (NamesPlace q.grid) laws.centre_names_place; shown = laws.holds_is_feasible w ranges meets }

-- ---- a feasible assignment stays inside an undecided cell
record Stays (q : Questions) (inside : List ℤ → Cell → Type 0) (a : List ℤ) (l : ℕ) : Type 0 where
  root : ℕ
  path : ℕ
  first : 1 ≤ root
  last : root ≤ q.grid.roots
  within : path < 2 ^ l
  lies : inside a (cell_of q.grid root l path)
  still : is_undecided q root l path ≡ true

not_refuted : {q : Questions} {feasible : List ℤ → Type 0} {inside : List ℤ → Cell → Type 0} {assignment : Witness → List ℤ} → Laws q feasible inside assignment →
    (a : List ℤ) → feasible a → (c : Cell) → IsCell q.grid c → inside a c → is_none (q.tests.first c) ≡ true
not_refuted {q} laws a can c cell lies =
    elim (q.tests.first c) as (λ v. q.tests.first c ≡ v → is_none v ≡ true) [
      | Some e ↦ λ is. absurd (laws.refuted_is_empty c e a cell (laws.first_refutes c e cell is) lies can)
      | None ↦ λ is. refl
    ] refl

pub cell_at_path : (q : Questions) (r l p : ℕ) → 1 ≤ r → r ≤ q.grid.roots → l ≤ q.grid.finest → p < 2 ^ l → IsCell q.grid (cell_of q.grid r l p)
cell_at_path q r l p first last low within =
    record { root = r; level = l; path = p; first_root = first; last_root = last; deepest = low; inside = within; same = refl }

pub both_true : (a b : Bool) → a ≡ true → b ≡ true → (a && b) ≡ true
both_true a b e f = rw (e, f) refl

stays_root : {q : Questions} {feasible : List ℤ → Type 0} {inside : List ℤ → Cell → Type 0} {assignment : Witness → List ℤ} → Laws q feasible inside assignment →
    (a : List ℤ) → feasible a → HasRoot q.grid inside a → Stays q inside a 0
stays_root {q} laws a can has = record {
  root = has.root;
  path = 0;
  first = has.first;
  last = has.last;
  within = omega arith;
  lies = has.lies_inside;
  still = not_refuted laws a can (cell_of q.grid has.root 0 0) (cell_at_path q has.root 0 0 has.first has.last (omega arith) (omega arith)) has.lies_inside;
}

stays_half : {q : Questions} {feasible : List ℤ → Type 0} {inside : List ℤ → Cell → Type 0} {assignment : Witness → List ℤ} → Laws q feasible inside assignment →
    (a : List ℤ) → feasible a → (l : ℕ) → l < q.grid.finest → (s : Stays q inside a l) → (side : ℕ) → side < 2 →
    inside a (cell_of q.grid s.root (suc l) (2 * s.path + side)) → Stays q inside a (suc l)
stays_half {q} laws a can l low s side small lies =
    let w : 2 * s.path + side < 2 ^ suc l = omega (arith, pow-suc 2 l, s.within) in
    let d : (2 * s.path + side) / 2 ≡ s.path = omega arith in
    record {
      root = s.root;
      path = 2 * s.path + side;
      first = s.first;
      last = s.last;
      within = w;
      lies = lies;
      still = both_true (is_undecided q s.root l ((2 * s.path + side) / 2)) (is_none (q.tests.first (cell_of q.grid s.root (suc l) (2 * s.path + side))))
          (rw d s.still)
          (not_refuted laws a can (cell_of q.grid s.root (suc l) (2 * s.path + side)) (cell_at_path q s.root (suc l) (2 * s.path + side) s.first s.last (omega arith) w) lies);
    }

stays : {q : Questions} {feasible : List ℤ → Type 0} {inside : List ℤ → Cell → Type 0} {assignment : Witness → List ℤ} → Laws q feasible inside assignment →
    (a : List ℤ) → feasible a → (l : ℕ) → l ≤ q.grid.finest → Stays q inside a l
stays laws a can zero low = stays_root laws a can (laws.roots_cover a can)
stays {q} {feasible} {inside} laws a can (suc l) low =
    let s : Stays q inside a l = stays laws a can l (omega arith) in
    let z : 2 * s.path ≡ 2 * s.path + 0 = omega arith in
    elim (laws.halves_cover a s.root l s.path s.first s.last (omega arith) s.within s.lies) [
      | inl lower ↦ stays_half laws a can l (omega arith) s 0 (omega arith) (subst (λ p. inside a (cell_of q.grid s.root (suc l) p)) z lower)
      | inr upper ↦ stays_half laws a can l (omega arith) s 1 (omega arith) upper
    ]

-- ---- where no cell is undecided, none stays
path_left_out : (P : ℕ × ℕ → Bool) (r a n p : ℕ) → length (filter P (map (λ p. (r, p)) (count_from a n))) ≡ 0 → a ≤ p → p < a + n → P (r, p) ≡ true → ⊥
path_left_out P r a zero p none low high is = absurd (omega arith)
path_left_out P r a (suc n) p none low high is =
    let rest : List (ℕ × ℕ) = filter P (map (λ p. (r, p)) (count_from (a + 1) n)) in
    elim (P (r, a)) as (λ v. P (r, a) ≡ v → length (cond v ((r, a) ∷ rest) rest) ≡ 0 → ⊥) [
      | true ↦ λ e f. absurd (omega (arith, f))
      | false ↦ λ e f. elim (cases_lt a p) [
        | inl above ↦ path_left_out P r (a + 1) n p f (omega arith) (omega arith) is
        | inr here ↦ let same : a ≡ p = omega arith in let g : P (r, a) ≡ true = rw same is in let no : false ≡ true = sym e ∙ g in cc
      ]
    ] refl none

root_left_out : (P : ℕ × ℕ → Bool) (paths a n r p : ℕ) → length (filter P (flat_map (λ r. map (λ p. (r, p)) (count_from 0 paths)) (count_from a n))) ≡ 0 → a ≤ r → r < a + n → p < paths → P (r, p) ≡ true → ⊥
root_left_out P paths a zero r p none low high within is = absurd (omega arith)
root_left_out P paths a (suc n) r p none low high within is =
    let here : List (ℕ × ℕ) = map (λ p. (a, p)) (count_from 0 paths) in
    let more : List (ℕ × ℕ) = flat_map (λ r. map (λ p. (r, p)) (count_from 0 paths)) (count_from (a + 1) n) in
    let both : length (filter P here) + length (filter P more) ≡ 0 = sym (length-append (filter P here) (filter P more)) ∙ ap length (sym (filter-append P here more)) ∙ none in
    elim (cases_lt a r) [
      | inl above ↦ root_left_out P paths (a + 1) n r p (omega (arith, both)) (omega arith) (omega arith) within is
      | inr this ↦ let same : r ≡ a = omega arith in path_left_out P a 0 paths p (omega (arith, both)) (omega arith) (omega arith) (subst (λ (i : ℕ). P (i, p) ≡ true) same is)
    ]

pub rejects : {q : Questions} {feasible : List ℤ → Type 0} {inside : List ℤ → Cell → Type 0} {assignment : Witness → List ℤ} → Laws q feasible inside assignment →
    (budget leaves : ℕ) (tree : List Node) → IsVerdict q budget (Rejected leaves tree) → (a : List ℤ) → feasible a → ⊥
unfolding end_at undecided cells
rejects {q} {feasible} {inside} laws budget leaves tree verdict a can =
    let none : length (undecided q verdict.0) ≡ 0 = rejected_is (find q.tests.holds (centres q verdict.0)) _ _ _ _ _ _ _ leaves tree verdict.2 in
    let s : Stays q inside a verdict.0 = stays laws a can verdict.0 (low_level q budget verdict.0 verdict.1) in
    root_left_out (λ c. is_undecided q c.0 verdict.0 c.1) (2 ^ verdict.0) 1 q.grid.roots s.root s.path none s.first (omega (arith, s.last)) s.within s.still

-- ---- every verdict
pub verdict_means : {q : Questions} {feasible : List ℤ → Type 0} {inside : List ℤ → Cell → Type 0} {assignment : Witness → List ℤ} → Laws q feasible inside assignment →
    VerdictMeans q feasible assignment
verdict_means laws budget (Accepted w level) verdict = accepts laws budget w level verdict
verdict_means laws budget (Rejected leaves tree) verdict = rejects laws budget leaves tree verdict
verdict_means laws budget (Open tree counts) verdict = tt
