-- How the rules end a search at a level, and what the levels before it have spent.
use Rattle.std.proofs.Common.{arith, ◌≡◌, ◌≢◌, refl, sym, ap, ◌∙◌, subst, add-one, ℕ, zero, suc, ◌+◌, ◌*◌, ◌<◌, ◌≤◌, true, false, not, Option, Some, None, cond, nat_lt, nat_eq, List, length, filter, find, inl, inr}
use Rattle.std.proofs.lemmas.Bool.{cases_lt}
use Rattle.std.proofs.lemmas.Bool.Decides.{nat_tests}
use Rattle.std.proofs.lemmas.List.{length-map}
use Rattle.std.proofs.lemmas.List.Filters.{length-filter_both}
use Rattle.gd_base.specs.declared.verdict.Reason.TheVariants as reason
use Rattle.gd_cells.proofs.Cells.{length-count_from}
use Rattle.gd_cells.specs.Grid.{count_from}
use Rattle.gd_cells.specs.Halves.{whole_root}
use Rattle.gd_cells.specs.Laws.{IsGrid}
use Rattle.gd_cells.specs.Meaning.{Questions}
use Rattle.gd_cells.specs.declared.cell.Cell.{Cell}
use Rattle.gd_cells.specs.declared.cell.Witness.{Witness}
use Rattle.gd_cells.specs.declared.node.Node.{Node}
use Rattle.gd_verdict.proofs.Levels.{candidates, candidates-suc, candidates-zero, is_left, next_counted, undecided_counted}
use Rattle.gd_verdict.specs.Trees.{tree}
use Rattle.gd_verdict.specs.Verdict.{Accepted, End, Open, Rejected, centres, counts_of, end_at, end_with, spent, undecided}

-- a search that doesn't end at a level: no centre holds, some cells are undecided, the grid goes on, and the budget suffices
pub record GoesOn (h : Option Witness) (l u s finest budget : ℕ) : Type 0 where
  pub fails : h ≡ None
  pub some : u ≢ 0
  pub above : l ≢ finest
  pub affords : s + u ≤ budget

-- the rule that ends a search, or none
pub data Rule (h : Option Witness) (lines : List Node) (l u s roots finest budget : ℕ) (o : Option End) : Type 0 where
  Holds : (w : Witness) → h ≡ Some w → o ≡ Some (Accepted w l) → Rule h lines l u s roots finest budget o
  Empty : h ≡ None → u ≡ 0 → o ≡ Some (Rejected (s + roots) lines) → Rule h lines l u s roots finest budget o
  Finest : h ≡ None → u ≢ 0 → l ≡ finest → o ≡ Some (Open lines (counts_of l u s reason.Floor)) → Rule h lines l u s roots finest budget o
  Spent : h ≡ None → u ≢ 0 → l ≢ finest → budget < s + u → o ≡ Some (Open lines (counts_of l u s reason.Budget)) → Rule h lines l u s roots finest budget o
  On : GoesOn h l u s finest budget → o ≡ None → Rule h lines l u s roots finest budget o

pub rule_of : (h : Option Witness) (lines : List Node) (l u s roots finest budget : ℕ) → Rule h lines l u s roots finest budget (end_with h lines l u s roots finest budget)
rule_of (Some w) lines l u s roots finest budget = Holds w refl refl
rule_of None lines l u s roots finest budget =
    elim (nat_eq u 0) as (λ a. nat_eq u 0 ≡ a → Rule None lines l u s roots finest budget (cond a (Some (Rejected (s + roots) lines)) (cond (nat_eq l finest) (Some (Open lines (counts_of l u s reason.Floor))) (cond (nat_lt budget (s + u)) (Some (Open lines (counts_of l u s reason.Budget))) None)))) [
      | true ↦ λ a. Empty refl (grind (arith, nat_tests)) refl
      | false ↦ λ a. elim (nat_eq l finest) as (λ b. nat_eq l finest ≡ b → Rule None lines l u s roots finest budget (cond b (Some (Open lines (counts_of l u s reason.Floor))) (cond (nat_lt budget (s + u)) (Some (Open lines (counts_of l u s reason.Budget))) None))) [
        | true ↦ λ b. Finest refl (grind (arith, nat_tests)) (grind (arith, nat_tests)) refl
        | false ↦ λ b. elim (nat_lt budget (s + u)) as (λ c. nat_lt budget (s + u) ≡ c → Rule None lines l u s roots finest budget (cond c (Some (Open lines (counts_of l u s reason.Budget))) None)) [
          | true ↦ λ c. Spent refl (grind (arith, nat_tests)) (grind (arith, nat_tests)) (grind (arith, nat_tests)) refl
          | false ↦ λ c. On (record { fails = refl; some = grind (arith, nat_tests); above = grind (arith, nat_tests); affords = grind (arith, nat_tests) }) refl
        ] refl
      ] refl
    ] refl

pub accepted_is : (h : Option Witness) (lines : List Node) (l u s roots finest budget : ℕ) (w : Witness) (level : ℕ) → end_with h lines l u s roots finest budget ≡ Some (Accepted w level) → h ≡ Some w
accepted_is h lines l u s roots finest budget w level e = elim (rule_of h lines l u s roots finest budget) [
  | Holds v is o ↦ cc
  | Empty n z o ↦ absurd cc
  | Finest n z f o ↦ absurd cc
  | Spent n z f b o ↦ absurd cc
  | On g o ↦ absurd cc
]

pub rejected_is : (h : Option Witness) (lines : List Node) (l u s roots finest budget leaves : ℕ) (tree : List Node) → end_with h lines l u s roots finest budget ≡ Some (Rejected leaves tree) → u ≡ 0
rejected_is h lines l u s roots finest budget leaves tree e = elim (rule_of h lines l u s roots finest budget) [
  | Holds v is o ↦ absurd cc
  | Empty n z o ↦ z
  | Finest n z f o ↦ absurd cc
  | Spent n z f b o ↦ absurd cc
  | On g o ↦ absurd cc
]

-- ---- it ends at the finest level at the latest
floor_ends : (h : Option Witness) (lines : List Node) (u s roots finest budget : ℕ) → end_with h lines finest u s roots finest budget ≡ None → ⊥
floor_ends (Some w) lines u s roots finest budget e = cc
floor_ends None lines u s roots finest budget e = grind (arith, nat_tests)

pub low_level : (q : Questions) (budget l : ℕ) → ((m : ℕ) → m < l → end_at q budget m ≡ None) → l ≤ q.grid.finest
unfolding end_at
low_level q budget l before = elim (cases_lt q.grid.finest l) [
  | inl above ↦ absurd (floor_ends (find q.tests.holds (centres q q.grid.finest)) _ _ _ _ q.grid.finest budget (before q.grid.finest above))
  | inr low ↦ low
]

-- ---- a level at which it goes on
pub goes_on : (h : Option Witness) (lines : List Node) (l u s roots finest budget : ℕ) → end_with h lines l u s roots finest budget ≡ None → GoesOn h l u s finest budget
goes_on h lines l u s roots finest budget e = elim (rule_of h lines l u s roots finest budget) [
  | Holds v is o ↦ absurd cc
  | Empty n z o ↦ absurd cc
  | Finest n z f o ↦ absurd cc
  | Spent n z f b o ↦ absurd cc
  | On g o ↦ g
]

pub going : (h : Option Witness) (lines : List Node) (l u s roots finest budget : ℕ) → GoesOn h l u s finest budget → end_with h lines l u s roots finest budget ≡ None
going h lines l u s roots finest budget on =
    let a : nat_eq u 0 ≡ false = grind (arith, nat_tests, on.some) in
    let b : nat_eq l finest ≡ false = grind (arith, nat_tests, on.above) in
    let c : nat_lt budget (s + u) ≡ false = grind (arith, nat_tests, on.affords) in
    rw (on.fails, a, b, c) refl

-- ---- the undecided cells of one level after another
fewer : (q : Questions) (cs : List Cell) → length (filter (is_left q) cs) ≤ length cs
fewer q cs = omega (arith, length-filter_both (is_left q) (λ c. not (is_left q c)) (λ c. refl) cs)

pub twice : (q : Questions) → IsGrid q.grid → (l : ℕ) → l < q.grid.finest → length (undecided q (suc l)) ≤ 2 * length (undecided q l)
twice q grid l above =
    let e : length (candidates q (suc l)) ≡ 2 * length (filter (is_left q) (candidates q l)) = ap (λ n. length (candidates q n)) (sym (add-one l)) ∙ ap length (candidates-suc q l) ∙ next_counted q (candidates q l) in
    omega (arith, undecided_counted q grid (suc l) (omega arith), undecided_counted q grid l (omega arith), fewer q (candidates q (suc l)), e)

pub few_first : (q : Questions) → IsGrid q.grid → length (undecided q 0) ≤ q.grid.roots
few_first q grid =
    omega (arith, undecided_counted q grid 0 (omega arith), fewer q (candidates q 0), ap length (candidates-zero q), length-map (count_from 1 q.grid.roots) whole_root, length-count_from 1 q.grid.roots)

-- where no cell of a level is undecided, none of a later level is
pub none_stays : (q : Questions) → IsGrid q.grid → (l m : ℕ) → m ≤ l → l ≤ q.grid.finest → length (undecided q m) ≡ 0 → length (undecided q l) ≡ 0
none_stays q grid zero m low deep none = let e : m ≡ 0 = omega arith in subst (λ n. length (undecided q n) ≡ 0) e none
none_stays q grid (suc l) m low deep none =
    elim (nat_eq m (suc l)) as (λ v. nat_eq m (suc l) ≡ v → length (undecided q (suc l)) ≡ 0) [
      | true ↦ λ is. let e : m ≡ suc l = grind (arith, nat_tests) in subst (λ n. length (undecided q n) ≡ 0) e none
      | false ↦ λ is. let ne : m ≢ suc l = grind (arith, nat_tests) in omega (arith, twice q grid l (omega arith), none_stays q grid l m (omega (arith, ne)) (omega arith) none)
    ] refl

pub spent_grows : (q : Questions) (l m : ℕ) → m ≤ l → spent q m ≤ spent q l
spent_grows q zero m low = let e : m ≡ 0 = omega arith in rw e (omega arith)
spent_grows q (suc l) m low =
    elim (nat_eq m (suc l)) as (λ v. nat_eq m (suc l) ≡ v → spent q m ≤ spent q (suc l)) [
      | true ↦ λ is. let e : m ≡ suc l = grind (arith, nat_tests) in rw e (omega arith)
      | false ↦ λ is. let ne : m ≢ suc l = grind (arith, nat_tests) in omega (arith, spent_grows q l m (omega (arith, ne)))
    ] refl

-- ---- what the levels before a level have spent
pub on_before : (q : Questions) (budget l : ℕ) → end_at q budget l ≡ None → GoesOn (find q.tests.holds (centres q l)) l (length (undecided q l)) (spent q l) q.grid.finest budget
unfolding end_at
on_before q budget l h = goes_on (find q.tests.holds (centres q l)) (tree q l) l (length (undecided q l)) (spent q l) q.grid.roots q.grid.finest budget h

pub spent_fits : (q : Questions) (budget l : ℕ) → ((m : ℕ) → m < l → end_at q budget m ≡ None) → spent q l ≤ budget
spent_fits q budget zero before = omega arith
spent_fits q budget (suc l) before = (on_before q budget l (before l (omega arith))).affords

pub undecided_fits : (q : Questions) → IsGrid q.grid → (budget l : ℕ) → ((m : ℕ) → m < l → end_at q budget m ≡ None) → length (undecided q l) ≤ 2 * budget + 4
undecided_fits q grid budget zero before = omega (arith, few_first q grid, grid.few_roots)
undecided_fits q grid budget (suc l) before =
    let deep : suc l ≤ q.grid.finest = low_level q budget (suc l) before in
    let on : spent q l + length (undecided q l) ≤ budget = (on_before q budget l (before l (omega arith))).affords in
    omega (arith, twice q grid l (omega arith), on)

pub fails_to : (q : Questions) (budget l : ℕ) → ((m : ℕ) → m < l → end_at q budget m ≡ None) → find q.tests.holds (centres q l) ≡ None → (m : ℕ) → m ≤ l → find q.tests.holds (centres q m) ≡ None
fails_to q budget l before here m low = elim (cases_lt m l) [
  | inl above ↦ (on_before q budget m (before m above)).fails
  | inr there ↦ let same : l ≡ m = omega arith in subst (λ k. find q.tests.holds (centres q k) ≡ None) same here
]
