-- What a verdict tells of the level at which it ends.
use Rattle.std.proofs.Common.{arith, ◌≡◌, ◌≢◌, refl, sym, ap, ◌∙◌, subst, ℕ, ◌+◌, ◌*◌, ◌<◌, ◌≤◌, Bool, true, false, ◌||◌, Option, Some, None, nat_le, nat_lt, nat_eq, List, length, find}
use Rattle.std.proofs.lemmas.Bool.Decides.{nat_tests}
use Rattle.gd_base.specs.declared.verdict.Counts.{Counts}
use Rattle.gd_base.specs.declared.verdict.Reason.{Reason}
use Rattle.gd_base.specs.declared.verdict.Reason.TheVariants as reason
use Rattle.gd_cells.specs.Laws.{IsGrid}
use Rattle.gd_cells.specs.Meaning.{Questions}
use Rattle.gd_cells.specs.declared.cell.Witness.{Witness}
use Rattle.gd_cells.specs.declared.node.Node.{Node}
use Rattle.gd_check.specs.Wrong.{is_wrong_reason}
use Rattle.gd_verdict.proofs.Ends.{Holds, Empty, Finest, Spent, On, fails_to, low_level, rule_of, spent_fits, undecided_fits}
use Rattle.gd_verdict.specs.Trees.{tree}
use Rattle.gd_verdict.specs.Verdict.{IsVerdict, Open, Rejected, centres, counts_of, end_at, end_with, spent, undecided}

pub or_false : (a b : Bool) → (a || b) ≡ false → (a ≡ false) × (b ≡ false)
or_false true b h = absurd cc
or_false false b h = (refl, h)

-- ---- a level at which it stays open
record StaysOpen (q : Questions) (h : Option Witness) (lines : List Node) (l u s budget : ℕ) (tree : List Node) (o : Counts) : Type 0 where
  fails : h ≡ None
  some : u ≢ 0
  same_tree : tree ≡ lines
  same_level : o.level ≡ l
  same_undecided : o.undecided ≡ u
  same_spent : o.spent ≡ s
  reasons : is_wrong_reason q.grid budget o o.reason ≡ false

stays_as : (q : Questions) (h : Option Witness) (lines : List Node) (l u s budget : ℕ) (tree : List Node) (o p : Counts) → h ≡ None → u ≢ 0 → tree ≡ lines → p ≡ o →
    StaysOpen q None lines l u s budget lines p → StaysOpen q h lines l u s budget tree o
stays_as q h lines l u s budget tree o p fails some trees same there = record {
  fails = fails;
  some = some;
  same_tree = trees;
  same_level = ap (λ (c : Counts). c.level) (sym same) ∙ there.same_level;
  same_undecided = ap (λ (c : Counts). c.undecided) (sym same) ∙ there.same_undecided;
  same_spent = ap (λ (c : Counts). c.spent) (sym same) ∙ there.same_spent;
  reasons = subst (λ (c : Counts). is_wrong_reason q.grid budget c c.reason ≡ false) same there.reasons;
}

at_floor : (q : Questions) (lines : List Node) (l u s budget : ℕ) → u ≢ 0 → l ≡ q.grid.finest → StaysOpen q None lines l u s budget lines (counts_of l u s reason.Floor)
at_floor q lines l u s budget some there =
    let is : nat_eq l q.grid.finest ≡ true = grind (arith, nat_tests) in
    record { fails = refl; some = some; same_tree = refl; same_level = refl; same_undecided = refl; same_spent = refl; reasons = rw is refl }

over_budget : (q : Questions) (lines : List Node) (l u s budget : ℕ) → u ≢ 0 → l ≢ q.grid.finest → budget < s + u → StaysOpen q None lines l u s budget lines (counts_of l u s reason.Budget)
over_budget q lines l u s budget some above over =
    let is : nat_eq l q.grid.finest ≡ false = grind (arith, nat_tests, above) in
    let n : nat_le (s + u) budget ≡ false = grind (arith, nat_tests) in
    record { fails = refl; some = some; same_tree = refl; same_level = refl; same_undecided = refl; same_spent = refl; reasons = rw (n, is) refl }

stays_open : (q : Questions) (h : Option Witness) (lines : List Node) (l u s roots budget : ℕ) (tree : List Node) (o : Counts) →
    end_with h lines l u s roots q.grid.finest budget ≡ Some (Open tree o) → StaysOpen q h lines l u s budget tree o
stays_open q h lines l u s roots budget tree o e = elim (rule_of h lines l u s roots q.grid.finest budget) [
  | Holds w is r ↦ absurd cc
  | Empty n z r ↦ absurd cc
  | Finest n z f r ↦ stays_as q h lines l u s budget tree o (counts_of l u s reason.Floor) n z (cc) (cc) (at_floor q lines l u s budget z f)
  | Spent n z f b r ↦ stays_as q h lines l u s budget tree o (counts_of l u s reason.Budget) n z (cc) (cc) (over_budget q lines l u s budget z f b)
  | On g r ↦ absurd cc
]

stays_by : (q : Questions) (lines : List Node) (l u s roots budget : ℕ) (why : Reason) → u ≢ 0 → is_wrong_reason q.grid budget (counts_of l u s why) why ≡ false →
    end_with None lines l u s roots q.grid.finest budget ≡ Some (Open lines (counts_of l u s why))
stays_by q lines l u s roots budget reason.Floor some reasons =
    let a : nat_eq u 0 ≡ false = grind (arith, nat_tests, some) in
    let b : nat_eq l q.grid.finest ≡ true = grind (arith, nat_tests, reasons) in
    rw (a, b) refl
stays_by q lines l u s roots budget reason.Budget some reasons =
    let two = or_false (nat_le (s + u) budget) (nat_eq l q.grid.finest) reasons in
    let a : nat_eq u 0 ≡ false = grind (arith, nat_tests, some) in
    let c : nat_lt budget (s + u) ≡ true = grind (arith, nat_tests, two.0) in
    rw (a, two.1, c) refl

pub staying : (q : Questions) (lines : List Node) (o : Counts) (roots budget : ℕ) → o.undecided ≢ 0 → is_wrong_reason q.grid budget o o.reason ≡ false →
    end_with None lines o.level o.undecided o.spent roots q.grid.finest budget ≡ Some (Open lines o)
staying q lines o roots budget some reasons = stays_by q lines o.level o.undecided o.spent roots budget o.reason some reasons

-- ---- a level at which it rejects
record Rejects (lines : List Node) (u : ℕ) (tree : List Node) : Type 0 where
  empty : u ≡ 0
  same_tree : tree ≡ lines

rejects_at : (h : Option Witness) (lines : List Node) (l u s roots finest budget leaves : ℕ) (tree : List Node) → end_with h lines l u s roots finest budget ≡ Some (Rejected leaves tree) → Rejects lines u tree
rejects_at h lines l u s roots finest budget leaves tree e = elim (rule_of h lines l u s roots finest budget) [
  | Holds w is r ↦ absurd cc
  | Empty n z r ↦ record { empty = z; same_tree = cc }
  | Finest n z f r ↦ absurd cc
  | Spent n z f b r ↦ absurd cc
  | On g r ↦ absurd cc
]

-- ---- what a verdict tells of its level, and of those before it
pub record IsRejectedAt (q : Questions) (budget : ℕ) (lines : List Node) : Type 0 where
  pub level : ℕ
  pub low : level ≤ q.grid.finest
  pub empty : length (undecided q level) ≡ 0
  pub affords : spent q level ≤ budget
  pub same : lines ≡ tree q level

pub rejected_at : (q : Questions) (budget leaves : ℕ) (lines : List Node) → IsVerdict q budget (Rejected leaves lines) → IsRejectedAt q budget lines
unfolding end_at
rejected_at q budget leaves lines is =
    let there : Rejects (tree q is.0) (length (undecided q is.0)) lines = rejects_at (find q.tests.holds (centres q is.0)) (tree q is.0) is.0 (length (undecided q is.0)) (spent q is.0) q.grid.roots q.grid.finest budget leaves lines is.2 in
    record { level = is.0; low = low_level q budget is.0 is.1; empty = there.empty; affords = spent_fits q budget is.0 is.1; same = there.same_tree }

pub record IsOpenAt (q : Questions) (budget : ℕ) (lines : List Node) (o : Counts) : Type 0 where
  pub low : o.level ≤ q.grid.finest
  pub fails : (m : ℕ) → m ≤ o.level → find q.tests.holds (centres q m) ≡ None
  pub lefts : o.undecided ≡ length (undecided q o.level)
  pub splits : o.spent ≡ spent q o.level
  pub some : o.undecided ≢ 0
  pub few : o.undecided ≤ 2 * budget + 4
  pub affords : o.spent ≤ budget
  pub reasons : is_wrong_reason q.grid budget o o.reason ≡ false
  pub same : lines ≡ tree q o.level

open_there : (q : Questions) → IsGrid q.grid → (budget : ℕ) (lines : List Node) (o : Counts) → ((m : ℕ) → m < o.level → end_at q budget m ≡ None) →
    StaysOpen q (find q.tests.holds (centres q o.level)) (tree q o.level) o.level (length (undecided q o.level)) (spent q o.level) budget lines o → IsOpenAt q budget lines o
open_there q grid budget lines o before stays = record {
  low = low_level q budget o.level before;
  fails = fails_to q budget o.level before stays.fails;
  lefts = stays.same_undecided;
  splits = stays.same_spent;
  some = λ zero_there. stays.some (sym stays.same_undecided ∙ zero_there);
  few = omega (arith, stays.same_undecided, undecided_fits q grid budget o.level before);
  affords = omega (arith, stays.same_spent, spent_fits q budget o.level before);
  reasons = stays.reasons;
  same = stays.same_tree;
}

pub open_at : (q : Questions) → IsGrid q.grid → (budget : ℕ) (lines : List Node) (o : Counts) → IsVerdict q budget (Open lines o) → IsOpenAt q budget lines o
unfolding end_at
open_at q grid budget lines o end =
    let there : StaysOpen q (find q.tests.holds (centres q end.0)) (tree q end.0) end.0 (length (undecided q end.0)) (spent q end.0) budget lines o =
    stays_open q (find q.tests.holds (centres q end.0)) (tree q end.0) end.0 (length (undecided q end.0)) (spent q end.0) q.grid.roots budget lines o end.2 in
    let same : end.0 ≡ o.level = sym there.same_level in
    open_there q grid budget lines o
    (subst (λ l. (m : ℕ) → m < l → end_at q budget m ≡ None) same end.1)
    (subst (λ l. StaysOpen q (find q.tests.holds (centres q l)) (tree q l) l (length (undecided q l)) (spent q l) budget lines o) same there)
