-- What stands below a cell: the cells that its halves are, and how many of them are undecided.
use Rattle.std.proofs.Common.{arith, ◌≡◌, refl, ◌∙◌, subst, ℕ, zero, suc, ◌+◌, ◌*◌, ◌^◌, ◌<◌, ◌≤◌, true, false, Some, None, is_none, pow-suc, List, [], ◌∷◌, filter}
use Rattle.gd_cells.specs.Laws.{NoneRefutes}
use Rattle.gd_cells.specs.Grid.{IsCell, cell_of}
use Rattle.gd_cells.specs.Meaning.{Questions}
use Rattle.gd_cells.specs.declared.cell.Cell.{Cell}
use Rattle.gd_cells.specs.declared.cell.Evidence.{Evidence}
use Rattle.gd_verdict.proofs.Counted.{left_below, left_in, left_in-append, total, total-add, total-first, total-none, total-same}
use Rattle.gd_verdict.proofs.Below.{cells_below}
use Rattle.gd_verdict.proofs.Levels.{is_left}
use Rattle.gd_verdict.proofs.Meant.{cell_at_path}

-- ---- the cells of the grid, by root, level and path
pub record IsPath (q : Questions) (r l p : ℕ) : Type 0 where
  pub first : 1 ≤ r
  pub last : r ≤ q.grid.roots
  pub low : l ≤ q.grid.finest
  pub within : p < 2 ^ l

pub cell_of_path : (q : Questions) (r l p : ℕ) → IsPath q r l p → IsCell q.grid (cell_of q.grid r l p)
cell_of_path q r l p path = cell_at_path q r l p path.first path.last path.low path.within

pub half_path : (q : Questions) (r l p side : ℕ) → IsPath q r l p → l < q.grid.finest → side < 2 → IsPath q r (suc l) (2 * p + side)
half_path q r l p side path above small = record { first = path.first; last = path.last; low = omega arith; within = omega (arith, pow-suc 2 l, path.within) }

pub lower_path : (q : Questions) (r l p : ℕ) → IsPath q r l p → l < q.grid.finest → IsPath q r (suc l) (2 * p)
lower_path q r l p path above = let e : 2 * p + 0 ≡ 2 * p = omega arith in subst (IsPath q r (suc l)) e (half_path q r l p 0 path above (omega arith))

pub root_path : (q : Questions) (r : ℕ) → 1 ≤ r → r ≤ q.grid.roots → IsPath q r 0 0
root_path q r first last = record { first = first; last = last; low = omega arith; within = omega arith }

-- ---- a cell that some evidence refutes has no undecided cell below it
pub has_first : (q : Questions) → NoneRefutes q → (c : Cell) (e : Evidence) → IsCell q.grid c → q.tests.refuted c e ≡ true → is_left q c ≡ false
has_first q none c e cell is =
    elim (q.tests.first c) as (λ v. q.tests.first c ≡ v → is_none v ≡ false) [
      | Some f ↦ λ h. refl
      | None ↦ λ h. let no : q.tests.refuted c e ≡ false = none c e cell h in absurd cc
    ] refl

pub still_left : (q : Questions) (c : Cell) → q.tests.first c ≡ None → is_left q c ≡ true
still_left q c h = rw h refl

pub nothing_below : (q : Questions) (r l p : ℕ) → is_left q (cell_of q.grid r l p) ≡ false → (j : ℕ) → filter (is_left q) (cells_below q j r l p) ≡ []
nothing_below q r l p h zero = rw h refl
nothing_below q r l p h (suc j) = rw h refl

-- ---- how many cells are undecided so many levels below a cell
pub none_in : (q : Questions) (cs : List Cell) → filter (is_left q) cs ≡ [] → left_in q cs ≡ 0
unfolding left_in
none_in q cs h = rw h refl

pub one_in : (q : Questions) (c : Cell) → is_left q c ≡ true → left_in q (c ∷ []) ≡ 1
unfolding left_in
one_in q c h = rw h refl

pub none_counted : (q : Questions) (r l p : ℕ) → is_left q (cell_of q.grid r l p) ≡ false → (j : ℕ) → left_below q r l p j ≡ 0
unfolding left_below
none_counted q r l p h j = none_in q (cells_below q j r l p) (nothing_below q r l p h j)

pub here_counted : (q : Questions) (r l p : ℕ) → is_left q (cell_of q.grid r l p) ≡ true → left_below q r l p 0 ≡ 1
unfolding left_below
here_counted q r l p h = one_in q (cell_of q.grid r l p) h

pub halves_counted : (q : Questions) (r l p : ℕ) → is_left q (cell_of q.grid r l p) ≡ true → (j : ℕ) → left_below q r l p (suc j) ≡ left_below q r (suc l) (2 * p) j + left_below q r (suc l) (2 * p + 1) j
unfolding left_below
halves_counted q r l p h j = rw h (left_in-append q (cells_below q j r (suc l) (2 * p)) (cells_below q j r (suc l) (2 * p + 1)))

-- and above that level
pub none_spent : (q : Questions) (r l p : ℕ) → is_left q (cell_of q.grid r l p) ≡ false → (j : ℕ) → total (left_below q r l p) j ≡ 0
none_spent q r l p h j = total-same (left_below q r l p) (λ i. 0) j (λ i low. none_counted q r l p h i) ∙ total-none j

pub halves_spent : (q : Questions) (r l p : ℕ) → is_left q (cell_of q.grid r l p) ≡ true → (j : ℕ) → total (left_below q r l p) (suc j) ≡ suc (total (left_below q r (suc l) (2 * p)) j + total (left_below q r (suc l) (2 * p + 1)) j)
halves_spent q r l p h j =
    let lower : ℕ → ℕ = left_below q r (suc l) (2 * p) in
    let upper : ℕ → ℕ = left_below q r (suc l) (2 * p + 1) in
    omega (
      arith,
      total-first (left_below q r l p) j,
      here_counted q r l p h,
      total-same (λ i. left_below q r l p (suc i)) (λ i. lower i + upper i) j (λ i low. halves_counted q r l p h i),
      total-add lower upper j,
    )
