-- The undecided cells of a level, from those of the level before.
use Rattle.std.proofs.Common.{add-one, ◌<◌, ◌≤◌, ℕ, zero, suc, ◌+◌, ◌*◌, ◌/◌, ◌^◌, ◌≡◌, refl, sym, ap, ◌∙◌, Bool, true, false, cond, is_none, List, [], ◌∷◌, ◌++◌, map, filter, arith, length}
use Rattle.std.proofs.Math.Nat.{pow-suc}
use Rattle.std.specs.List.{All, flat_map}
use Rattle.std.proofs.lemmas.List.{length-map}
use Rattle.std.proofs.lemmas.List.Elements.{All-cons, All-nil}
use Rattle.std.proofs.lemmas.Simd.{map-map}
use Rattle.gd_cells.proofs.Cells.{halves_are_cells, halves_at, root_at, root_is_cell}
use Rattle.gd_cells.specs.Grid.{Grid, IsCell, cell_of, count_from}
use Rattle.gd_cells.specs.Halves.{half, halves, whole_root}
use Rattle.gd_cells.specs.Laws.{IsGrid}
use Rattle.gd_cells.specs.Meaning.{Questions}
use Rattle.gd_cells.specs.declared.cell.Cell.{Cell}
use Rattle.gd_verdict.proofs.Lists.{all_flat_map, filter-map, filter_and, flat_map_flat}
use Rattle.gd_verdict.specs.Verdict.{cells, centres, is_undecided, undecided}

-- a cell of a level of the grid
abbrev pub IsAt : Questions → ℕ → Cell → Type 0
IsAt q level c = IsCell q.grid c × (c.level ≡ level)

-- ---- the cells that a level bounds
abbrev pub is_left : Questions → Cell → Bool
is_left q c = is_none (q.tests.first c)

abbrev pub both_halves : Questions → Cell → List Cell
both_halves q c = (halves q.grid c).0 ∷ (halves q.grid c).1 ∷ []

abbrev pub halves_left : Questions → Cell → List Cell
halves_left q c = cond (is_left q c) (both_halves q c) []

unfoldable pub candidates : Questions → ℕ → List Cell
candidates q zero = map whole_root (count_from 1 q.grid.roots)
candidates q (suc l) = flat_map (halves_left q) (candidates q l)

left_halves : (q : Questions) (cs : List Cell) → flat_map (both_halves q) (filter (is_left q) cs) ≡ flat_map (halves_left q) cs
left_halves q [] = refl
left_halves q (c ∷ cs) =
    elim (is_left q c) as (λ v. flat_map (both_halves q) (cond v (c ∷ filter (is_left q) cs) (filter (is_left q) cs)) ≡ cond v (both_halves q c) [] ++ flat_map (halves_left q) cs)
    [ true ↦ ap (λ ds. (halves q.grid c).0 ∷ (halves q.grid c).1 ∷ ds) (left_halves q cs) | false ↦ left_halves q cs ]

-- the two cells below a cell, by root and path
abbrev pub kids : ℕ × ℕ → List (ℕ × ℕ)
kids c = (c.0, 2 * c.1) ∷ (c.0, 2 * c.1 + 1) ∷ []

paths-double : (r n a : ℕ) → map (λ p. (r, p)) (count_from (2 * a) (2 * n)) ≡ flat_map kids (map (λ p. (r, p)) (count_from a n))
paths-double r zero a = refl
paths-double r (suc n) a =
    let e : 2 * suc n ≡ suc (suc (2 * n)) = omega arith in
    let f : 2 * a + 1 + 1 ≡ 2 * (a + 1) = omega arith in
    rw (e, f) (ap (λ xs. (r, 2 * a) ∷ (r, 2 * a + 1) ∷ xs) (paths-double r n (a + 1)))

pub cells-suc : (g : Grid) (l : ℕ) → cells g (suc l) ≡ flat_map kids (cells g l)
unfolding cells
cells-suc g l = flat_map_flat _ kids _ (λ r. ap (λ n. map (λ p. (r, p)) (count_from 0 n)) (pow-suc 2 l ∙ omega arith) ∙ paths-double r (2 ^ l) 0) (count_from 1 g.roots)

filter_kids : (p : ℕ × ℕ → Bool) (xs : List (ℕ × ℕ)) → filter (λ c. p (c.0, c.1 / 2)) (flat_map kids xs) ≡ flat_map kids (filter p xs)
filter_kids p [] = refl
filter_kids p (x ∷ xs) =
    let e : 2 * x.1 / 2 ≡ x.1 = omega arith in
    let f : (2 * x.1 + 1) / 2 ≡ x.1 = omega arith in
    rw (e, f)
    (elim (p x) as (λ v. cond v ((x.0, 2 * x.1) ∷ cond v ((x.0, 2 * x.1 + 1) ∷ filter (λ c. p (c.0, c.1 / 2)) (flat_map kids xs)) (filter (λ c. p (c.0, c.1 / 2)) (flat_map kids xs))) (cond v ((x.0, 2 * x.1 + 1) ∷ filter (λ c. p (c.0, c.1 / 2)) (flat_map kids xs)) (filter (λ c. p (c.0, c.1 / 2)) (flat_map kids xs))) ≡ flat_map kids (cond v (x ∷ filter p xs) (filter p xs)))
    [ true ↦ ap (λ ys. (x.0, 2 * x.1) ∷ (x.0, 2 * x.1 + 1) ∷ ys) (filter_kids p xs) | false ↦ filter_kids p xs ])

-- ---- the undecided cells are the candidates that nothing refutes
cells_kids : (q : Questions) → IsGrid q.grid → (l : ℕ) → l < q.grid.finest → (cs : List (ℕ × ℕ)) → map (λ c. cell_of q.grid c.0 (suc l) c.1) (flat_map kids cs) ≡ flat_map (both_halves q) (map (λ c. cell_of q.grid c.0 l c.1) cs)
cells_kids q grid l above [] = refl
cells_kids q grid l above (c ∷ cs) =
    ap (λ xs. cell_of q.grid c.0 (suc l) (2 * c.1) ∷ cell_of q.grid c.0 (suc l) (2 * c.1 + 1) ∷ xs) (cells_kids q grid l above cs)
    ∙ ap (λ (h : Cell × Cell). h.0 ∷ h.1 ∷ flat_map (both_halves q) (map (λ c. cell_of q.grid c.0 l c.1) cs)) (sym (halves_at q.grid grid c.0 l c.1 above))

roots_are : (q : Questions) → IsGrid q.grid → (a n : ℕ) → map (λ (c : ℕ × ℕ). cell_of q.grid c.0 0 c.1) (flat_map (λ r. map (λ p. (r, p)) (count_from 0 (2 ^ 0))) (count_from a n)) ≡ map whole_root (count_from a n)
roots_are q grid a zero = refl
roots_are q grid a (suc n) = rw (root_at q.grid grid a) (ap (λ cs. whole_root a ∷ cs) (roots_are q grid (a + 1) n))

pub undecided_are : (q : Questions) → IsGrid q.grid → (l : ℕ) → l ≤ q.grid.finest → map (λ c. cell_of q.grid c.0 l c.1) (undecided q l) ≡ filter (is_left q) (candidates q l)
unfolding undecided candidates
undecided_are q grid zero low =
    sym (filter-map (is_left q) (λ c. cell_of q.grid c.0 0 c.1) (cells q.grid 0)) ∙ ap (filter (is_left q)) (unfold cells in roots_are q grid 1 q.grid.roots)
undecided_are q grid (suc l) low =
    let P : ℕ × ℕ → Bool = λ c. is_undecided q c.0 l c.1 in
    let at : ℕ × ℕ → Cell = λ c. cell_of q.grid c.0 (suc l) c.1 in
    let Q : ℕ × ℕ → Bool = λ c. is_left q (at c) in
    let a : filter (λ c. is_undecided q c.0 (suc l) c.1) (cells q.grid (suc l)) ≡ filter Q (flat_map kids (filter P (cells q.grid l))) =
    filter_and (λ c. P (c.0, c.1 / 2)) Q (cells q.grid (suc l)) ∙ ap (filter Q) (ap (filter (λ c. P (c.0, c.1 / 2))) (cells-suc q.grid l) ∙ filter_kids P (cells q.grid l)) in
    let b : map at (flat_map kids (filter P (cells q.grid l))) ≡ flat_map (halves_left q) (candidates q l) =
    cells_kids q grid l (omega arith) (filter P (cells q.grid l)) ∙ ap (flat_map (both_halves q)) (undecided_are q grid l (omega arith)) ∙ left_halves q (candidates q l) in
    ap (map at) a ∙ sym (filter-map (is_left q) at (flat_map kids (filter P (cells q.grid l)))) ∙ ap (filter (is_left q)) b

pub centres_are : (q : Questions) → IsGrid q.grid → (l : ℕ) → l ≤ q.grid.finest → centres q l ≡ map q.tests.centre (filter (is_left q) (candidates q l))
unfolding centres
centres_are q grid l low = sym (map-map q.tests.centre (λ c. cell_of q.grid c.0 l c.1) (undecided q l)) ∙ ap (map q.tests.centre) (undecided_are q grid l low)

pub undecided_counted : (q : Questions) → IsGrid q.grid → (l : ℕ) → l ≤ q.grid.finest → length (undecided q l) ≡ length (filter (is_left q) (candidates q l))
undecided_counted q grid l low = sym (length-map (undecided q l) (λ c. cell_of q.grid c.0 l c.1)) ∙ ap length (undecided_are q grid l low)

pub candidates-suc : (q : Questions) (l : ℕ) → candidates q (l + 1) ≡ flat_map (halves_left q) (candidates q l)
unfolding candidates
candidates-suc q l = rw add-one refl

pub candidates-zero : (q : Questions) → candidates q 0 ≡ map whole_root (count_from 1 q.grid.roots)
unfolding candidates
candidates-zero q = refl

-- ---- they are cells of the grid
roots_at : (q : Questions) → IsGrid q.grid → (a n : ℕ) → 1 ≤ a → a + n ≤ suc q.grid.roots → All (IsAt q 0) (map whole_root (count_from a n))
roots_at q grid a zero first last = All-nil (IsAt q 0)
roots_at q grid a (suc n) first last =
    All-cons (IsAt q 0) (whole_root a) (map whole_root (count_from (a + 1) n)) (root_is_cell q.grid grid a first (omega arith), refl) (roots_at q grid (a + 1) n (omega arith) (omega arith))

halves_at_next : (q : Questions) → IsGrid q.grid → (l : ℕ) → l < q.grid.finest → (c : Cell) → IsAt q l c → All (IsAt q (suc l)) (halves_left q c)
unfolding half
halves_at_next q grid l above c at =
    let low : c.level < q.grid.finest = omega (arith, at.1) in
    let two = halves_are_cells q.grid grid c at.0 low in
    let s : c.level + 1 ≡ suc l = omega (arith, at.1) in
    elim (is_left q c) as (λ v. All (IsAt q (suc l)) (cond v (both_halves q c) [])) [
      | true ↦ All-cons (IsAt q (suc l)) (half (q.grid.steps c.level) 0 c) (half (q.grid.steps c.level) 1 c ∷ []) (two.0, s)
          (All-cons (IsAt q (suc l)) (half (q.grid.steps c.level) 1 c) [] (two.1, s) (All-nil (IsAt q (suc l))))
      | false ↦ All-nil (IsAt q (suc l))
    ]

pub candidates_at : (q : Questions) → IsGrid q.grid → (l : ℕ) → l ≤ q.grid.finest → All (IsAt q l) (candidates q l)
unfolding candidates
candidates_at q grid zero low = roots_at q grid 1 q.grid.roots (omega arith) (omega arith)
candidates_at q grid (suc l) low = all_flat_map (IsAt q (suc l)) (IsAt q l) (halves_left q) (halves_at_next q grid l (omega arith)) (candidates q l) (candidates_at q grid l (omega arith))

pub next_counted : (q : Questions) (cs : List Cell) → length (flat_map (halves_left q) cs) ≡ 2 * length (filter (is_left q) cs)
next_counted q [] = refl
next_counted q (c ∷ cs) =
    elim (is_left q c) as (λ v. length (cond v (both_halves q c) [] ++ flat_map (halves_left q) cs) ≡ 2 * length (cond v (c ∷ filter (is_left q) cs) (filter (is_left q) cs)))
    [ true ↦ omega (arith, next_counted q cs) | false ↦ next_counted q cs ]
