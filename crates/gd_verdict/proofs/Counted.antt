-- How many cells of a tree are refuted: each split gives one cell more.
use Rattle.std.proofs.Common.{arith, ◌≡◌, refl, ap, ◌∙◌, ℕ, zero, suc, ◌+◌, ◌*◌, ◌<◌, ◌≤◌, Some, None, is_none, cond, List, [], ◌∷◌, ◌++◌, length, filter}
use Rattle.std.proofs.lemmas.List.{length-append}
use Rattle.std.proofs.lemmas.List.Elements.{filter-append}
use Rattle.std.specs.List.{flat_map}
use Rattle.gd_cells.specs.Grid.{cell_of, count_from}
use Rattle.gd_cells.specs.Laws.{IsGrid}
use Rattle.gd_cells.specs.Meaning.{Questions}
use Rattle.gd_cells.specs.Nodes.{is_refuted}
use Rattle.gd_cells.specs.declared.cell.Cell.{Cell}
use Rattle.gd_verdict.proofs.Below.{candidates_by_roots, cells_below}
use Rattle.gd_verdict.proofs.Levels.{is_left, undecided_counted}
use Rattle.gd_verdict.specs.Trees.{last_line, leaves_of, tree, tree_below, with_halves}
use Rattle.gd_verdict.specs.Verdict.{spent, undecided}
use Rattle.gd_cells.specs.declared.node.Node.{Node}

-- ---- sums of the first so many numbers of a row
abbrev pub total : (ℕ → ℕ) → ℕ → ℕ
total f zero = 0
total f (suc n) = total f n + f n

pub total-first : (f : ℕ → ℕ) (n : ℕ) → total f (suc n) ≡ f 0 + total (λ j. f (suc j)) n
total-first f zero = omega arith
total-first f (suc n) = omega (arith, total-first f n)

pub total-same : (f g : ℕ → ℕ) (n : ℕ) → ((j : ℕ) → j < n → f j ≡ g j) → total f n ≡ total g n
total-same f g zero e = refl
total-same f g (suc n) e = omega (arith, total-same f g n (λ j h. e j (omega arith)), e n (omega arith))

pub total-add : (f g : ℕ → ℕ) (n : ℕ) → total (λ j. f j + g j) n ≡ total f n + total g n
total-add f g zero = refl
total-add f g (suc n) = omega (arith, total-add f g n)

pub total-none : (n : ℕ) → total (λ j. 0) n ≡ 0
total-none zero = refl
total-none (suc n) = omega (arith, total-none n)

-- ---- a cell
unfoldable pub left_in : Questions → List Cell → ℕ
left_in q cs = length (filter (is_left q) cs)

pub left_in-append : (q : Questions) (cs ds : List Cell) → left_in q (cs ++ ds) ≡ left_in q cs + left_in q ds
unfolding left_in
left_in-append q cs ds = ap length (filter-append (is_left q) cs ds) ∙ length-append (filter (is_left q) cs) (filter (is_left q) ds)

pub leaves-append : (xs ys : List Node) → leaves_of (xs ++ ys) ≡ leaves_of xs + leaves_of ys
leaves-append xs ys = ap length (filter-append is_refuted xs ys) ∙ length-append (filter is_refuted xs) (filter is_refuted ys)

unfoldable pub left_below : Questions → ℕ → ℕ → ℕ → ℕ → ℕ
left_below q r l p j = left_in q (cells_below q j r l p)

counted_below : (q : Questions) (depth r l p : ℕ) → leaves_of (tree_below q depth r l p) + left_below q r l p depth ≡ total (left_below q r l p) depth + 1
unfolding left_below left_in
counted_below q zero r l p =
    elim (q.tests.first (cell_of q.grid r l p)) as (λ v. leaves_of (last_line v ∷ []) + length (cond (is_none v) (cell_of q.grid r l p ∷ []) []) ≡ 0 + 1) [ Some e ↦ refl | None ↦ refl ]
counted_below q (suc depth) r l p =
    let lower : ℕ → List Cell = λ j. cells_below q j r (suc l) (2 * p) in
    let upper : ℕ → List Cell = λ j. cells_below q j r (suc l) (2 * p + 1) in
    let lower_lines : List Node = tree_below q depth r (suc l) (2 * p) in
    let upper_lines : List Node = tree_below q depth r (suc l) (2 * p + 1) in
    let f : total (left_below q r l p) (suc depth) ≡ left_below q r l p 0 + total (λ j. left_below q r l p (suc j)) depth = total-first (left_below q r l p) depth in
    let b : leaves_of (with_halves (q.tests.first (cell_of q.grid r l p)) (lower_lines ++ upper_lines)) + left_in q (cond (is_left q (cell_of q.grid r l p)) (lower depth ++ upper depth) [])
    ≡ length (cond (is_left q (cell_of q.grid r l p)) (cell_of q.grid r l p ∷ []) []) + total (λ j. left_in q (cond (is_left q (cell_of q.grid r l p)) (lower j ++ upper j) [])) depth + 1 =
    elim (q.tests.first (cell_of q.grid r l p)) as (λ v. leaves_of (with_halves v (lower_lines ++ upper_lines)) + left_in q (cond (is_none v) (lower depth ++ upper depth) []) ≡ length (cond (is_none v) (cell_of q.grid r l p ∷ []) []) + total (λ j. left_in q (cond (is_none v) (lower j ++ upper j) [])) depth + 1) [
      | Some e ↦ omega (arith, total-none depth)
      | None ↦ omega (
        arith,
        leaves-append lower_lines upper_lines,
        left_in-append q (lower depth) (upper depth),
        total-same (λ j. left_in q (lower j ++ upper j)) (λ j. left_in q (lower j) + left_in q (upper j)) depth (λ j h. left_in-append q (lower j) (upper j)),
        total-add (λ j. left_in q (lower j)) (λ j. left_in q (upper j)) depth,
        counted_below q depth r (suc l) (2 * p),
        counted_below q depth r (suc l) (2 * p + 1),
      )
    ] in
    omega (arith, f, b)

pub none_left : (q : Questions) → left_in q [] ≡ 0
unfolding left_in
none_left q = refl

-- ---- all roots
unfoldable pub left_under : Questions → ℕ → ℕ → ℕ → ℕ
left_under q a n j = left_in q (flat_map (λ r. cells_below q j r 0 0) (count_from a n))

counted_roots : (q : Questions) (level a n : ℕ) → leaves_of (flat_map (λ r. tree_below q level r 0 0) (count_from a n)) + left_under q a n level ≡ total (left_under q a n) level + n
unfolding left_under left_below
counted_roots q level a zero = omega (arith, total-same (left_under q a 0) (λ j. 0) level (λ j h. none_left q), total-none level, none_left q)
counted_roots q level a (suc n) =
    let more : ℕ → List Cell = λ j. flat_map (λ r. cells_below q j r 0 0) (count_from (a + 1) n) in
    omega (
      arith,
      leaves-append (tree_below q level a 0 0) (flat_map (λ r. tree_below q level r 0 0) (count_from (a + 1) n)),
      left_in-append q (cells_below q level a 0 0) (more level),
      total-same (λ j. left_in q (cells_below q j a 0 0 ++ more j)) (λ j. left_in q (cells_below q j a 0 0) + left_in q (more j)) level (λ j h. left_in-append q (cells_below q j a 0 0) (more j)),
      total-add (λ j. left_in q (cells_below q j a 0 0)) (λ j. left_in q (more j)) level,
      counted_below q level a 0 0,
      counted_roots q level (a + 1) n,
    )

-- ---- the undecided cells
pub undecided_under : (q : Questions) → IsGrid q.grid → (j : ℕ) → j ≤ q.grid.finest → length (undecided q j) ≡ left_under q 1 q.grid.roots j
unfolding left_under left_in
undecided_under q grid j low = undecided_counted q grid j low ∙ ap (λ cs. length (filter (is_left q) cs)) (candidates_by_roots q grid j low)

pub spent_under : (q : Questions) → IsGrid q.grid → (l : ℕ) → l ≤ suc q.grid.finest → spent q l ≡ total (left_under q 1 q.grid.roots) l
spent_under q grid zero low = refl
spent_under q grid (suc l) low = omega (arith, spent_under q grid l (omega arith), undecided_under q grid l (omega arith))

-- the refuted and the undecided cells of a tree are one more a root than the cells that were split
pub leaves_counted : (q : Questions) → IsGrid q.grid → (level : ℕ) → level ≤ q.grid.finest → leaves_of (tree q level) + length (undecided q level) ≡ spent q level + q.grid.roots
unfolding tree
leaves_counted q grid level low =
    omega (arith, counted_roots q level 1 q.grid.roots, undecided_under q grid level low, spent_under q grid level (omega arith))
