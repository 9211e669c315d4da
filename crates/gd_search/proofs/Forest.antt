-- What was found in the cells of each level spells the tree.
use Rattle.std.proofs.Common.{arith, ◌≡◌, refl, sym, ap, ◌∙◌, ℕ, zero, suc, ◌+◌, ◌*◌, ◌≤◌, Some, None, is_none, cond, List, [], ◌∷◌, ◌++◌, length, map, replicate, append_assoc}
use Rattle.std.proofs.lemmas.List.{map-append}
use Rattle.std.specs.List.{flat_map}
use Rattle.gd_cells.specs.Grid.{cell_of, count_from}
use Rattle.gd_cells.specs.Laws.{IsGrid}
use Rattle.gd_cells.specs.Meaning.{Questions}
use Rattle.gd_cells.specs.declared.cell.Cell.{Cell}
use Rattle.gd_verdict.proofs.Below.{candidates_by_roots, cells_below}
use Rattle.gd_verdict.proofs.Levels.{candidates}
use Rattle.gd_search.specs.Lines.{Found, Written, written, written_roots}
use Rattle.gd_verdict.specs.Trees.{last_line, tree, tree_below, with_halves}
use Rattle.gd_cells.specs.declared.node.Node.{Node}
use Rattle.gd_cells.specs.declared.node.Node.TheVariants.{Refuted}

-- no items
abbrev pub no_items : (X : Type 0) → List X
no_items X = []

-- ---- lists joined one by one
abbrev pub joined : {X : Type 0} → List (List X) → List (List X) → List (List X)
joined [] yss = []
joined (xs ∷ xss) [] = []
joined (xs ∷ xss) (ys ∷ yss) = (xs ++ ys) ∷ joined xss yss

joined_assoc : {X : Type 0} (xss yss zss : List (List X)) → joined (joined xss yss) zss ≡ joined xss (joined yss zss)
joined_assoc [] yss zss = refl
joined_assoc (xs ∷ xss) [] zss = refl
joined_assoc (xs ∷ xss) (ys ∷ yss) [] = refl
joined_assoc (xs ∷ xss) (ys ∷ yss) (zs ∷ zss) =
    let e : (xs ++ ys) ++ zs ≡ xs ++ (ys ++ zs) = simp append_assoc in
    ap (λ vs. vs ∷ joined (joined xss yss) zss) e ∙ ap (λ vss. (xs ++ (ys ++ zs)) ∷ vss) (joined_assoc xss yss zss)

joined_none : {X : Type 0} (n : ℕ) (yss : List (List X)) → length yss ≡ n → joined (replicate n []) yss ≡ yss
joined_none zero [] h = refl
joined_none zero (ys ∷ yss) h = absurd (omega arith)
joined_none (suc n) [] h = absurd (omega arith)
joined_none (suc n) (ys ∷ yss) h = ap (λ vss. ys ∷ vss) (joined_none n yss (omega arith))

length-joined : {X : Type 0} (n : ℕ) (xss yss : List (List X)) → length xss ≡ n → length yss ≡ n → length (joined xss yss) ≡ n
length-joined n [] yss h i = h
length-joined n (xs ∷ xss) [] h i = i
length-joined zero (xs ∷ xss) (ys ∷ yss) h i = absurd (omega arith)
length-joined (suc n) (xs ∷ xss) (ys ∷ yss) h i = ap suc (length-joined n xss yss (omega arith) (omega arith))

joined_maps : {X : Type 0} (f g : ℕ → List X) (js : List ℕ) → joined (map f js) (map g js) ≡ map (λ j. f j ++ g j) js
joined_maps f g [] = refl
joined_maps f g (j ∷ js) = ap (λ vss. (f j ++ g j) ∷ vss) (joined_maps f g js)

map-same : {X : Type 0} (f g : ℕ → X) → ((j : ℕ) → f j ≡ g j) → (js : List ℕ) → map f js ≡ map g js
map-same f g e [] = refl
map-same f g e (j ∷ js) = rw (e j, map-same f g e js) refl

shifted : {X : Type 0} (f : ℕ → X) (a n : ℕ) → map f (count_from (a + 1) n) ≡ map (λ j. f (suc j)) (count_from a n)
shifted f a zero = refl
shifted f a (suc n) = let e : a + 1 ≡ suc a = omega arith in ap (λ x. x ∷ map f (count_from (a + 1 + 1) n)) (ap f e) ∙ ap (λ xs. f (suc a) ∷ xs) (shifted f (a + 1) n)

none_each : (X : Type 0) (a n : ℕ) → map (λ (j : ℕ). no_items X) (count_from a n) ≡ replicate n []
none_each X a zero = refl
none_each X a (suc n) = ap (λ xss. [] ∷ xss) (none_each X (a + 1) n)

-- ---- what was found under a cell, level by level
abbrev pub under : Found → ℕ → List (List Found) → List (List Found)
under (Some e) depth lists = replicate (suc depth) []
under None depth lists = lists

abbrev pub found_below : Questions → ℕ → ℕ → ℕ → ℕ → List (List Found)
found_below q zero r l p = (q.tests.first (cell_of q.grid r l p) ∷ []) ∷ []
found_below q (suc depth) r l p =
    (q.tests.first (cell_of q.grid r l p) ∷ []) ∷ under (q.tests.first (cell_of q.grid r l p)) depth (joined (found_below q depth r (suc l) (2 * p)) (found_below q depth r (suc l) (2 * p + 1)))

length-replicate : {X : Type 0} (n : ℕ) (x : X) → length (replicate n x) ≡ n
length-replicate zero x = refl
length-replicate (suc n) x = ap suc (length-replicate n x)

length-found : (q : Questions) (depth r l p : ℕ) → length (found_below q depth r l p) ≡ suc depth
length-found q zero r l p = refl
length-found q (suc depth) r l p =
    elim (q.tests.first (cell_of q.grid r l p)) as (λ v. suc (length (under v depth (joined (found_below q depth r (suc l) (2 * p)) (found_below q depth r (suc l) (2 * p + 1))))) ≡ suc (suc depth)) [
      | Some e ↦ ap suc (length-replicate (suc depth) [])
      | None ↦ ap suc (length-joined (suc depth) (found_below q depth r (suc l) (2 * p)) (found_below q depth r (suc l) (2 * p + 1)) (length-found q depth r (suc l) (2 * p)) (length-found q depth r (suc l) (2 * p + 1)))
    ]

found_is : (q : Questions) (depth r l p : ℕ) → found_below q depth r l p ≡ map (λ j. map q.tests.first (cells_below q j r l p)) (count_from 0 (suc depth))
found_is q zero r l p = refl
found_is q (suc depth) r l p =
    let lower : ℕ → List Cell = λ j. cells_below q j r (suc l) (2 * p) in
    let upper : ℕ → List Cell = λ j. cells_below q j r (suc l) (2 * p + 1) in
    let f : Found = q.tests.first (cell_of q.grid r l p) in
    let s : map (λ j. map q.tests.first (cells_below q j r l p)) (count_from (0 + 1) (suc depth)) ≡ map (λ j. map q.tests.first (cond (is_none f) (lower j ++ upper j) [])) (count_from 0 (suc depth)) =
    shifted (λ j. map q.tests.first (cells_below q j r l p)) 0 (suc depth) in
    let b : under f depth (joined (found_below q depth r (suc l) (2 * p)) (found_below q depth r (suc l) (2 * p + 1))) ≡ map (λ j. map q.tests.first (cond (is_none f) (lower j ++ upper j) [])) (count_from 0 (suc depth)) =
    elim f as (λ v. under v depth (joined (found_below q depth r (suc l) (2 * p)) (found_below q depth r (suc l) (2 * p + 1))) ≡ map (λ j. map q.tests.first (cond (is_none v) (lower j ++ upper j) [])) (count_from 0 (suc depth))) [
      | Some e ↦ sym (none_each Found 0 (suc depth))
      | None ↦
          ap (λ xss. joined xss (found_below q depth r (suc l) (2 * p + 1))) (found_is q depth r (suc l) (2 * p))
          ∙ ap (λ xss. joined (map (λ j. map q.tests.first (lower j)) (count_from 0 (suc depth))) xss) (found_is q depth r (suc l) (2 * p + 1))
          ∙ joined_maps (λ j. map q.tests.first (lower j)) (λ j. map q.tests.first (upper j)) (count_from 0 (suc depth))
          ∙ map-same (λ j. map q.tests.first (lower j) ++ map q.tests.first (upper j)) (λ j. map q.tests.first (lower j ++ upper j)) (λ j. sym (map-append q.tests.first (lower j) (upper j))) (count_from 0 (suc depth))
    ] in
    ap (λ xss. (f ∷ []) ∷ xss) (b ∙ sym s)

-- ---- it spells the lines of the cell
abbrev written_as : List Node → List (List Found) → Written
written_as lines rest = record { lines = lines; rest = rest }

written_cell : (q : Questions) (depth r l p : ℕ) (rest : List (List Found)) → length rest ≡ suc depth →
    written (suc depth) (joined (found_below q depth r l p) rest) ≡ record { lines = tree_below q depth r l p; rest = rest }
written_cell q depth r l p [] h = absurd (omega arith)
written_cell q zero r l p (xs ∷ ys ∷ rest) h = absurd (omega arith)
written_cell q zero r l p (xs ∷ []) h =
    elim (q.tests.first (cell_of q.grid r l p)) as (λ v. written 1 ((v ∷ xs) ∷ []) ≡ record { lines = last_line v ∷ []; rest = xs ∷ [] }) [ Some e ↦ refl | None ↦ refl ]
written_cell q (suc depth) r l p (xs ∷ rest) h =
    let lower : List (List Found) = found_below q depth r (suc l) (2 * p) in
    let upper : List (List Found) = found_below q depth r (suc l) (2 * p + 1) in
    let lower_lines : List Node = tree_below q depth r (suc l) (2 * p) in
    let upper_lines : List Node = tree_below q depth r (suc l) (2 * p + 1) in
    let n : length rest ≡ suc depth = omega arith in
    elim (q.tests.first (cell_of q.grid r l p)) as (λ v. written (suc (suc depth)) ((v ∷ xs) ∷ joined (under v depth (joined lower upper)) rest) ≡ record { lines = with_halves v (lower_lines ++ upper_lines); rest = xs ∷ rest }) [
      | Some e ↦ ap (λ left. written_as (Refuted e ∷ []) (xs ∷ left)) (joined_none (suc depth) rest n)
      | None ↦
          let a : written (suc depth) (joined (joined lower upper) rest) ≡ record { lines = lower_lines; rest = joined upper rest } =
          ap (written (suc depth)) (joined_assoc lower upper rest) ∙ written_cell q depth r (suc l) (2 * p) (joined upper rest) (length-joined (suc depth) upper rest (length-found q depth r (suc l) (2 * p + 1)) n) in
          let b : written (suc depth) (joined upper rest) ≡ record { lines = upper_lines; rest = rest } = written_cell q depth r (suc l) (2 * p + 1) rest n in
          rw (a, b) refl
    ]

-- ---- all roots
abbrev pub forest : Questions → ℕ → ℕ → ℕ → List (List Found)
forest q level a zero = replicate (suc level) []
forest q level a (suc n) = joined (found_below q level a 0 0) (forest q level (a + 1) n)

length-forest : (q : Questions) (level a n : ℕ) → length (forest q level a n) ≡ suc level
length-forest q level a zero = length-replicate (suc level) []
length-forest q level a (suc n) = length-joined (suc level) (found_below q level a 0 0) (forest q level (a + 1) n) (length-found q level a 0 0) (length-forest q level (a + 1) n)

written_forest : (q : Questions) (level a n : ℕ) → written_roots n (suc level) (forest q level a n) ≡ flat_map (λ r. tree_below q level r 0 0) (count_from a n)
written_forest q level a zero = refl
written_forest q level a (suc n) =
    rw (written_cell q level a 0 0 (forest q level (a + 1) n) (length-forest q level (a + 1) n)) (ap (λ lines. tree_below q level a 0 0 ++ lines) (written_forest q level (a + 1) n))

forest_is : (q : Questions) (level a n : ℕ) → forest q level a n ≡ map (λ j. map q.tests.first (flat_map (λ r. cells_below q j r 0 0) (count_from a n))) (count_from 0 (suc level))
forest_is q level a zero = sym (none_each Found 0 (suc level))
forest_is q level a (suc n) =
    let here : ℕ → List Found = λ j. map q.tests.first (cells_below q j a 0 0) in
    let more : ℕ → List Cell = λ j. flat_map (λ r. cells_below q j r 0 0) (count_from (a + 1) n) in
    ap (λ xss. joined xss (forest q level (a + 1) n)) (found_is q level a 0 0)
    ∙ ap (joined (map here (count_from 0 (suc level)))) (forest_is q level (a + 1) n)
    ∙ joined_maps here (λ j. map q.tests.first (more j)) (count_from 0 (suc level))
    ∙ map-same (λ j. here j ++ map q.tests.first (more j)) (λ j. map q.tests.first (cells_below q j a 0 0 ++ more j)) (λ j. sym (map-append q.tests.first (cells_below q j a 0 0) (more j))) (count_from 0 (suc level))

-- ---- what the levels keep
abbrev pub kept : Questions → ℕ → List (List Found)
kept q n = map (λ j. map q.tests.first (candidates q j)) (count_from 0 n)

kept_from : (q : Questions) → IsGrid q.grid → (a n : ℕ) → a + n ≤ suc q.grid.finest → map (λ j. map q.tests.first (candidates q j)) (count_from a n) ≡ map (λ j. map q.tests.first (flat_map (λ r. cells_below q j r 0 0) (count_from 1 q.grid.roots))) (count_from a n)
kept_from q grid a zero low = refl
kept_from q grid a (suc n) low = rw (candidates_by_roots q grid a (omega arith), kept_from q grid (a + 1) n (omega arith)) refl

pub spells_tree : (q : Questions) → IsGrid q.grid → (level : ℕ) → level ≤ q.grid.finest → written_roots q.grid.roots (suc level) (kept q (suc level)) ≡ tree q level
unfolding tree
spells_tree q grid level low =
    ap (written_roots q.grid.roots (suc level)) (kept_from q grid 0 (suc level) (omega arith) ∙ sym (forest_is q level 1 q.grid.roots)) ∙ written_forest q level 1 q.grid.roots
