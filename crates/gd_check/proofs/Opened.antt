-- The lines of an open group are right exactly where its tree, its counts and its reason are those of the open verdict.
use Rattle.std.proofs.Common.{arith, ◌≡◌, ◌≢◌, refl, sym, ap, ◌∙◌, subst, ℕ, zero, suc, ◌+◌, ◌*◌, ◌<◌, ◌≤◌, Bool, true, false, not, ◌||◌, Option, Some, None, is_some, cond, nat_le, nat_lt, nat_eq, inl, inr, List, [], ◌∷◌, ◌++◌, length, map, filter, find}
use Rattle.std.proofs.lemmas.Bool.{cases_lt}
use Rattle.std.proofs.lemmas.Bool.Decides.{nat_tests}
use Rattle.std.proofs.lemmas.List.{length-append, map-append}
use Rattle.std.proofs.lemmas.List.Elements.{filter-append}
use Rattle.std.proofs.lemmas.List.Folds.{find-append}
use Rattle.std.specs.List.{flat_map}
use Rattle.std.specs.Option.{option_or}
use Rattle.gd_cert.specs.Certificates.{Open}
use Rattle.gd_base.specs.declared.verdict.Counts.{Counts}
use Rattle.gd_cells.proofs.Cells.{level_at}
use Rattle.gd_cells.specs.Grid.{cell_of, count_from}
use Rattle.gd_cells.specs.Laws.{IsGrid, NoneRefutes}
use Rattle.gd_cells.specs.Meaning.{Questions}
use Rattle.gd_cells.specs.declared.cell.Cell.{Cell}
use Rattle.gd_cells.specs.declared.cell.Evidence.{Evidence}
use Rattle.gd_cells.specs.declared.node.Node.{Node}
use Rattle.gd_cells.specs.declared.node.Node.TheVariants as node
use Rattle.gd_verdict.specs.Verdict.{IsVerdict, centres, end_at, end_with, spent, undecided}
use Rattle.gd_cert.specs.Reading.{fault}
use Rattle.gd_cert.specs.declared.fault.CertFault.{CertFault}
use Rattle.gd_verdict.proofs.Paths.{IsPath, cell_of_path, half_path, halves_counted, halves_spent, has_first, here_counted, lower_path, none_counted, none_spent, nothing_below, root_path, still_left}
use Rattle.gd_check.proofs.Ends.{IsOpenAt, open_at, or_false, staying}
use Rattle.gd_verdict.proofs.Ends.{going, none_stays, spent_grows}
use Rattle.gd_check.proofs.Walk.{Fits, walked, walks}
use Rattle.gd_check.specs.Right.{AreBelow, Branch, Undecided, Split, IsForest, IsOpen, IsSearchedTo, Refuted, lines_of}
use Rattle.gd_check.specs.Wrong.{Kind, OfOpen, are_wrong_counts, is_decided, is_split, is_wrong_reason, line_code, or_else, root_cells, wrong_body, wrong_line}
use Rattle.gd_check.specs.Wrong as wrong
use Rattle.gd_verdict.proofs.Counted.{left_below, left_in, left_in-append, left_under, none_left, spent_under, total, total-add, total-none, total-same, undecided_under}
use Rattle.gd_verdict.proofs.Below.{candidates_by_roots, cells_below}
use Rattle.gd_verdict.proofs.Levels.{centres_are, is_left}
use Rattle.gd_verdict.specs.Trees.{tree}
use Rattle.gd_verdict.specs.Verdict as verdict

-- ---- what a right line of an open group tells
no_code : (b : Bool) (k : ℕ) (o : Option ℕ) → cond b (Some k) o ≡ None → (b ≡ false) × (o ≡ None)
no_code true k o e = absurd cc
no_code false k o e = (refl, e)

refuted_line : (b : Bool) (k : ℕ) → cond b None (Some k) ≡ None → b ≡ true
refuted_line true k e = refl
refuted_line false k e = absurd cc

undecided_line : (o : Option Evidence) (b : Bool) → (is_some o || b) ≡ false → (o ≡ None) × (b ≡ false)
undecided_line (Some e) b h = absurd cc
undecided_line None b h = (refl, h)

record IsOpenCell (q : Questions) (c : Cell) : Type 0 where
  first : q.tests.first c ≡ None
  fails : q.tests.holds (q.tests.centre c) ≡ false

open_cell : (q : Questions) (c : Cell) → is_decided q c ≡ false → IsOpenCell q c
open_cell q c h = let two = undecided_line (q.tests.first c) (q.tests.holds (q.tests.centre c)) h in record { first = two.0; fails = two.1 }

record IsSplitCell (q : Questions) (last l : ℕ) (c : Cell) : Type 0 where
  above : l ≢ q.grid.finest
  higher : l < last
  still : IsOpenCell q c

split_tells : (q : Questions) (last : ℕ) (c : Cell) → line_code q (OfOpen last) c node.Split ≡ None → IsSplitCell q last c.level c
split_tells q last c h =
    let one = no_code (nat_eq c.level q.grid.finest) 57 (cond (is_decided q c || nat_le last c.level) (Some 56) None) h in
    let two = no_code (is_decided q c || nat_le last c.level) 56 None one.1 in
    let three = or_false (is_decided q c) (nat_le last c.level) two.0 in
    record { above = grind (arith, nat_tests, one.0); higher = grind (arith, nat_tests, three.1); still = open_cell q c three.0 }

record IsLeftCell (q : Questions) (last l : ℕ) (c : Cell) : Type 0 where
  level : l ≡ last
  still : IsOpenCell q c

left_tells : (q : Questions) (last : ℕ) (c : Cell) → line_code q (OfOpen last) c node.Left ≡ None → IsLeftCell q last c.level c
left_tells q last c h =
    let one = no_code (is_decided q c || not (nat_eq c.level last)) 56 None h in
    let two = or_false (is_decided q c) (not (nat_eq c.level last)) one.0 in
    record { level = grind (arith, nat_tests, two.1); still = open_cell q c two.0 }

-- ---- the same of a cell by its path
split_at : (q : Questions) (last r l p : ℕ) → line_code q (OfOpen last) (cell_of q.grid r l p) node.Split ≡ None → IsSplitCell q last l (cell_of q.grid r l p)
split_at q last r l p h = subst (λ m. IsSplitCell q last m (cell_of q.grid r l p)) (level_at q.grid r l p) (split_tells q last (cell_of q.grid r l p) h)

left_at : (q : Questions) (last r l p : ℕ) → line_code q (OfOpen last) (cell_of q.grid r l p) node.Left ≡ None → IsLeftCell q last l (cell_of q.grid r l p)
left_at q last r l p h = subst (λ m. IsLeftCell q last m (cell_of q.grid r l p)) (level_at q.grid r l p) (left_tells q last (cell_of q.grid r l p) h)

-- ---- the tree goes down to the level
searched_below : (q : Questions) (last : ℕ) (b : Branch) (r l p : ℕ) → Fits q (OfOpen last) r l p b → IsSearchedTo q last r l p b
searched_below q last (Refuted e) r l p fits = refuted_line (q.tests.refuted (cell_of q.grid r l p) e) 50 fits
searched_below q last (Split lower upper) r l p fits =
    let here : IsSplitCell q last l (cell_of q.grid r l p) = split_at q last r l p fits.0 in
    (here.higher, here.still.first, searched_below q last lower r (suc l) (2 * p) fits.1, searched_below q last upper r (suc l) (2 * p + 1) fits.2)
searched_below q last Undecided r l p fits =
    let here : IsLeftCell q last l (cell_of q.grid r l p) = left_at q last r l p fits in
    (here.level, here.still.first)

-- ---- no centre of an undecided cell holds
no_centre : Questions → List Cell → Type 0
no_centre q cs = find q.tests.holds (map q.tests.centre (filter (is_left q) cs)) ≡ None

no_centre_none : (q : Questions) (cs : List Cell) → filter (is_left q) cs ≡ [] → no_centre q cs
unfolding no_centre
no_centre_none q cs h = rw h refl

no_centre_both : (q : Questions) (cs ds : List Cell) → no_centre q cs → no_centre q ds → no_centre q (cs ++ ds)
unfolding no_centre
no_centre_both q cs ds h i =
    ap (λ es. find q.tests.holds (map q.tests.centre es)) (filter-append (is_left q) cs ds)
    ∙ ap (find q.tests.holds) (map-append q.tests.centre (filter (is_left q) cs) (filter (is_left q) ds))
    ∙ find-append q.tests.holds (map q.tests.centre (filter (is_left q) cs)) (map q.tests.centre (filter (is_left q) ds))
    ∙ rw (h, i) refl

no_centre_one : (q : Questions) (c : Cell) → IsOpenCell q c → no_centre q (c ∷ [])
unfolding no_centre
no_centre_one q c still = rw (still_left q c still.first, still.fails) refl

no_centre_halved : (q : Questions) (j r l p : ℕ) → is_left q (cell_of q.grid r l p) ≡ true → no_centre q (cells_below q j r (suc l) (2 * p)) → no_centre q (cells_below q j r (suc l) (2 * p + 1)) → no_centre q (cells_below q (suc j) r l p)
no_centre_halved q j r l p is lower upper = rw is (no_centre_both q (cells_below q j r (suc l) (2 * p)) (cells_below q j r (suc l) (2 * p + 1)) lower upper)

no_centre_below : (q : Questions) → NoneRefutes q → (last : ℕ) (b : Branch) (r l p : ℕ) → IsPath q r l p → Fits q (OfOpen last) r l p b → (j : ℕ) → l + j ≤ last → no_centre q (cells_below q j r l p)
no_centre_below q none last (Refuted e) r l p path fits j low =
    no_centre_none q (cells_below q j r l p) (nothing_below q r l p (has_first q none (cell_of q.grid r l p) e (cell_of_path q r l p path) (refuted_line (q.tests.refuted (cell_of q.grid r l p) e) 50 fits)) j)
no_centre_below q none last (Split lower upper) r l p path fits zero low = no_centre_one q (cell_of q.grid r l p) (split_at q last r l p fits.0).still
no_centre_below q none last (Split lower upper) r l p path fits (suc j) low =
    let here : IsSplitCell q last l (cell_of q.grid r l p) = split_at q last r l p fits.0 in
    let above : l < q.grid.finest = omega (arith, path.low, here.above) in
    no_centre_halved q j r l p (still_left q (cell_of q.grid r l p) here.still.first)
    (no_centre_below q none last lower r (suc l) (2 * p) (lower_path q r l p path above) fits.1 j (omega arith))
    (no_centre_below q none last upper r (suc l) (2 * p + 1) (half_path q r l p 1 path above (omega arith)) fits.2 j (omega arith))
no_centre_below q none last Undecided r l p path fits zero low = no_centre_one q (cell_of q.grid r l p) (left_at q last r l p fits).still
no_centre_below q none last Undecided r l p path fits (suc j) low = let here : l ≡ last = (left_at q last r l p fits).level in absurd (omega (arith, here))

-- ---- the lines of undecided and of halved cells
lefts_of : List Node → ℕ
lefts_of lines = length (filter wrong.is_left lines)

splits_of : List Node → ℕ
splits_of lines = length (filter is_split lines)

lefts-append : (xs ys : List Node) → lefts_of (xs ++ ys) ≡ lefts_of xs + lefts_of ys
unfolding lefts_of
lefts-append xs ys = ap length (filter-append wrong.is_left xs ys) ∙ length-append (filter wrong.is_left xs) (filter wrong.is_left ys)

splits-append : (xs ys : List Node) → splits_of (xs ++ ys) ≡ splits_of xs + splits_of ys
unfolding splits_of
splits-append xs ys = ap length (filter-append is_split xs ys) ∙ length-append (filter is_split xs) (filter is_split ys)

lefts-split : (xs ys : List Node) → lefts_of (node.Split ∷ (xs ++ ys)) ≡ lefts_of xs + lefts_of ys
unfolding lefts_of
lefts-split xs ys = lefts-append xs ys

splits-split : (xs ys : List Node) → splits_of (node.Split ∷ (xs ++ ys)) ≡ suc (splits_of xs + splits_of ys)
unfolding splits_of
splits-split xs ys = ap suc (splits-append xs ys)

lefts_below : (q : Questions) → NoneRefutes q → (last : ℕ) (b : Branch) (r l p : ℕ) → IsPath q r l p → last ≤ q.grid.finest → IsSearchedTo q last r l p b → (d : ℕ) → l + d ≡ last → lefts_of (lines_of b) ≡ left_below q r l p d
unfolding lefts_of
lefts_below q none last (Refuted e) r l p path deep is d at = sym (none_counted q r l p (has_first q none (cell_of q.grid r l p) e (cell_of_path q r l p path) is) d)
lefts_below q none last (Split lower upper) r l p path deep is zero at = absurd (omega (arith, is.0))
lefts_below q none last (Split lower upper) r l p path deep is (suc d) at =
    let above : l < q.grid.finest = omega (arith, is.0) in
    lefts-split (lines_of lower) (lines_of upper)
    ∙ omega (
      arith,
      lefts_below q none last lower r (suc l) (2 * p) (lower_path q r l p path above) deep is.2 d (omega arith),
      lefts_below q none last upper r (suc l) (2 * p + 1) (half_path q r l p 1 path above (omega arith)) deep is.3 d (omega arith),
      halves_counted q r l p (still_left q (cell_of q.grid r l p) is.1) d,
    )
lefts_below q none last Undecided r l p path deep is zero at = sym (here_counted q r l p (still_left q (cell_of q.grid r l p) is.1))
lefts_below q none last Undecided r l p path deep is (suc d) at = absurd (omega (arith, is.0))

splits_below : (q : Questions) → NoneRefutes q → (last : ℕ) (b : Branch) (r l p : ℕ) → IsPath q r l p → last ≤ q.grid.finest → IsSearchedTo q last r l p b → (d : ℕ) → l + d ≡ last → splits_of (lines_of b) ≡ total (left_below q r l p) d
unfolding splits_of
splits_below q none last (Refuted e) r l p path deep is d at = sym (none_spent q r l p (has_first q none (cell_of q.grid r l p) e (cell_of_path q r l p path) is) d)
splits_below q none last (Split lower upper) r l p path deep is zero at = absurd (omega (arith, is.0))
splits_below q none last (Split lower upper) r l p path deep is (suc d) at =
    let above : l < q.grid.finest = omega (arith, is.0) in
    splits-split (lines_of lower) (lines_of upper)
    ∙ omega (
      arith,
      splits_below q none last lower r (suc l) (2 * p) (lower_path q r l p path above) deep is.2 d (omega arith),
      splits_below q none last upper r (suc l) (2 * p + 1) (half_path q r l p 1 path above (omega arith)) deep is.3 d (omega arith),
      halves_spent q r l p (still_left q (cell_of q.grid r l p) is.1) d,
    )
splits_below q none last Undecided r l p path deep is zero at = refl
splits_below q none last Undecided r l p path deep is (suc d) at = absurd (omega (arith, is.0))

-- ---- all roots
map_below : (P Q : ℕ → Branch → Type 0) → ((r : ℕ) (b : Branch) → P r b → Q r b) → (a : ℕ) (bs : List Branch) → AreBelow P a bs → AreBelow Q a bs
map_below P Q f a [] h = tt
map_below P Q f a (b ∷ bs) h = (f a b h.0, map_below P Q f (a + 1) bs h.1)

no_centre_roots : (q : Questions) → NoneRefutes q → (last : ℕ) (bs : List Branch) (a : ℕ) → 1 ≤ a → a + length bs ≤ suc q.grid.roots → AreBelow (λ root. Fits q (OfOpen last) root 0 0) a bs → (j : ℕ) → j ≤ last →
    no_centre q (flat_map (λ r. cells_below q j r 0 0) (count_from a (length bs)))
no_centre_roots q none last [] a first few fits j low = no_centre_none q [] refl
no_centre_roots q none last (b ∷ bs) a first few fits j low =
    no_centre_both q (cells_below q j a 0 0) (flat_map (λ r. cells_below q j r 0 0) (count_from (a + 1) (length bs)))
    (no_centre_below q none last b a 0 0 (root_path q a first (omega arith)) fits.0 j (omega arith))
    (no_centre_roots q none last bs (a + 1) (omega arith) (omega arith) fits.1 j low)

lefts_roots : (q : Questions) → NoneRefutes q → (last : ℕ) (bs : List Branch) (a : ℕ) → 1 ≤ a → a + length bs ≤ suc q.grid.roots → last ≤ q.grid.finest → AreBelow (λ root. IsSearchedTo q last root 0 0) a bs → lefts_of (flat_map lines_of bs) ≡ left_under q a (length bs) last
unfolding lefts_of left_under left_below
lefts_roots q none last [] a first few deep is = sym (none_left q)
lefts_roots q none last (b ∷ bs) a first few deep is =
    lefts-append (lines_of b) (flat_map lines_of bs)
    ∙ omega (
      arith,
      lefts_below q none last b a 0 0 (root_path q a first (omega arith)) deep is.0 last (omega arith),
      lefts_roots q none last bs (a + 1) (omega arith) (omega arith) deep is.1,
      left_in-append q (cells_below q last a 0 0) (flat_map (λ r. cells_below q last r 0 0) (count_from (a + 1) (length bs))),
    )

splits_roots : (q : Questions) → NoneRefutes q → (last : ℕ) (bs : List Branch) (a : ℕ) → 1 ≤ a → a + length bs ≤ suc q.grid.roots → last ≤ q.grid.finest → AreBelow (λ root. IsSearchedTo q last root 0 0) a bs → splits_of (flat_map lines_of bs) ≡ total (left_under q a (length bs)) last
unfolding splits_of left_under left_below
splits_roots q none last [] a first few deep is = sym (total-same (left_under q a 0) (λ j. 0) last (λ j h. none_left q) ∙ total-none last)
splits_roots q none last (b ∷ bs) a first few deep is =
    let more : ℕ → List Cell = λ j. flat_map (λ r. cells_below q j r 0 0) (count_from (a + 1) (length bs)) in
    splits-append (lines_of b) (flat_map lines_of bs)
    ∙ omega (
      arith,
      splits_below q none last b a 0 0 (root_path q a first (omega arith)) deep is.0 last (omega arith),
      splits_roots q none last bs (a + 1) (omega arith) (omega arith) deep is.1,
      total-same (λ j. left_in q (cells_below q j a 0 0 ++ more j)) (λ j. left_in q (cells_below q j a 0 0) + left_in q (more j)) last (λ j h. left_in-append q (cells_below q j a 0 0) (more j)),
      total-add (λ j. left_in q (cells_below q j a 0 0)) (λ j. left_in q (more j)) last,
    )

-- ---- a tree that leaves a cell ends at a level of the grid
deep_below : (q : Questions) (last : ℕ) (b : Branch) (r l p : ℕ) → l ≤ q.grid.finest → Fits q (OfOpen last) r l p b → q.grid.finest < last → lefts_of (lines_of b) ≡ 0
unfolding lefts_of
deep_below q last (Refuted e) r l p low fits deep = refl
deep_below q last (Split lower upper) r l p low fits deep =
    let here : IsSplitCell q last l (cell_of q.grid r l p) = split_at q last r l p fits.0 in
    let above : l < q.grid.finest = omega (arith, low, here.above) in
    lefts-split (lines_of lower) (lines_of upper)
    ∙ omega (arith, deep_below q last lower r (suc l) (2 * p) (omega arith) fits.1 deep, deep_below q last upper r (suc l) (2 * p + 1) (omega arith) fits.2 deep)
deep_below q last Undecided r l p low fits deep = let here : l ≡ last = (left_at q last r l p fits).level in absurd (omega (arith, here))

deep_roots : (q : Questions) (last : ℕ) (bs : List Branch) (a : ℕ) → AreBelow (λ root. Fits q (OfOpen last) root 0 0) a bs → q.grid.finest < last → lefts_of (flat_map lines_of bs) ≡ 0
unfolding lefts_of
deep_roots q last [] a fits deep = refl
deep_roots q last (b ∷ bs) a fits deep =
    lefts-append (lines_of b) (flat_map lines_of bs) ∙ omega (arith, deep_below q last b a 0 0 (omega arith) fits.0 deep, deep_roots q last bs (a + 1) fits.1 deep)

-- ---- what the tree of a group tells of the levels
FitsOpen : Questions → ℕ → List Node → Type 0
FitsOpen q level nodes = IsForest q.grid.roots (λ root. Fits q (OfOpen level) root 0 0) nodes

Searched : Questions → ℕ → List Node → Type 0
Searched q level nodes = IsForest q.grid.roots (λ root. IsSearchedTo q level root 0 0) nodes

searched : (q : Questions) (level : ℕ) (nodes : List Node) → FitsOpen q level nodes → Searched q level nodes
unfolding FitsOpen Searched
searched q level nodes fits = record {
  branches = fits.branches;
  count = fits.count;
  below = map_below (λ root. Fits q (OfOpen level) root 0 0) (λ root. IsSearchedTo q level root 0 0) (λ r b. searched_below q level b r 0 0) 1 fits.branches fits.below;
  spelled = fits.spelled;
}

lefts_are : (q : Questions) → IsGrid q.grid → NoneRefutes q → (level : ℕ) (nodes : List Node) → level ≤ q.grid.finest → Searched q level nodes → lefts_of nodes ≡ length (undecided q level)
unfolding Searched
lefts_are q grid none level nodes low is =
    ap lefts_of is.spelled
    ∙ lefts_roots q none level is.branches 1 (omega arith) (omega (arith, is.count)) low is.below
    ∙ ap (λ n. left_under q 1 n level) is.count
    ∙ sym (undecided_under q grid level low)

splits_are : (q : Questions) → IsGrid q.grid → NoneRefutes q → (level : ℕ) (nodes : List Node) → level ≤ q.grid.finest → Searched q level nodes → splits_of nodes ≡ spent q level
unfolding Searched
splits_are q grid none level nodes low is =
    ap splits_of is.spelled
    ∙ splits_roots q none level is.branches 1 (omega arith) (omega (arith, is.count)) low is.below
    ∙ ap (λ n. total (left_under q 1 n) level) is.count
    ∙ sym (spent_under q grid level (omega arith))

centres_fail : (q : Questions) → IsGrid q.grid → NoneRefutes q → (level : ℕ) (nodes : List Node) → level ≤ q.grid.finest → FitsOpen q level nodes → (m : ℕ) → m ≤ level → find q.tests.holds (centres q m) ≡ None
unfolding FitsOpen no_centre
centres_fail q grid none level nodes deep fits m low =
    ap (find q.tests.holds) (centres_are q grid m (omega arith))
    ∙ ap (λ cs. find q.tests.holds (map q.tests.centre (filter (is_left q) cs))) (candidates_by_roots q grid m (omega arith))
    ∙ ap (λ n. find q.tests.holds (map q.tests.centre (filter (is_left q) (flat_map (λ r. cells_below q m r 0 0) (count_from 1 n))))) (sym fits.count)
    ∙ no_centre_roots q none level fits.branches 1 (omega arith) (omega (arith, fits.count)) fits.below m low

-- ---- the counts
record AreCounts (q : Questions) (budget : ℕ) (o : Counts) (nodes : List Node) : Type 0 where
  lefts : o.undecided ≡ lefts_of nodes
  splits : o.spent ≡ splits_of nodes
  affords : o.spent ≤ budget
  reasons : is_wrong_reason q.grid budget o o.reason ≡ false
  some : o.undecided ≢ 0

counts_tell : (q : Questions) (budget : ℕ) (o : Counts) (nodes : List Node) → are_wrong_counts q budget o nodes ≡ false → AreCounts q budget o nodes
unfolding lefts_of splits_of
counts_tell q budget o nodes h =
    let one = or_false (not (nat_eq o.undecided (length (filter wrong.is_left nodes)))) (not (nat_eq o.spent (length (filter is_split nodes))) || (nat_lt budget o.spent || (is_wrong_reason q.grid budget o o.reason || nat_eq o.undecided 0))) h in
    let two = or_false (not (nat_eq o.spent (length (filter is_split nodes)))) (nat_lt budget o.spent || (is_wrong_reason q.grid budget o o.reason || nat_eq o.undecided 0)) one.1 in
    let three = or_false (nat_lt budget o.spent) (is_wrong_reason q.grid budget o o.reason || nat_eq o.undecided 0) two.1 in
    let four = or_false (is_wrong_reason q.grid budget o o.reason) (nat_eq o.undecided 0) three.1 in
    record {
      lefts = grind (arith, nat_tests, one.0);
      splits = grind (arith, nat_tests, two.0);
      affords = grind (arith, nat_tests, three.0);
      reasons = four.0;
      some = grind (arith, nat_tests, four.1);
    }

counts_pass : (q : Questions) (budget : ℕ) (o : Counts) (nodes : List Node) → AreCounts q budget o nodes → are_wrong_counts q budget o nodes ≡ false
unfolding lefts_of splits_of
counts_pass q budget o nodes c =
    let a : nat_eq o.undecided (length (filter wrong.is_left nodes)) ≡ true = grind (arith, nat_tests, c.lefts) in
    let b : nat_eq o.spent (length (filter is_split nodes)) ≡ true = grind (arith, nat_tests, c.splits) in
    let d : nat_lt budget o.spent ≡ false = grind (arith, nat_tests, c.affords) in
    let e : nat_eq o.undecided 0 ≡ false = grind (arith, nat_tests, c.some) in
    rw (a, b, d, c.reasons, e) refl

low_of : (q : Questions) (level : ℕ) (nodes : List Node) → FitsOpen q level nodes → lefts_of nodes ≢ 0 → level ≤ q.grid.finest
unfolding FitsOpen
low_of q level nodes fits some = elim (cases_lt q.grid.finest level) [
  | inl above ↦ absurd (some (ap lefts_of fits.spelled ∙ deep_roots q level fits.branches 1 fits.below above))
  | inr low ↦ low
]

-- ---- no search ends before the level, and it stays open there
before_level : (q : Questions) → IsGrid q.grid → (budget level : ℕ) → level ≤ q.grid.finest → length (undecided q level) ≢ 0 → spent q level ≤ budget → ((m : ℕ) → m ≤ level → find q.tests.holds (centres q m) ≡ None) → (m : ℕ) → m < level → end_at q budget m ≡ None
unfolding end_at
before_level q grid budget level low some affords fails m above =
    going (find q.tests.holds (centres q m)) (tree q m) m (length (undecided q m)) (spent q m) q.grid.roots q.grid.finest budget (record {
      fails = fails m (omega arith);
      some = λ zero_there. some (none_stays q grid level m (omega arith) low zero_there);
      above = λ there. omega (arith, there);
      affords = omega (arith, spent_grows q level (suc m) above);
    })

open_verdict : (q : Questions) → IsGrid q.grid → (budget : ℕ) (o : Counts) → o.level ≤ q.grid.finest → o.undecided ≡ length (undecided q o.level) → o.spent ≡ spent q o.level → o.spent ≤ budget →
    is_wrong_reason q.grid budget o o.reason ≡ false → o.undecided ≢ 0 → ((m : ℕ) → m ≤ o.level → find q.tests.holds (centres q m) ≡ None) → IsVerdict q budget (verdict.Open (tree q o.level) o)
unfolding end_at
open_verdict q grid budget o low lefts splits affords reasons some fails =
    let e : end_with (find q.tests.holds (centres q o.level)) (tree q o.level) o.level (length (undecided q o.level)) (spent q o.level) q.grid.roots q.grid.finest budget ≡ Some (verdict.Open (tree q o.level) o) =
    rw (fails o.level (omega arith), sym lefts, sym splits) (staying q (tree q o.level) o q.grid.roots budget some reasons) in
    (o.level, before_level q grid budget o.level low (λ zero_there. some (lefts ∙ zero_there)) (omega (arith, splits)) fails, e)

fits_open : (q : Questions) → IsGrid q.grid → NoneRefutes q → (budget : ℕ) (o : Counts) (nodes : List Node) → FitsOpen q o.level nodes → AreCounts q budget o nodes → IsOpen q budget o nodes
unfolding Searched
fits_open q grid none budget o nodes fits counts =
    let low : o.level ≤ q.grid.finest = low_of q o.level nodes fits (λ zero_there. counts.some (counts.lefts ∙ zero_there)) in
    let is : Searched q o.level nodes = searched q o.level nodes fits in
    record {
      searched = is;
      end = open_verdict q grid budget o low (counts.lefts ∙ lefts_are q grid none o.level nodes low is) (counts.splits ∙ splits_are q grid none o.level nodes low is) counts.affords counts.reasons counts.some
          (centres_fail q grid none o.level nodes low fits);
    }

-- ---- from an open verdict to a right tree
or_none : {X : Type 0} (a b : Option X) → option_or a b ≡ None → (a ≡ None) × (b ≡ None)
or_none (Some x) b h = absurd cc
or_none None b h = (refl, h)

no_centre_parts : (q : Questions) (cs ds : List Cell) → no_centre q (cs ++ ds) → no_centre q cs × no_centre q ds
unfolding no_centre
no_centre_parts q cs ds h =
    let e : find q.tests.holds (map q.tests.centre (filter (is_left q) (cs ++ ds))) ≡ option_or (find q.tests.holds (map q.tests.centre (filter (is_left q) cs))) (find q.tests.holds (map q.tests.centre (filter (is_left q) ds))) =
    ap (λ es. find q.tests.holds (map q.tests.centre es)) (filter-append (is_left q) cs ds)
    ∙ ap (find q.tests.holds) (map-append q.tests.centre (filter (is_left q) cs) (filter (is_left q) ds))
    ∙ find-append q.tests.holds (map q.tests.centre (filter (is_left q) cs)) (map q.tests.centre (filter (is_left q) ds)) in
    or_none (find q.tests.holds (map q.tests.centre (filter (is_left q) cs))) (find q.tests.holds (map q.tests.centre (filter (is_left q) ds))) (sym e ∙ h)

centre_fails : (q : Questions) (c : Cell) → q.tests.first c ≡ None → no_centre q (c ∷ []) → q.tests.holds (q.tests.centre c) ≡ false
unfolding no_centre
centre_fails q c first h =
    let e : find q.tests.holds (q.tests.centre c ∷ []) ≡ None = ap (λ v. find q.tests.holds (map q.tests.centre (cond v (c ∷ []) []))) (sym (still_left q c first)) ∙ h in
    elim (q.tests.holds (q.tests.centre c)) as (λ v. cond v (Some (q.tests.centre c)) None ≡ None → v ≡ false) [ true ↦ λ f. absurd cc | false ↦ λ f. refl ] e

no_centre_in_halves : (q : Questions) (j r l p : ℕ) → q.tests.first (cell_of q.grid r l p) ≡ None → no_centre q (cells_below q (suc j) r l p) → no_centre q (cells_below q j r (suc l) (2 * p)) × no_centre q (cells_below q j r (suc l) (2 * p + 1))
no_centre_in_halves q j r l p first h =
    no_centre_parts q (cells_below q j r (suc l) (2 * p)) (cells_below q j r (suc l) (2 * p + 1))
    (subst (λ v. no_centre q (cond v (cells_below q j r (suc l) (2 * p) ++ cells_below q j r (suc l) (2 * p + 1)) [])) (still_left q (cell_of q.grid r l p) first) h)

split_passes : (q : Questions) (last : ℕ) (c : Cell) → IsSplitCell q last c.level c → line_code q (OfOpen last) c node.Split ≡ None
split_passes q last c is =
    let a : nat_eq c.level q.grid.finest ≡ false = grind (arith, nat_tests, is.above) in
    let b : nat_le last c.level ≡ false = grind (arith, nat_tests, is.higher) in
    rw (a, is.still.first, is.still.fails, b) refl

left_passes : (q : Questions) (last : ℕ) (c : Cell) → IsLeftCell q last c.level c → line_code q (OfOpen last) c node.Left ≡ None
left_passes q last c is =
    let a : nat_eq c.level last ≡ true = grind (arith, nat_tests, is.level) in
    rw (is.still.first, is.still.fails, a) refl

split_stands : (q : Questions) (last r l p : ℕ) → IsSplitCell q last l (cell_of q.grid r l p) → line_code q (OfOpen last) (cell_of q.grid r l p) node.Split ≡ None
split_stands q last r l p is = split_passes q last (cell_of q.grid r l p) (subst (λ m. IsSplitCell q last m (cell_of q.grid r l p)) (sym (level_at q.grid r l p)) is)

left_stands : (q : Questions) (last r l p : ℕ) → IsLeftCell q last l (cell_of q.grid r l p) → line_code q (OfOpen last) (cell_of q.grid r l p) node.Left ≡ None
left_stands q last r l p is = left_passes q last (cell_of q.grid r l p) (subst (λ m. IsLeftCell q last m (cell_of q.grid r l p)) (sym (level_at q.grid r l p)) is)

fits_below : (q : Questions) (last : ℕ) (b : Branch) (r l p : ℕ) → last ≤ q.grid.finest → IsSearchedTo q last r l p b → ((j : ℕ) → l + j ≤ last → no_centre q (cells_below q j r l p)) → Fits q (OfOpen last) r l p b
fits_below q last (Refuted e) r l p deep is fails = rw is refl
fits_below q last (Split lower upper) r l p deep is fails =
    let here : IsOpenCell q (cell_of q.grid r l p) = record { first = is.1; fails = centre_fails q (cell_of q.grid r l p) is.1 (fails 0 (omega (arith, is.0))) } in (
      split_stands q last r l p (record { above = λ same. omega (arith, is.0, same); higher = is.0; still = here }),
      fits_below q last lower r (suc l) (2 * p) deep is.2 (λ j low. (no_centre_in_halves q j r l p is.1 (fails (suc j) (omega arith))).0),
      fits_below q last upper r (suc l) (2 * p + 1) deep is.3 (λ j low. (no_centre_in_halves q j r l p is.1 (fails (suc j) (omega arith))).1),
    )
fits_below q last Undecided r l p deep is fails =
    let here : IsOpenCell q (cell_of q.grid r l p) = record { first = is.1; fails = centre_fails q (cell_of q.grid r l p) is.1 (fails 0 (omega (arith, is.0))) } in
    left_stands q last r l p (record { level = is.0; still = here })

fits_roots : (q : Questions) (last : ℕ) (bs : List Branch) (a : ℕ) → last ≤ q.grid.finest → AreBelow (λ root. IsSearchedTo q last root 0 0) a bs →
    ((j : ℕ) → j ≤ last → no_centre q (flat_map (λ r. cells_below q j r 0 0) (count_from a (length bs)))) → AreBelow (λ root. Fits q (OfOpen last) root 0 0) a bs
fits_roots q last [] a deep is fails = tt
fits_roots q last (b ∷ bs) a deep is fails =
    let more : ℕ → List Cell = λ j. flat_map (λ r. cells_below q j r 0 0) (count_from (a + 1) (length bs)) in (
      fits_below q last b a 0 0 deep is.0 (λ j low. (no_centre_parts q (cells_below q j a 0 0) (more j) (fails j (omega arith))).0),
      fits_roots q last bs (a + 1) deep is.1 (λ j low. (no_centre_parts q (cells_below q j a 0 0) (more j) (fails j low)).1),
    )

no_centre_of : (q : Questions) → IsGrid q.grid → (m n : ℕ) → n ≡ q.grid.roots → m ≤ q.grid.finest → find q.tests.holds (centres q m) ≡ None → no_centre q (flat_map (λ r. cells_below q m r 0 0) (count_from 1 n))
unfolding no_centre
no_centre_of q grid m n count low fails =
    ap (λ k. find q.tests.holds (map q.tests.centre (filter (is_left q) (flat_map (λ r. cells_below q m r 0 0) (count_from 1 k))))) count
    ∙ sym (ap (λ cs. find q.tests.holds (map q.tests.centre (filter (is_left q) cs))) (candidates_by_roots q grid m low))
    ∙ sym (ap (find q.tests.holds) (centres_are q grid m low))
    ∙ fails

fits : (q : Questions) → IsGrid q.grid → (level : ℕ) (nodes : List Node) → level ≤ q.grid.finest → Searched q level nodes → ((m : ℕ) → m ≤ level → find q.tests.holds (centres q m) ≡ None) → FitsOpen q level nodes
unfolding FitsOpen Searched
fits q grid level nodes deep is fails = record {
  branches = is.branches;
  count = is.count;
  below = fits_roots q level is.branches 1 deep is.below (λ j low. no_centre_of q grid j (length is.branches) is.count (omega arith) (fails j low));
  spelled = is.spelled;
}

counts_are : (q : Questions) → IsGrid q.grid → NoneRefutes q → (budget : ℕ) (o : Counts) (nodes : List Node) → Searched q o.level nodes → IsOpenAt q budget (tree q o.level) o → AreCounts q budget o nodes
counts_are q grid none budget o nodes is there = record {
  lefts = there.lefts ∙ sym (lefts_are q grid none o.level nodes there.low is);
  splits = there.splits ∙ sym (splits_are q grid none o.level nodes there.low is);
  affords = there.affords;
  reasons = there.reasons;
  some = there.some;
}

-- ---- the lines of an open group
neither : (a b : Option CertFault) → or_else a b ≡ None → (a ≡ None) × (b ≡ None)
neither (Some f) b h = absurd cc
neither None b h = (refl, h)

no_fault : (b : Bool) (f : CertFault) → cond b (Some f) None ≡ None → b ≡ false
no_fault true f h = absurd cc
no_fault false f h = refl

pub open_right : (q : Questions) → IsGrid q.grid → NoneRefutes q → (budget : ℕ) (o : Counts) (nodes : List Node) (line : ℕ) → wrong_body q budget line (Open o nodes) ≡ None → IsOpen q budget o nodes
unfolding FitsOpen
open_right q grid none budget o nodes line h =
    let two = neither (wrong_line q (OfOpen o.level) (root_cells q) (line + 2) nodes) (cond (are_wrong_counts q budget o nodes) (Some (fault (line + 1) 56)) None) h in
    let counts : are_wrong_counts q budget o nodes ≡ false = no_fault (are_wrong_counts q budget o nodes) (fault (line + 1) 56) two.1 in
    fits_open q grid none budget o nodes (walks q grid (OfOpen o.level) (line + 2) nodes two.0) (counts_tell q budget o nodes counts)

pub right_open : (q : Questions) → IsGrid q.grid → NoneRefutes q → (budget : ℕ) (o : Counts) (nodes : List Node) (line : ℕ) → IsOpen q budget o nodes → wrong_body q budget line (Open o nodes) ≡ None
unfolding FitsOpen Searched
right_open q grid none budget o nodes line is =
    let there : IsOpenAt q budget (tree q o.level) o = open_at q grid budget (tree q o.level) o is.end in
    let lines : wrong_line q (OfOpen o.level) (root_cells q) (line + 2) nodes ≡ None = walked q grid (OfOpen o.level) (line + 2) nodes (fits q grid o.level nodes there.low is.searched there.fails) in
    let counts : are_wrong_counts q budget o nodes ≡ false = counts_pass q budget o nodes (counts_are q grid none budget o nodes is.searched there) in
    rw (lines, counts) refl
