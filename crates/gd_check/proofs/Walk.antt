-- Lines against the cells that wait for them: no line is wrong where they are those of a tree below each root, each fit for its cell.
use Rattle.std.proofs.Common.{arith, ◌≡◌, refl, sym, ap, ◌∙◌, ℕ, zero, suc, ◌+◌, ◌*◌, ◌<◌, ◌≤◌, Option, Some, None, List, [], ◌∷◌, ◌++◌, length, map, append_assoc}
use Rattle.std.proofs.lemmas.List.{length-append}
use Rattle.std.specs.List.{flat_map}
use Rattle.gd_cells.proofs.Cells.{halves_at, level_at, root_at}
use Rattle.gd_cells.specs.Grid.{cell_of, count_from}
use Rattle.gd_cells.specs.Halves.{halves, whole_root}
use Rattle.gd_cells.specs.Laws.{IsGrid}
use Rattle.gd_cells.specs.Meaning.{Questions}
use Rattle.gd_cells.specs.declared.cell.Cell.{Cell}
use Rattle.gd_cells.specs.declared.node.Node.{Node}
use Rattle.gd_cells.specs.declared.node.Node.TheVariants as node
use Rattle.gd_cert.specs.declared.fault.CertFault.{CertFault}
use Rattle.gd_check.proofs.Waiting.{above_cell}
use Rattle.gd_check.specs.Right.{AreBelow, Branch, Undecided, Split, IsForest, Refuted, lines_of}
use Rattle.gd_check.specs.Wrong.{Kind, line_code, root_cells, with_code, wrong_line}

-- no line of the tree below a cell has a code
abbrev pub Fits : Questions → Kind → ℕ → ℕ → ℕ → Branch → Type 0
Fits q kind r l p (Refuted e) = line_code q kind (cell_of q.grid r l p) (node.Refuted e) ≡ None
Fits q kind r l p (Split lower upper) = (line_code q kind (cell_of q.grid r l p) node.Split ≡ None) × Fits q kind r (suc l) (2 * p) lower × Fits q kind r (suc l) (2 * p + 1) upper
Fits q kind r l p Undecided = line_code q kind (cell_of q.grid r l p) node.Left ≡ None

-- ---- one line
pub above_split : (q : Questions) (kind : Kind) (r l p : ℕ) → l ≤ q.grid.finest → line_code q kind (cell_of q.grid r l p) node.Split ≡ None → l < q.grid.finest
above_split q kind r l p low h = omega (arith, level_at q.grid r l p, above_cell q kind (cell_of q.grid r l p) (omega (arith, level_at q.grid r l p)) h)

-- the two cells that wait in place of one that is halved
halves_wait : (q : Questions) → IsGrid q.grid → (kind : Kind) (r l p : ℕ) → l < q.grid.finest → (cells : List Cell) (line : ℕ) (nodes : List Node) →
    wrong_line q kind ((halves q.grid (cell_of q.grid r l p)).0 ∷ (halves q.grid (cell_of q.grid r l p)).1 ∷ cells) line nodes ≡ wrong_line q kind (cell_of q.grid r (suc l) (2 * p) ∷ cell_of q.grid r (suc l) (2 * p + 1) ∷ cells) line nodes
halves_wait q grid kind r l p above cells line nodes = ap (λ (h : Cell × Cell). wrong_line q kind (h.0 ∷ h.1 ∷ cells) line nodes) (halves_at q.grid grid r l p above)

-- ---- from a tree to its lines
cell_walked : (q : Questions) → IsGrid q.grid → (kind : Kind) (b : Branch) (r l p : ℕ) → l ≤ q.grid.finest → Fits q kind r l p b → (cells : List Cell) (line : ℕ) (rest : List Node) →
    wrong_line q kind (cell_of q.grid r l p ∷ cells) line (lines_of b ++ rest) ≡ wrong_line q kind cells (line + length (lines_of b)) rest
unfolding wrong_line
cell_walked q grid kind (Refuted e) r l p low fits cells line rest = rw fits refl
cell_walked q grid kind Undecided r l p low fits cells line rest = rw fits refl
cell_walked q grid kind (Split lower upper) r l p low fits cells line rest =
    let above : l < q.grid.finest = above_split q kind r l p low fits.0 in
    let joined : (lines_of lower ++ lines_of upper) ++ rest ≡ lines_of lower ++ (lines_of upper ++ rest) = append_assoc (lines_of lower) (lines_of upper) rest in
    let count : line + 1 + length (lines_of lower) + length (lines_of upper) ≡ line + suc (length (lines_of lower ++ lines_of upper)) = omega (arith, length-append (lines_of lower) (lines_of upper)) in
    ap (λ code. with_code line code (wrong_line q kind ((halves q.grid (cell_of q.grid r l p)).0 ∷ (halves q.grid (cell_of q.grid r l p)).1 ∷ cells) (line + 1) ((lines_of lower ++ lines_of upper) ++ rest))) fits.0
    ∙ halves_wait q grid kind r l p above cells (line + 1) ((lines_of lower ++ lines_of upper) ++ rest)
    ∙ ap (wrong_line q kind (cell_of q.grid r (suc l) (2 * p) ∷ cell_of q.grid r (suc l) (2 * p + 1) ∷ cells) (line + 1)) joined
    ∙ cell_walked q grid kind lower r (suc l) (2 * p) (omega arith) fits.1 (cell_of q.grid r (suc l) (2 * p + 1) ∷ cells) (line + 1) (lines_of upper ++ rest)
    ∙ cell_walked q grid kind upper r (suc l) (2 * p + 1) (omega arith) fits.2 cells (line + 1 + length (lines_of lower)) rest
    ∙ ap (λ n. wrong_line q kind cells n rest) count

roots_walked : (q : Questions) → IsGrid q.grid → (kind : Kind) (a n : ℕ) (bs : List Branch) → length bs ≡ n → AreBelow (λ root. Fits q kind root 0 0) a bs → (line : ℕ) →
    wrong_line q kind (map whole_root (count_from a n)) line (flat_map lines_of bs) ≡ None
unfolding wrong_line
roots_walked q grid kind a zero [] count below line = refl
roots_walked q grid kind a zero (b ∷ bs) count below line = absurd (omega arith)
roots_walked q grid kind a (suc n) [] count below line = absurd (omega arith)
roots_walked q grid kind a (suc n) (b ∷ bs) count below line =
    ap (λ c. wrong_line q kind (c ∷ map whole_root (count_from (a + 1) n)) line (lines_of b ++ flat_map lines_of bs)) (sym (root_at q.grid grid a))
    ∙ cell_walked q grid kind b a 0 0 (omega arith) below.0 (map whole_root (count_from (a + 1) n)) line (flat_map lines_of bs)
    ∙ roots_walked q grid kind (a + 1) n bs (omega arith) below.1 (line + length (lines_of b))

pub walked : (q : Questions) → IsGrid q.grid → (kind : Kind) (line : ℕ) (nodes : List Node) → IsForest q.grid.roots (λ root. Fits q kind root 0 0) nodes → wrong_line q kind (root_cells q) line nodes ≡ None
walked q grid kind line nodes forest = rw forest.spelled (roots_walked q grid kind 1 q.grid.roots forest.branches forest.count forest.below line)

-- ---- from the lines to a tree
record Walk (q : Questions) (kind : Kind) (r l p : ℕ) (cells : List Cell) (nodes : List Node) : Type 0 where
  branch : Branch
  rest : List Node
  line : ℕ
  fits : Fits q kind r l p branch
  spelled : nodes ≡ lines_of branch ++ rest
  shorter : length rest < length nodes
  after : wrong_line q kind cells line rest ≡ None

no_code : (q : Questions) (kind : Kind) (c : Cell) (node : Node) (line : ℕ) (next : Option CertFault) → with_code line (line_code q kind c node) next ≡ None → (line_code q kind c node ≡ None) × (next ≡ None)
no_code q kind c node line next h =
    elim (line_code q kind c node) as (λ v. with_code line v next ≡ None → (v ≡ None) × (next ≡ None)) [ Some code ↦ λ f. cc | None ↦ λ f. (refl, f) ] h

cell_walks : (q : Questions) → IsGrid q.grid → (kind : Kind) (n : ℕ) (r l p : ℕ) → l ≤ q.grid.finest → (cells : List Cell) (line : ℕ) (nodes : List Node) → length nodes ≤ n →
    wrong_line q kind (cell_of q.grid r l p ∷ cells) line nodes ≡ None → Walk q kind r l p cells nodes
unfolding wrong_line
cell_walks q grid kind n r l p low cells line [] few h = cc
cell_walks q grid kind zero r l p low cells line (node ∷ nodes) few h = absurd (omega arith)
cell_walks q grid kind (suc n) r l p low cells line (node.Refuted e ∷ nodes) few h =
    let both : (line_code q kind (cell_of q.grid r l p) (node.Refuted e) ≡ None) × (wrong_line q kind cells (line + 1) nodes ≡ None) = no_code q kind (cell_of q.grid r l p) (node.Refuted e) line (wrong_line q kind cells (line + 1) nodes) h in
    record { branch = Refuted e; rest = nodes; line = line + 1; fits = both.0; spelled = refl; shorter = omega arith; after = both.1 }
cell_walks q grid kind (suc n) r l p low cells line (node.Left ∷ nodes) few h =
    let both : (line_code q kind (cell_of q.grid r l p) node.Left ≡ None) × (wrong_line q kind cells (line + 1) nodes ≡ None) = no_code q kind (cell_of q.grid r l p) node.Left line (wrong_line q kind cells (line + 1) nodes) h in
    record { branch = Undecided; rest = nodes; line = line + 1; fits = both.0; spelled = refl; shorter = omega arith; after = both.1 }
cell_walks q grid kind (suc n) r l p low cells line (node.Split ∷ nodes) few h =
    let next : Option CertFault = wrong_line q kind ((halves q.grid (cell_of q.grid r l p)).0 ∷ (halves q.grid (cell_of q.grid r l p)).1 ∷ cells) (line + 1) nodes in
    let both : (line_code q kind (cell_of q.grid r l p) node.Split ≡ None) × (wrong_line q kind ((halves q.grid (cell_of q.grid r l p)).0 ∷ (halves q.grid (cell_of q.grid r l p)).1 ∷ cells) (line + 1) nodes ≡ None) = no_code q kind (cell_of q.grid r l p) node.Split line next h in
    let above : l < q.grid.finest = above_split q kind r l p low both.0 in
    let lower : Walk q kind r (suc l) (2 * p) (cell_of q.grid r (suc l) (2 * p + 1) ∷ cells) nodes =
    cell_walks q grid kind n r (suc l) (2 * p) (omega arith) (cell_of q.grid r (suc l) (2 * p + 1) ∷ cells) (line + 1) nodes (omega arith) (sym (halves_wait q grid kind r l p above cells (line + 1) nodes) ∙ both.1) in
    let upper : Walk q kind r (suc l) (2 * p + 1) cells lower.rest = cell_walks q grid kind n r (suc l) (2 * p + 1) (omega arith) cells lower.line lower.rest (omega (arith, lower.shorter)) lower.after in
    record {
      branch = Split lower.branch upper.branch;
      rest = upper.rest;
      line = upper.line;
      fits = (both.0, lower.fits, upper.fits);
      spelled = ap (λ ns. node.Split ∷ ns) (lower.spelled ∙ ap (λ ns. lines_of lower.branch ++ ns) upper.spelled ∙ sym (append_assoc (lines_of lower.branch) (lines_of upper.branch) upper.rest));
      shorter = omega (arith, lower.shorter, upper.shorter);
      after = upper.after;
    }

record Walks (q : Questions) (kind : Kind) (a n : ℕ) (nodes : List Node) : Type 0 where
  branches : List Branch
  count : length branches ≡ n
  below : AreBelow (λ root. Fits q kind root 0 0) a branches
  spelled : nodes ≡ flat_map lines_of branches

roots_walk : (q : Questions) → IsGrid q.grid → (kind : Kind) (a n line : ℕ) (nodes : List Node) → wrong_line q kind (map whole_root (count_from a n)) line nodes ≡ None → Walks q kind a n nodes
unfolding wrong_line
roots_walk q grid kind a zero line [] h = record { branches = []; count = refl; below = tt; spelled = refl }
roots_walk q grid kind a zero line (node ∷ nodes) h = cc
roots_walk q grid kind a (suc n) line nodes h =
    let first : Walk q kind a 0 0 (map whole_root (count_from (a + 1) n)) nodes =
    cell_walks q grid kind (length nodes) a 0 0 (omega arith) (map whole_root (count_from (a + 1) n)) line nodes (omega arith)
    (ap (λ c. wrong_line q kind (c ∷ map whole_root (count_from (a + 1) n)) line nodes) (root_at q.grid grid a) ∙ h) in
    let more : Walks q kind (a + 1) n first.rest = roots_walk q grid kind (a + 1) n first.line first.rest first.after in
    record {
      branches = first.branch ∷ more.branches;
      count = omega (arith, more.count);
      below = (first.fits, more.below);
      spelled = first.spelled ∙ ap (λ ns. lines_of first.branch ++ ns) more.spelled;
    }

pub walks : (q : Questions) → IsGrid q.grid → (kind : Kind) (line : ℕ) (nodes : List Node) → wrong_line q kind (root_cells q) line nodes ≡ None → IsForest q.grid.roots (λ root. Fits q kind root 0 0) nodes
walks q grid kind line nodes h =
    let w : Walks q kind 1 q.grid.roots nodes = roots_walk q grid kind 1 q.grid.roots line nodes h in
    record { branches = w.branches; count = w.count; below = w.below; spelled = w.spelled }
