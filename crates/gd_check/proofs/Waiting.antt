-- The cells that wait, which the code keeps with the next one last.
use Rattle.std.proofs.Common.{arith, ◌≡◌, refl, sym, ap, ◌∙◌, subst, add-one, ℕ, ◌+◌, ◌-◌, ◌<◌, ◌≤◌, true, false, cond, nat_eq, Option, Some, None, List, [], ◌∷◌, ◌++◌, length, map, reverse}
use Rattle.std.proofs.lemmas.Bool.Decides.{nat_tests}
use Rattle.std.proofs.lemmas.List.{length-reverse, reverse-append}
use Rattle.std.proofs.lemmas.List.Elements.{All-push}
use Rattle.std.specs.List.{All}
use Rattle.gd_cells.proofs.Cells.{level_at, root_is_cell}
use Rattle.gd_cells.specs.Grid.{IsCell, count_from}
use Rattle.gd_cells.specs.Halves.{whole_root}
use Rattle.gd_cells.specs.Laws.{IsGrid}
use Rattle.gd_cells.specs.Meaning.{Questions}
use Rattle.gd_cells.specs.declared.cell.Cell.{Cell}
use Rattle.gd_cells.specs.declared.node.Node.{Node}
use Rattle.gd_cells.specs.declared.node.Node.TheVariants.{Split}
use Rattle.gd_cert.specs.Reading.{fault}
use Rattle.gd_check.specs.Wrong.{Kind, is_wrong_split, line_code, waiting_after, wrong_line}

-- a cell lies no deeper than the last level, and above it where it may be halved
pub low_cell : (q : Questions) (c : Cell) → IsCell q.grid c → c.level ≤ q.grid.finest
low_cell q c cell = omega (arith, ap (λ (d : Cell). d.level) cell.same ∙ level_at q.grid cell.root cell.level cell.path, cell.deepest)

pub above_cell : (q : Questions) (kind : Kind) (c : Cell) → c.level ≤ q.grid.finest → line_code q kind c Split ≡ None → c.level < q.grid.finest
above_cell q kind c low h =
    elim (nat_eq c.level q.grid.finest) as (λ v. nat_eq c.level q.grid.finest ≡ v → cond {A = Option ℕ} v (Some 57) (cond (is_wrong_split q kind c) (Some 56) None) ≡ None → c.level < q.grid.finest) [
      | true ↦ λ is f. cc
      | false ↦ λ is f. grind (arith, nat_tests)
    ] refl h

-- ---- more cells wait
pub two_more : {X : Type 0} (P : X → Type 0) (xs ys zs : List X) (x y : X) → ys ≡ xs ++ x ∷ [] → zs ≡ ys ++ y ∷ [] → All P xs → P x → P y → All P zs
two_more P xs ys zs x y e f all is also = subst (All P) (sym f) (All-push P ys y (subst (All P) (sym e) (All-push P xs x all is)) also)

pub last_is_next : {X : Type 0} (xs : List X) (x : X) → reverse (xs ++ x ∷ []) ≡ x ∷ reverse xs
last_is_next xs x = reverse-append xs (x ∷ [])

pub root_waits : (q : Questions) → IsGrid q.grid → (roots index : ℕ) → roots ≡ q.grid.roots → index < roots → (ws xs : List Cell) → xs ≡ ws ++ whole_root (roots - index) ∷ [] → All (IsCell q.grid) ws → All (IsCell q.grid) xs
root_waits q grid roots index all below ws xs e cells =
    subst (All (IsCell q.grid)) (sym e) (All-push (IsCell q.grid) ws (whole_root (roots - index)) cells (root_is_cell q.grid grid (roots - index) (omega arith) (omega arith)))

pub roots_wait : (roots index : ℕ) → index < roots → (ws xs : List Cell) → xs ≡ ws ++ whole_root (roots - index) ∷ [] → reverse ws ≡ map whole_root (count_from (roots - index + 1) index) → reverse xs ≡ map whole_root (count_from (roots - (index + 1) + 1) (index + 1))
roots_wait roots index below ws xs e so_far =
    let f : roots - (index + 1) + 1 ≡ roots - index = omega arith in
    rw (e, f, add-one, last_is_next ws (whole_root (roots - index))) (ap (λ cs. whole_root (roots - index) ∷ cs) so_far)

-- ---- a line of the next cell: it breaks a rule, or it doesn't and the halves wait
pub line_breaks : (q : Questions) (kind : Kind) (ws xs : List Cell) (c : Cell) (node : Node) (code : ℕ) → ws ≡ xs ++ c ∷ [] → line_code q kind c node ≡ Some code → (line : ℕ) (nodes : List Node) → wrong_line q kind (reverse ws) line (node ∷ nodes) ≡ Some (fault line code)
unfolding wrong_line
line_breaks q kind ws xs c node code e h line nodes = rw (e, last_is_next xs c) (rw h refl)

pub line_keeps : (q : Questions) (kind : Kind) (ws xs ys : List Cell) (c : Cell) (node : Node) → ws ≡ xs ++ c ∷ [] → line_code q kind c node ≡ None → reverse ys ≡ waiting_after q c node (reverse xs) → (line : ℕ) (nodes : List Node) →
    wrong_line q kind (reverse ws) line (node ∷ nodes) ≡ wrong_line q kind (reverse ys) (line + 1) nodes
unfolding wrong_line
line_keeps q kind ws xs ys c node e h after line nodes = rw (e, last_is_next xs c) (rw (h, after) refl)

-- ---- no cell or no line is left
pub no_cell : (q : Questions) (kind : Kind) (ws : List Cell) → length ws ≡ 0 → (line : ℕ) (node : Node) (nodes : List Node) → wrong_line q kind (reverse ws) line (node ∷ nodes) ≡ Some (fault line 54)
unfolding wrong_line
no_cell q kind [] none line node nodes = refl
no_cell q kind (c ∷ ws) none line node nodes = absurd (omega arith)

pub no_more : (q : Questions) (kind : Kind) (ws : List Cell) → length ws ≡ 0 → (line : ℕ) (nodes : List Node) → nodes ≡ [] → wrong_line q kind (reverse ws) line nodes ≡ None
unfolding wrong_line
no_more q kind [] none line nodes e = rw e refl
no_more q kind (c ∷ ws) none line nodes e = absurd (omega arith)

cell_left : (q : Questions) (kind : Kind) (cells : List Cell) → 0 < length cells → (line : ℕ) → wrong_line q kind cells line [] ≡ Some (fault line 53)
unfolding wrong_line
cell_left q kind [] some line = absurd (omega arith)
cell_left q kind (c ∷ cells) some line = refl

pub no_line : (q : Questions) (kind : Kind) (ws : List Cell) → 0 < length ws → (line : ℕ) (nodes : List Node) → nodes ≡ [] → wrong_line q kind (reverse ws) line nodes ≡ Some (fault line 53)
no_line q kind ws some line nodes e = rw e (cell_left q kind (reverse ws) (omega (arith, length-reverse ws)) line)
