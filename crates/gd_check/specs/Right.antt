-- When a certificate is right: what it says of each task is so.
use Rattle.std.specs.Prelude.{ℕ, suc, ◌+◌, ◌*◌, ◌<◌, ◌≡◌, ℤ, true, None, List, [], ◌∷◌, ◌++◌, length}
use Rattle.std.specs.List.{flat_map}
use Rattle.gd_cells.specs.Witnesses.{witness_of}
use Rattle.gd_base.specs.declared.verdict.Counts.{Counts}
use Rattle.gd_cells.specs.Meaning.{Questions}
use Rattle.gd_cells.specs.Grid.{cell_of}
use Rattle.gd_cells.specs.declared.cell.Evidence.{Evidence}
use Rattle.gd_cells.specs.declared.node.Node.{Node}
use Rattle.gd_cells.specs.declared.node.Node.TheVariants as node
use Rattle.gd_cert.specs.Certificates.{Accept, Body, Certificate, Reject, Open}
use Rattle.gd_verdict.specs.Trees.{tree}
use Rattle.gd_verdict.specs.Verdict as verdict

-- ---- a tree of cells below a cell
pub data Branch : Type 0 where
  -- the cell is refuted, by this evidence
  Refuted : Evidence → Branch
  -- the cell is halved: its lower half and its upper half
  Split : Branch → Branch → Branch
  -- the cell is left undecided
  Undecided : Branch

-- its lines in preorder
abbrev pub lines_of : Branch → List Node
lines_of (Refuted e) = node.Refuted e ∷ []
lines_of (Split lower upper) = node.Split ∷ (lines_of lower ++ lines_of upper)
lines_of Undecided = node.Left ∷ []

-- each leaf of the tree below a cell is refuted at its evidence, nothing is left undecided, and no cell of the finest
-- level is halved
abbrev pub IsRefutedBy : Questions → ℕ → ℕ → ℕ → Branch → Type 0
IsRefutedBy q root level path (Refuted e) = q.tests.refuted (cell_of q.grid root level path) e ≡ true
IsRefutedBy q root level path (Split lower upper) =
    (level < q.grid.finest) × IsRefutedBy q root (suc level) (2 * path) lower
    × IsRefutedBy q root (suc level) (2 * path + 1) upper
IsRefutedBy q root level path Undecided = ⊥

-- the tree below a cell goes down to a level: each leaf is refuted at its evidence, nothing refutes the cells that are
-- halved above the level, nor those that are left undecided at it
abbrev pub IsSearchedTo : Questions → ℕ → ℕ → ℕ → ℕ → Branch → Type 0
IsSearchedTo q last root level path (Refuted e) = q.tests.refuted (cell_of q.grid root level path) e ≡ true
IsSearchedTo q last root level path (Split lower upper) =
    (level < last) × (q.tests.first (cell_of q.grid root level path) ≡ None)
    × IsSearchedTo q last root (suc level) (2 * path) lower × IsSearchedTo q last root (suc level) (2 * path + 1) upper
IsSearchedTo q last root level path Undecided = (level ≡ last) × (q.tests.first (cell_of q.grid root level path) ≡ None)

-- trees below the roots from a number on, one after the other
abbrev pub AreBelow : (ℕ → Branch → Type 0) → ℕ → List Branch → Type 0
AreBelow IsBelow root [] = Unit {0}
AreBelow IsBelow root (b ∷ bs) = IsBelow root b × AreBelow IsBelow (root + 1) bs

-- the lines are those of such a tree below each root, in order
pub record IsForest (roots : ℕ) (IsBelow : ℕ → Branch → Type 0) (lines : List Node) : Type 0 where
  pub branches : List Branch
  pub count : length branches ≡ roots
  pub below : AreBelow IsBelow 1 branches
  pub spelled : lines ≡ flat_map lines_of branches

-- ---- a group
-- a witness has a number for each of the task's, is in range and holds
pub record IsAccepted (q : Questions) (root : ℕ) (at : List ℤ) : Type 0 where
  pub count : length at ≡ q.grid.numbers
  pub ranges : q.tests.in_range (witness_of root at) ≡ true
  pub meets : q.tests.holds (witness_of root at) ≡ true

-- the leaves of a tree from every root are refuted
abbrev pub IsRejected : Questions → List Node → Type 0
IsRejected q lines = IsForest q.grid.roots (λ root. IsRefutedBy q root 0 0) lines

-- the tree goes down to the level, and the level, the counts and the reason are those of the open verdict for the
-- budget
pub record IsOpen (q : Questions) (budget : ℕ) (counts : Counts) (lines : List Node) : Type 0 where
  pub searched : IsForest q.grid.roots (λ root. IsSearchedTo q counts.level root 0 0) lines
  pub end : verdict.IsVerdict q budget (verdict.Open (tree q counts.level) counts)

abbrev pub IsRightBody : Questions → ℕ → Body → Type 0
IsRightBody q budget (Accept root at) = IsAccepted q root at
IsRightBody q budget (Reject lines) = IsRejected q lines
IsRightBody q budget (Open counts lines) = IsOpen q budget counts lines

-- ---- a certificate
-- the groups are those of the tasks, in order, and each is right
abbrev pub AreRightBodies : List Questions → ℕ → List Body → Type 0
AreRightBodies [] budget [] = Unit {0}
AreRightBodies [] budget (b ∷ bs) = ⊥
AreRightBodies (q ∷ qs) budget [] = ⊥
AreRightBodies (q ∷ qs) budget (b ∷ bs) = IsRightBody q budget b × AreRightBodies qs budget bs

-- as many groups as tasks and as it tells, each right for the budget that it states
pub record IsRight (qs : List Questions) (c : Certificate) : Type 0 where
  pub told : c.told ≡ length qs
  pub groups : AreRightBodies qs c.share c.groups
