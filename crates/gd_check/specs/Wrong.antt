-- The first wrong line of a certificate: its groups in order, their lines in order, and at a line the codes in order.
use Rattle.std.specs.Prelude.{ℕ, ◌+◌, ℤ, Bool, true, false, not, ◌&&◌, ◌||◌, cond, nat_eq, nat_le, nat_lt, Option, Some, None, is_some, List, [], ◌∷◌, filter, length, map}
use Rattle.gd_base.specs.declared.verdict.Counts.{Counts}
use Rattle.gd_base.specs.declared.verdict.Reason.{Reason}
use Rattle.gd_base.specs.declared.verdict.Reason.TheVariants as reason
use Rattle.gd_cells.specs.Grid.{count_from, Grid}
use Rattle.gd_cells.specs.Halves.{halves, whole_root}
use Rattle.gd_cells.specs.Meaning.{Questions}
use Rattle.gd_cells.specs.declared.cell.Cell.{Cell}
use Rattle.gd_cells.specs.declared.node.Node.{Node}
use Rattle.gd_cells.specs.declared.node.Node.TheVariants.{Left, Refuted, Split}
use Rattle.gd_cert.specs.Certificates.{Accept, Body, Certificate, Reject, Open}
use Rattle.gd_cert.specs.Reading.{fault}
use Rattle.gd_cert.specs.Text.{body_lines}
use Rattle.gd_cert.specs.declared.fault.CertFault.{CertFault}
use Rattle.gd_check.specs.Rules.{broken, code_of}
use Rattle.gd_check.specs.declared.rule.Rule.TheVariants as rule
use Rattle.gd_check.specs.declared.tree.TreeOf.{TreeOf}
use Rattle.gd_check.specs.declared.tree.TreeOf.TheVariants as tree_of
use Rattle.gd_cells.specs.Witnesses.{witness_of}

-- a fault, or else the next
abbrev pub or_else : Option CertFault → Option CertFault → Option CertFault
or_else (Some f) next = Some f
or_else None next = next

-- ---- the lines of a tree
-- what a tree is of: a rejected group, or an open one whose tree goes down to a level
pub data Kind : Type 0 where
  OfReject : Kind
  OfOpen : ℕ → Kind

abbrev pub kind_of : TreeOf → Kind
kind_of tree_of.Reject = OfReject
kind_of (tree_of.Open level) = OfOpen level

-- a cell that may not be left or halved in an open group: something refutes it, or its centre holds
abbrev pub is_decided : Questions → Cell → Bool
is_decided q c = is_some (q.tests.first c) || q.tests.holds (q.tests.centre c)

-- a halved cell that the kind of the tree forbids
abbrev pub is_wrong_split : Questions → Kind → Cell → Bool
is_wrong_split q OfReject c = false
is_wrong_split q (OfOpen last) c = is_decided q c || nat_le last c.level

-- an undecided cell that the kind of the tree forbids. The text of a reject has none
abbrev pub is_wrong_left : Questions → Kind → Cell → Bool
is_wrong_left q OfReject c = true
is_wrong_left q (OfOpen last) c = is_decided q c || not (nat_eq c.level last)

-- the code of a wrong line of a cell
abbrev pub line_code : Questions → Kind → Cell → Node → Option ℕ
line_code q kind c Split = cond (nat_eq c.level q.grid.finest) (Some (code_of rule.FinestLevel)) (cond (is_wrong_split q kind c) (Some (code_of rule.Open)) None)
line_code q kind c Left = cond (is_wrong_left q kind c) (Some (code_of rule.Open)) None
line_code q kind c (Refuted e) = cond (q.tests.refuted c e) None (Some (code_of rule.Evidence))

-- the cells that wait for their lines after the line of a cell: its halves first, where it is halved
abbrev pub waiting_after : Questions → Cell → Node → List Cell → List Cell
waiting_after q c Split cells = (halves q.grid c).0 ∷ (halves q.grid c).1 ∷ cells
waiting_after q c Left cells = cells
waiting_after q c (Refuted e) cells = cells

-- the fault of a line with a code, or else what comes next
abbrev pub with_code : ℕ → Option ℕ → Option CertFault → Option CertFault
with_code line (Some code) next = Some (fault line code)
with_code line None next = next

-- the first wrong line, from this line on, where these cells wait for their lines in order: a wrong line of its cell, a
-- line too many, or a cell without a line
unfoldable pub wrong_line : Questions → Kind → List Cell → ℕ → List Node → Option CertFault
wrong_line q kind [] line [] = None
wrong_line q kind [] line (node ∷ nodes) = Some (broken rule.NoCell line)
wrong_line q kind (c ∷ cells) line [] = Some (broken rule.NoLine line)
wrong_line q kind (c ∷ cells) line (node ∷ nodes) =
    with_code line (line_code q kind c node) (wrong_line q kind (waiting_after q c node cells) (line + 1) nodes)

-- the cells of all roots, in order
abbrev pub root_cells : Questions → List Cell
root_cells q = map whole_root (count_from 1 q.grid.roots)

-- ---- the counts of an open group
abbrev pub is_split : Node → Bool
is_split Split = true
is_split (Refuted e) = false
is_split Left = false

abbrev pub is_left : Node → Bool
is_left Split = false
is_left (Refuted e) = false
is_left Left = true

-- the reason, the last of the counts, doesn't fit: the grid doesn't end at the level, or it does; or to halve the
-- undecided cells wouldn't pass the budget
abbrev pub is_wrong_reason : Grid → ℕ → Counts → Reason → Bool
is_wrong_reason g budget c reason.Budget = nat_le (c.spent + c.undecided) budget || nat_eq c.level g.finest
is_wrong_reason g budget c reason.Floor = not (nat_eq c.level g.finest)

-- what the counts state isn't so, or isn't an open verdict for the budget
abbrev pub are_wrong_counts : Questions → ℕ → Counts → List Node → Bool
are_wrong_counts q budget c nodes =
    not (nat_eq c.undecided (length (filter is_left nodes)))
    || (not (nat_eq c.spent (length (filter is_split nodes)))
    || (nat_lt budget c.spent || (is_wrong_reason q.grid budget c c.reason || nat_eq c.undecided 0)))

-- ---- a group, whose first line has this number
-- the numbers of a witness are as many as the task's, and name a place in range
abbrev pub is_placed : Questions → ℕ → List ℤ → Bool
is_placed q root at = nat_eq (length at) q.grid.numbers && q.tests.in_range (witness_of root at)

abbrev pub wrong_body : Questions → ℕ → ℕ → Body → Option CertFault
wrong_body q budget line (Accept root at) =
    cond (is_placed q root at) (cond (q.tests.holds (witness_of root at)) None (Some (broken rule.Witness (line + 1)))) (Some (broken rule.Place (line + 1)))
wrong_body q budget line (Reject nodes) = wrong_line q OfReject (root_cells q) (line + 1) nodes
wrong_body q budget line (Open counts nodes) =
    or_else (wrong_line q (OfOpen counts.level) (root_cells q) (line + 2) nodes)
    (cond (are_wrong_counts q budget counts nodes) (Some (broken rule.Open (line + 1))) None)

-- ---- a certificate
-- the groups of the tasks, of which the first begins on this line
abbrev pub wrong_bodies : List Questions → ℕ → ℕ → List Body → Option CertFault
wrong_bodies [] budget line bodies = None
wrong_bodies (q ∷ qs) budget line [] = None
wrong_bodies (q ∷ qs) budget line (b ∷ bs) = or_else (wrong_body q budget line b) (wrong_bodies qs budget (line + 1 + length (body_lines b)) bs)

-- as many groups as tasks and as the fourth line states: else that line is wrong
abbrev pub are_counted : List Questions → Certificate → Bool
are_counted qs c = nat_eq (length c.groups) (length qs) && nat_eq c.told (length qs)

abbrev pub first_wrong : List Questions → Certificate → Option CertFault
first_wrong qs c = cond (are_counted qs c) (wrong_bodies qs c.share 5 c.groups) (Some (broken rule.Groups 4))
