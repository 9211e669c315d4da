-- Known values of the verdict of a task with two roots and one coordinate, which refutes its cells from level 2 on and
-- the halves of its first root.
use Rattle.std.proofs.Common.{◌≡◌, refl, pos, Bool, true, false, ◌&&◌, ◌||◌, nat_eq, nat_le, cond, Some, None, [], ◌∷◌}
use Rattle.gd_base.specs.declared.verdict.Reason.TheVariants as reason
use Rattle.gd_cells.specs.Grid.{cell_of}
use Rattle.gd_cells.specs.Meaning.{Questions}
use Rattle.gd_cells.specs.Witnesses.{witness_of}
use Rattle.gd_cells.specs.declared.cell.Cell.{Cell}
use Rattle.gd_cells.specs.declared.cell.Evidence.{Evidence}
use Rattle.gd_cells.specs.declared.node.Node.TheVariants.{Left, Refuted, Split}
use Rattle.gd_verdict.specs.Trees.{tree}
use Rattle.gd_verdict.specs.Verdict.{Open, Rejected, cells, centres, counts_of, end_at, undecided}

is_refuted : Cell → Bool
is_refuted c = nat_le 2 c.level || (nat_eq c.root 1 && nat_eq c.level 1)

-- point 7 refutes
seven : Evidence
seven = record { condition = 1; a = 7; b = 0 }

task : Questions
unfolding is_refuted seven
task = record {
  grid = record { roots = 2; dims = 1; numbers = 2; finest = 3; steps = λ l. 0 };
  tests = record {
    first = λ c. cond (is_refuted c) (Some seven) None;
    refuted = λ c e. is_refuted c;
    centre = λ c. witness_of c.root (pos c.level ∷ []);
    in_range = λ w. true;
    holds = λ w. false;
  };
}

cells_of_level : cells task.grid 1 ≡ (1, 0) ∷ (1, 1) ∷ (2, 0) ∷ (2, 1) ∷ []
unfolding cells task
cells_of_level = refl

undecided_of_level : undecided task 1 ≡ (2, 0) ∷ (2, 1) ∷ []
unfolding undecided cells cell_of task is_refuted
undecided_of_level = refl

tree_of_level : tree task 1 ≡ Split ∷ Refuted seven ∷ Refuted seven ∷ Split ∷ Left ∷ Left ∷ []
unfolding tree cell_of task is_refuted
tree_of_level = refl

-- two cells are split at level 0, and two more at level 1 would pass a budget of 3
stays_open : end_at task 3 1 ≡ Some (Open (tree task 1) (counts_of 1 2 2 reason.Budget))
unfolding end_at centres undecided cells cell_of task is_refuted
stays_open = refl

rejects : end_at task 4 2 ≡ Some (Rejected 6 (tree task 2))
unfolding end_at centres undecided cells cell_of task is_refuted
rejects = refl
