-- A small task for tests: two roots and one coordinate, and a witness of two numbers.
use Rattle.std.specs.Prelude.{ℕ, Bool, true, false, ◌&&◌, ◌||◌, ◌≡◌, cond, Some, None, nat_le, nat_eq, int_le, ℤ, pos}
use Rattle.std.specs.Prelude.{List, [], ◌∷◌, slice_index_or}
use Rattle.gd_cells.specs.Meaning.{Questions}
use Rattle.gd_cells.specs.Witnesses.{witness_of}
use Rattle.gd_cells.specs.declared.cell.Cell.{Cell}
use Rattle.gd_cells.specs.declared.cell.Evidence.{Evidence}
use Rattle.gd_cells.specs.declared.cell.Witness.{Witness}

-- its evidence: condition 1 at the point that has the root's number
abbrev pub evidence_of : Cell → Evidence
evidence_of c = record { condition = 1; a = c.root; b = 0 }

-- the centre of a cell: the cell's level
abbrev pub centre_of : Cell → Witness
centre_of c = witness_of c.root (pos c.level ∷ [])

-- which cells a depth refutes: those of that level and below, and the halves of the first root
abbrev pub ends : ℕ → Cell → Bool
ends depth c = nat_le depth c.level || (nat_eq c.root 1 && nat_eq c.level 1)

-- a task that shows every assignment from a level on, or refutes its cells from a depth on
abbrev pub toy : Bool → ℕ → ℤ → ℕ → Questions
toy shows depth least finest = record {
  grid = record { roots = 2; dims = 1; numbers = 2; finest = finest; steps = λ l. 0 };
  tests = record {
    first = λ c. cond shows None (cond (ends depth c) (Some (evidence_of c)) None);
    refuted = λ c e. cond shows false (ends depth c);
    centre = centre_of;
    in_range = λ w. true;
    holds = λ w. shows && int_le least (slice_index_or w.at 0 (pos 0));
  };
}

abbrev pub feasible_of : Bool → List ℤ → Type 0
feasible_of shows a = shows ≡ true

abbrev pub inside_all : List ℤ → Cell → Type 0
inside_all a c = Unit {0}
