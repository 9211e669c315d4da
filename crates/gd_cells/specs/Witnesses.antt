-- Witnesses by their numbers.
use Rattle.std.specs.Prelude.{ℕ, ◌-◌, ◌++◌, ℤ, pos, Bool, List, drop, length, replicate}
use Rattle.std.specs.Cmp.Lexicographic.{pointwise}
use Rattle.std.specs.Ordering.{int_eq}
use Rattle.gd_cells.specs.Grid.{MOST_DIMS}
use Rattle.gd_cells.specs.declared.cell.Witness.{Witness}

-- the witness of a root and some numbers: 0 stands after them
abbrev pub witness_of : ℕ → List ℤ → Witness
witness_of root at = record { root = root; at = at ++ replicate (MOST_DIMS - length at) (pos 0) }

-- 0 stands after the first n numbers of a witness
abbrev pub zeros_behind : ℕ → Witness → Bool
zeros_behind n w = pointwise int_eq (drop n w.at) (replicate (MOST_DIMS - n) (pos 0))
