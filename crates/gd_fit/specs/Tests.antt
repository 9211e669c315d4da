-- The written tests of a group of conditions over the cells of placements.
use Rattle.std.specs.Prelude.{ℕ, zero, suc, ◌+◌, Bool, false, Option, None, Some, List, [], ◌∷◌, slice_get}
use Rattle.std.specs.List.{list_all}
use Rattle.std.specs.Option.{option_or}
use Rattle.gd_bound.specs.Evidence.{first, refuted_at}
use Rattle.gd_cells.specs.Meaning.{Questions}
use Rattle.gd_cells.specs.declared.cell.Cell.{Cell}
use Rattle.gd_cells.specs.declared.cell.Evidence.{Evidence}
use Rattle.gd_fit.specs.Fits.{Asked}
use Rattle.gd_grid.specs.Cells.{centre_of, is_in_range}
use Rattle.gd_points.specs.declared.table.Row.{Row}
use Rattle.gd_quat.specs.Formulas.{matrix_formula}
use Rattle.gd_turn.specs.Boxes.{offset_ends, three_from, turn_ends_in}
use Rattle.gd_turn.specs.Places.{assignment_at}
use Rattle.gd_turn.specs.Ranges.{cells_of, coordinates_of, roots_of}
use Rattle.gd_turn.specs.declared.ranges.Ranges.{Ranges}
use Rattle.gd_vec.specs.declared.vector.V3.{V3}
use Rattle.gd_zone.specs.Boxes.{PlacedEnds, grid_placed}
use Rattle.gd_zone.specs.Tests.{condition_holds}
use Rattle.gd_zone.specs.declared.condition.Condition.{Condition}

-- the box of a cell's placements: of the matrices of its rotations, of its translations and of both offsets
unfoldable pub cell_ends : Ranges → Cell → PlacedEnds
cell_ends r c = record {
  matrix = matrix_formula (turn_ends_in r c);
  shift = three_from r c 3;
  first = offset_ends r c 1;
  second = offset_ends r c 2;
}

-- the first evidence against the first of some conditions that is refuted over a box; they are numbered from a number
-- on
abbrev pub first_against : PlacedEnds → V3 → List Row → ℕ → List Condition → Option Evidence
first_against b base rows number [] = None
first_against b base rows number (c ∷ cs) =
    option_or (first b base rows c number) (first_against b base rows (number + 1) cs)

-- the condition with a number, from 1
abbrev pub numbered : List Condition → ℕ → Option Condition
numbered cs zero = None
numbered cs (suc i) = slice_get cs i

-- evidence refutes the condition that it names
abbrev pub refutes_named : PlacedEnds → V3 → List Row → Evidence → Option Condition → Bool
refutes_named b base rows e None = false
refutes_named b base rows e (Some c) = refuted_at b base rows c e

-- what a group asks of the cells and the witnesses of its ranges
abbrev pub questions_of : Asked → Questions
questions_of q = record {
  grid = cells_of q.ranges;
  tests = record {
    first = λ c. first_against (cell_ends q.ranges c) q.base q.rows 1 q.conditions;
    refuted = λ c e. refutes_named (cell_ends q.ranges c) q.base q.rows e (numbered q.conditions e.condition);
    centre = centre_of (cells_of q.ranges) (coordinates_of q.ranges);
    in_range = is_in_range (roots_of q.ranges.turn) (coordinates_of q.ranges);
    holds = λ w. list_all (condition_holds (grid_placed (assignment_at q.ranges w)) q.base q.rows) q.conditions;
  };
}
