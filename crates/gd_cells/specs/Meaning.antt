-- What a task asks of the cells and the witnesses of its grid.
use Rattle.std.specs.Prelude.{Bool, Option}
use Rattle.gd_cells.specs.Grid.{Grid}
use Rattle.gd_cells.specs.declared.cell.Cell.{Cell}
use Rattle.gd_cells.specs.declared.cell.Evidence.{Evidence}
use Rattle.gd_cells.specs.declared.cell.Witness.{Witness}

-- the written tests of a cell and of a witness
pub record Tests : Type 0 where
  -- the first evidence that refutes a cell, if any does, and whether one does
  pub first : Cell → Option Evidence
  pub refuted : Cell → Evidence → Bool
  -- the centre of a cell, which witnesses are in range, and whether one holds
  pub centre : Cell → Witness
  pub in_range : Witness → Bool
  pub holds : Witness → Bool

pub record Questions : Type 0 where
  pub grid : Grid
  pub tests : Tests
