-- What the answers of a group's task mean for placements.
use Rattle.std.specs.Prelude.{◌≡◌, true, Some}
use Rattle.gd_cells.specs.Grid.{IsCell}
use Rattle.gd_cells.specs.declared.cell.Cell.{Cell}
use Rattle.gd_cells.specs.declared.cell.Evidence.{Evidence}
use Rattle.gd_cells.specs.declared.cell.Witness.{Witness}
use Rattle.gd_fit.specs.Fits.{Asked, IsAsked, IsFit, numbers_of, placement_in}
use Rattle.gd_fit.specs.Tests.{numbered, questions_of}
use Rattle.gd_quat.specs.Placements.{IsPlacement, Placement, placement_of}
use Rattle.gd_turn.specs.Places.{assignment_at}
use Rattle.gd_turn.specs.Ranges.{LiesIn, cells_of}
use Rattle.gd_zone.specs.Conditions.{Meets}
use Rattle.gd_zone.specs.declared.condition.Condition.{Condition}

-- a place in range that holds is a placement in range that meets all conditions at once
abbrev pub HeldPlacesFit : Type 0
HeldPlacesFit = (q : Asked) (w : Witness) → IsAsked q → (questions_of q).tests.in_range w ≡ true
    → (questions_of q).tests.holds w ≡ true → IsFit q (placement_of (assignment_at q.ranges w))

-- where evidence refutes a cell, no placement that lies in the cell meets the condition that it names
pub record IsUnmetIn (q : Asked) (c : Cell) (e : Evidence) : Type 0 where
  pub condition : Condition
  pub named : numbered q.conditions e.condition ≡ Some condition
  pub unmet : (p : Placement) → IsPlacement p → LiesIn q.ranges c p → Meets p q.base q.rows condition → ⊥

abbrev pub RefutedIsUnmet : Type 0
RefutedIsUnmet = (q : Asked) (c : Cell) (e : Evidence) → IsAsked q → IsCell (cells_of q.ranges) c
    → (questions_of q).tests.refuted c e ≡ true → IsUnmetIn q c e

-- so no placement that lies in it fits
abbrev pub NoneFits : Type 0
NoneFits = (q : Asked) (c : Cell) (e : Evidence) (p : Placement) → IsAsked q → IsCell (cells_of q.ranges) c
    → (questions_of q).tests.refuted c e ≡ true → LiesIn q.ranges c p → IsFit q p → ⊥

-- the numbers of a placement stand for it
abbrev pub NumbersStand : Type 0
NumbersStand = (p : Placement) → placement_in (numbers_of p) ≡ p
