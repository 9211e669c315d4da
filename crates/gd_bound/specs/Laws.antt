-- What refuting evidence means, and when there is some.
use Rattle.std.specs.Prelude.{ℕ, ◌≡◌, true, false, List, None}
use Rattle.std.specs.Option.{IfSome}
use Rattle.gd_cells.specs.declared.cell.Evidence.{Evidence}
use Rattle.gd_points.specs.declared.table.Row.{Row}
use Rattle.gd_quat.specs.Placements.{IsPlacement, Placement}
use Rattle.gd_vec.specs.declared.vector.V3.{V3}
use Rattle.gd_bound.specs.Evidence.{first, refuted_at}
use Rattle.gd_zone.specs.Boxes.{HoldsPlacement, PlacedEnds, placed_ends}
use Rattle.gd_zone.specs.Conditions.{IsCondition, Meets}
use Rattle.gd_zone.specs.Refutations.{condition_refuted}
use Rattle.gd_zone.specs.declared.condition.Condition.{Condition}
use Rattle.gd_zone.specs.declared.placed.Placed.{Placed}

-- no placement of the box meets the condition
abbrev pub IsUnmet : Placed → V3 → List Row → Condition → Type 0
IsUnmet b base rows c = (p : Placement) → IsPlacement p → HoldsPlacement b p → Meets p base rows c → ⊥

-- no evidence refutes the condition
abbrev pub NothingRefutes : PlacedEnds → V3 → List Row → Condition → Type 0
NothingRefutes b base rows c = (e : Evidence) → refuted_at b base rows c e ≡ false

-- where some evidence refutes, the condition is refuted by its written test
abbrev pub EvidenceRefutes : Type 0
EvidenceRefutes = (b : PlacedEnds) (base : V3) (rows : List Row) (c : Condition) (e : Evidence)
    → IsCondition c → refuted_at b base rows c e ≡ true → condition_refuted b base rows c ≡ true

-- so no placement of the box meets it
abbrev pub RefutedIsEmpty : Type 0
RefutedIsEmpty = (b : Placed) (base : V3) (rows : List Row) (c : Condition) (e : Evidence)
    → IsCondition c → refuted_at (placed_ends b) base rows c e ≡ true → IsUnmet b base rows c

-- the first evidence refutes
abbrev pub FirstRefutes : Type 0
FirstRefutes = (b : PlacedEnds) (base : V3) (rows : List Row) (c : Condition) (number : ℕ)
    → IsCondition c → IfSome (first b base rows c number) (λ e. refuted_at b base rows c e ≡ true)

-- where there is none, no evidence refutes
abbrev pub NoneRefutes : Type 0
NoneRefutes = (b : PlacedEnds) (base : V3) (rows : List Row) (c : Condition) (number : ℕ) (e : Evidence)
    → IsCondition c → first b base rows c number ≡ None → refuted_at b base rows c e ≡ false
