-- The laws of a group of conditions as a task.
use Rattle.std.proofs.Common.{◌≡◌, refl, sym, subst, ◌≤◌, ◌<◌, true, Option, None, Some, List, [], ◌∷◌, length, get_or}
use Rattle.std.proofs.Common.{arith}
use Rattle.std.proofs.lemmas.Bool.{false≢true}
use Rattle.std.proofs.lemmas.List.{length-map}
use Rattle.std.proofs.lemmas.List.Elements.{All-map}
use Rattle.std.proofs.lemmas.List.Sums.{AllPass-from_list_all}
use Rattle.std.specs.List.{All, list_all}
use Rattle.std.specs.Prelude.{ℤ}
use Rattle.gd_bound.proofs.Refuting.{refuted-is-empty}
use Rattle.gd_bound.specs.Evidence.{refuted_at}
use Rattle.gd_cells.specs.Laws.{HalvesCover, Laws, RootsCover}
use Rattle.gd_cells.specs.declared.cell.Cell.{Cell}
use Rattle.gd_cells.specs.declared.cell.Witness.{Witness}
use Rattle.gd_base.specs.Limits.{CONDITIONS, POINTS}
use Rattle.gd_fit.specs.Fits.{Asked, IsAsked, IsFit, asked_of, numbers_of, placement_in}
use Rattle.gd_fit.specs.Laws.Boxes.{IsCellPlaced, IsPlacedAt, cell_placed, grid_is_placed}
use Rattle.gd_fit.specs.Laws.Evidence.{first_is_short, first_refutes_named, named, none_refutes_named}
use Rattle.gd_fit.specs.Subjects.{AreJudged, SpeakOf, conditions_of}
use Rattle.gd_fit.specs.Meant.{HeldPlacesFit, IsUnmetIn, NoneFits, NumbersStand, RefutedIsUnmet}
use Rattle.gd_fit.specs.Tests.{cell_ends, numbered, questions_of, refutes_named}
use Rattle.gd_points.specs.declared.table.Row.{Row}
use Rattle.gd_grid.proofs.Centres.{centres_in_range}
use Rattle.gd_grid.proofs.Grids.{coordinates_make_grid}
use Rattle.gd_grid.specs.Cells.{IsGridOf}
use Rattle.gd_quat.proofs.Grid.{grid-placement}
use Rattle.gd_quat.specs.Placements.{IsPlacement, Placement, placement_of}
use Rattle.gd_turn.proofs.Assignments.{witnesses_are_placements}
use Rattle.gd_turn.proofs.Coordinates.{are_coordinates, first_root, last_root}
use Rattle.gd_turn.proofs.Covers.{cells_make_grid, turn_halves, turn_roots}
use Rattle.gd_turn.specs.Places.{assignment_at}
use Rattle.gd_turn.specs.Ranges.{AreRanges, LiesIn, cells_of, coordinates_of, roots_of}
use Rattle.gd_turn.specs.declared.ranges.Ranges.{Ranges}
use Rattle.gd_zone.proofs.Meeting.{tests-are-sound}
use Rattle.gd_vec.specs.declared.vector.V3.{V3}
use Rattle.gd_zone.specs.Boxes.{HoldsPlacement, PlacedEnds, placed_ends}
use Rattle.gd_zone.specs.Conditions.{IsCondition, Meets}
use Rattle.gd_zone.specs.Tests.{condition_holds}
use Rattle.gd_zone.specs.declared.condition.Condition.{Condition}
use Rattle.gd_zone.specs.declared.placed.Placed.{Placed}
use Rattle.gd_zone.specs.declared.subject.Subject.{Subject}

pub numbers_stand : NumbersStand
numbers_stand p = refl

-- which placements fit, and which lie in a cell, by their numbers
abbrev pub Fit : Asked → List ℤ → Type 0
Fit q a = IsFit q (placement_in a)

abbrev pub Lies : Asked → List ℤ → Cell → Type 0
Lies q a c = LiesIn q.ranges c (placement_in a)

-- ---- the cells cover
fit_roots : (q : Asked) → IsAsked q → RootsCover (cells_of q.ranges) (Fit q) (Lies q)
fit_roots q asked a fit =
    let r = turn_roots q.ranges (placement_in a) asked.ranges fit.placement fit.range in
    record { root = r.root; first = r.first; last = r.last; lies_inside = r.lies }

fit_halves : (q : Asked) → IsAsked q → HalvesCover (cells_of q.ranges) (Lies q)
fit_halves q asked a root level path first last above inside lies =
    turn_halves q.ranges (placement_in a) root level path asked.ranges above lies

halved : (r : Ranges) → AreRanges r → IsGridOf (cells_of r) (coordinates_of r)
halved r are =
    (coordinates_make_grid (roots_of r.turn) (coordinates_of r) (first_root r) (last_root r) (are_coordinates r are)).1

-- ---- a refuted cell has no placement that meets the condition which its evidence names
pub refuted_is_unmet : RefutedIsUnmet
refuted_is_unmet q c e asked cell h = by (numbered q.conditions e.condition) refl h
  where
    over : (k : Condition) → numbered q.conditions e.condition ≡ Some k
        → refuted_at (cell_ends q.ranges c) q.base q.rows k e ≡ true → (b : Placed) × IsCellPlaced q.ranges c b
        → (p : Placement) → IsPlacement p → LiesIn q.ranges c p → Meets p q.base q.rows k → ⊥
    over k is r b p ok lies m =
        refuted-is-empty b.0 q.base q.rows k e (named IsCondition q.conditions e.condition k asked.conditions is)
        (subst (λ (z : PlacedEnds). refuted_at z q.base q.rows k e ≡ true) (sym b.1.ends) r) p ok
        (b.1.holds p ok lies) m

    by : (o : Option Condition) → numbered q.conditions e.condition ≡ o
        → refutes_named (cell_ends q.ranges c) q.base q.rows e o ≡ true → IsUnmetIn q c e
    by None is r = absurd (false≢true r)
    by (Some k) is r = record {
      condition = k;
      named = is;
      unmet = over k is r (cell_placed q.ranges c asked.ranges cell);
    }

pub none_fits : NoneFits
none_fits q c e p asked cell h lies fit = by (refuted_is_unmet q c e asked cell h)
  where
    by : IsUnmetIn q c e → ⊥
    by u = u.unmet p fit.placement lies
        (named (λ (k : Condition). Meets p q.base q.rows k) q.conditions e.condition u.condition fit.meets u.named)

-- ---- a place in range that holds fits
all_met : (b : Placed) (p : Placement) (base : V3) (rows : List Row) (cs : List Condition) → IsPlacement p
    → HoldsPlacement b p → All IsCondition cs → list_all (condition_holds (placed_ends b) base rows) cs ≡ true
    → All (Meets p base rows) cs
all_met b p base rows cs ok held are h k d l =
    tests-are-sound b p base rows (get_or cs k d) ok held (are k d l)
    (AllPass-from_list_all (condition_holds (placed_ends b) base rows) cs h k d l)

pub held_places_fit : HeldPlacesFit
held_places_fit q w asked range holds =
    let at = witnesses_are_placements q.ranges w asked.ranges range in
    record {
      placement = grid-placement (assignment_at q.ranges w);
      range = at.range;
      meets = by (grid_is_placed (assignment_at q.ranges w) at.grid);
    }
  where
    by : (b : Placed) × IsPlacedAt (assignment_at q.ranges w) b
        → All (Meets (placement_of (assignment_at q.ranges w)) q.base q.rows) q.conditions
    by b =
        let all = subst (λ (z : PlacedEnds). list_all (condition_holds z q.base q.rows) q.conditions ≡ true)
        (sym b.1.ends) holds in
        all_met b.0 (placement_of (assignment_at q.ranges w)) q.base q.rows q.conditions
        (grid-placement (assignment_at q.ranges w)) b.1.holds asked.conditions all

-- ---- all of them
pub fit_laws : (q : Asked) → IsAsked q
    → Laws (questions_of q) (Fit q) (Lies q) (λ (w : Witness). numbers_of (placement_of (assignment_at q.ranges w)))
fit_laws q asked =
    let r : Ranges = q.ranges in
    let is_grid = cells_make_grid r asked.ranges in
    record {
      is_grid = is_grid;
      roots_cover = fit_roots q asked;
      halves_cover = fit_halves q asked;
      first_refutes = λ c e cell h. first_refutes_named (cell_ends r c) q.base q.rows q.conditions e asked.conditions h;
      none_refutes = λ c e cell h. none_refutes_named (cell_ends r c) q.base q.rows q.conditions e asked.conditions h;
      first_is_short = λ c e cell h.
          first_is_short (cell_ends r c) q.base q.rows q.conditions e asked.conditions asked.few asked.points h;
      refuted_is_empty = λ c e a cell h lies fit. none_fits q c e (placement_in a) asked cell h lies fit;
      centre_in_range = λ c cell.
          (centres_in_range (cells_of r) (coordinates_of r) c (halved r asked.ranges) is_grid refl cell).0;
      holds_is_feasible = λ w range h. held_places_fit q w asked range h;
      centre_names_place = λ c cell.
          (centres_in_range (cells_of r) (coordinates_of r) c (halved r asked.ranges) is_grid refl cell).1;
    }

-- ---- the conditions of subjects are asked together
few_rows : (rows : List Row) (subjects : List Subject) → SpeakOf rows subjects → 0 < length (conditions_of subjects)
    → length rows ≤ POINTS
few_rows rows [] of some = absurd (omega (arith, some))
few_rows rows (s ∷ ss) of some = subst (λ (r : List Row). length r ≤ POINTS) (of 0 s (omega arith)) s.few

pub are_asked : (ranges : Ranges) (base : V3) (rows : List Row) (subjects : List Subject) → AreRanges ranges
    → AreJudged subjects → SpeakOf rows subjects → length subjects ≤ CONDITIONS
    → IsAsked (asked_of ranges base rows (conditions_of subjects))
are_asked ranges base rows subjects are judged of few = record {
  ranges = are;
  conditions = All-map IsCondition (λ (s : Subject). s.condition) subjects judged;
  few = subst (λ n. n ≤ CONDITIONS) (sym (length-map subjects (λ (s : Subject). s.condition))) few;
  points = few_rows rows subjects of;
}
