-- The laws of flatness as a task.
use Rattle.std.proofs.Common.{arith, ◌≡◌, refl, ℕ, ◌^◌, ◌<◌, ◌≤◌, pos, Bool, true, false, ◌&&◌, nat_le, ℤ, List, ◌∷◌}
use Rattle.std.proofs.Common.{length, replicate, unsigned_abs, ◌-◌}
use Rattle.std.proofs.lemmas.List.Elements.{All-cons, All-replicate}
use Rattle.std.proofs.lemmas.Bool.{false≢true}
use Rattle.std.proofs.lemmas.Bool.Decides.{nat_tests}
use Rattle.std.proofs.lemmas.Int.{ints}
use Rattle.gd_base.specs.Limits.{POINTS}
use Rattle.gd_base.specs.Scales.{ONE}
use Rattle.gd_cells.specs.Witnesses.{zeros_behind}
use Rattle.gd_cells.proofs.Cells.{halvings_few}
use Rattle.gd_cells.specs.Grid.{halvings, MOST_DIMS}
use Rattle.gd_cells.specs.Laws.{CentreInRange, CentreNamesPlace, FirstIsShort, FirstRefutes, HalvesCover}
use Rattle.gd_cells.specs.Laws.{HoldsIsFeasible, IsGrid, NoneRefutes, RefutedIsEmpty, RootsCover, Laws}
use Rattle.gd_cells.specs.declared.cell.Cell.{Cell}
use Rattle.gd_cells.specs.declared.cell.Witness.{Witness}
use Rattle.gd_dir.proofs.Enclosure.{box_encloses}
use Rattle.gd_dir.proofs.Halves.{faces_cover, grid_has_face_cells, halves_cover}
use Rattle.gd_dir.proofs.Ratios.{on_face}
use Rattle.gd_dir.specs.Boxes.{box_of}
use Rattle.gd_dir.specs.Directions.{entry}
use Rattle.gd_dir.specs.Faces.{index_at, middle, faces}
use Rattle.gd_flat.specs.Laws.Accepts.{leads, within_is_flat}
use Rattle.gd_flat.specs.Laws.Evidences.{first_is_short, first_refutes, none_refutes}
use Rattle.gd_flat.specs.Laws.Refutations.{refuted_is_empty}
use Rattle.gd_flat.specs.FlatTask.{IsFeasible, IsInside, assignment_of, axis_of, direction_at, is_in_range}
use Rattle.gd_flat.specs.FlatTask.{questions_of, ratio_at, vector_of}
use Rattle.gd_points.specs.declared.table.Row.{Row}

-- ---- the grid
pub faces_grid : IsGrid faces
faces_grid = record {
  some_roots = omega arith;
  few_roots = omega arith;
  some_dims = omega arith;
  few_dims = omega arith;
  few_numbers = omega arith;
  few_levels = omega arith;
  coordinates = λ l h. omega arith;
  few_halvings = λ coordinate. halvings_few faces coordinate 60;
}

-- ---- the cells cover
roots_cover : (rows : List Row) (tolerance : ℕ) → RootsCover faces (IsFeasible rows tolerance) IsInside
roots_cover rows tolerance a feasible = record {
  root = axis_of a;
  first = feasible.first;
  last = feasible.last;
  lies_inside = faces_cover (axis_of a) (vector_of a) feasible.first feasible.last feasible.leads;
}

faces_halve : HalvesCover faces IsInside
faces_halve a root level path one last above inside lies =
    halves_cover root level path (axis_of a) (vector_of a) above lies

-- ---- evidence
flat_first_refutes : (rows : List Row) (tolerance : ℕ) → 0 < length rows → FirstRefutes (questions_of rows tolerance)
flat_first_refutes rows tolerance some c e cell first = first_refutes rows tolerance (box_of c) e some first

flat_none_refutes : (rows : List Row) (tolerance : ℕ) → NoneRefutes (questions_of rows tolerance)
flat_none_refutes rows tolerance c e cell none = none_refutes rows tolerance (box_of c) e none

flat_first_is_short : (rows : List Row) (tolerance : ℕ) → 0 < length rows → length rows ≤ POINTS
    → FirstIsShort (questions_of rows tolerance)
flat_first_is_short rows tolerance some few c e cell first = first_is_short rows tolerance (box_of c) e some few first

flat_refuted_is_empty : (rows : List Row) (tolerance : ℕ)
    → RefutedIsEmpty (questions_of rows tolerance) (IsFeasible rows tolerance) IsInside
flat_refuted_is_empty rows tolerance c e a cell refuted lies feasible =
    refuted_is_empty rows tolerance (box_of c) e (entry (axis_of a) (vector_of a))
    (vector_of a) refuted feasible.leads.positive
    (box_encloses c (grid_has_face_cells c cell) (axis_of a) (vector_of a) feasible.leads lies) feasible.zone

-- ---- witnesses
pub record InRange (w : Witness) : Type 0 where
  pub first_root : 1 ≤ w.root
  pub last_root : w.root ≤ 3
  pub first : unsigned_abs (ratio_at 0 w) ≤ ONE
  pub second : unsigned_abs (ratio_at 1 w) ≤ ONE
  pub rest : zeros_behind 2 w ≡ true

le_true : (a b : ℕ) → a ≤ b → nat_le a b ≡ true
le_true a b h = grind (arith, nat_tests)

true_le : (a b : ℕ) → nat_le a b ≡ true → a ≤ b
true_le a b h = grind (arith, nat_tests)

in_range_from : (w : Witness) → InRange w → is_in_range w ≡ true
in_range_from w r = rw (
  le_true 1 w.root r.first_root,
  le_true w.root 3 r.last_root,
  le_true
      (unsigned_abs (ratio_at 0 w)) ONE r.first,
  le_true (unsigned_abs (ratio_at 1 w)) ONE r.second,
) r.rest

five : (p q r s t : Bool) → p && (q && (r && (s && t))) ≡ true → (p ≡ true) × (q ≡ true) × (r ≡ true) × (s ≡ true)
    × (t ≡ true)
five true true true true true h = (refl, refl, refl, refl, refl)
five false q r s t h = absurd (false≢true h)
five true false r s t h = absurd (false≢true h)
five true true false s t h = absurd (false≢true h)
five true true true false t h = absurd (false≢true h)
five true true true true false h = absurd (false≢true h)

pub in_range_gives : (w : Witness) → is_in_range w ≡ true → InRange w
in_range_gives w h =
    let f = five (nat_le 1 w.root) (nat_le w.root 3) (nat_le (unsigned_abs (ratio_at 0 w)) ONE)
    (nat_le (unsigned_abs (ratio_at 1 w)) ONE) (zeros_behind 2 w) h in
    record {
      first_root = true_le 1 w.root f.0;
      last_root = true_le w.root 3 f.1;
      first = true_le _ ONE f.2;
      second = true_le _ ONE f.3;
      rest = f.4;
    }

middle_size : (ratio : ℕ) (c : Cell) → index_at ratio c < 2 ^ halvings faces ratio c.level
    → unsigned_abs (middle ratio c) ≤ ONE
middle_size ratio c h =
    let inside = on_face (index_at ratio c) (halvings faces ratio c.level) h in
    omega (arith, ints, inside)

flat_centre_in_range : (rows : List Row) (tolerance : ℕ) → CentreInRange (questions_of rows tolerance)
flat_centre_in_range rows tolerance c cell =
    let f = grid_has_face_cells c cell in
    in_range_from ((questions_of rows tolerance).tests.centre c)
    (record {
      first_root = f.first_root;
      last_root = f.last_root;
      first = middle_size 0 c f.first;
      second = middle_size 1 c f.second;
      rest = refl;
    })

abbrev is_small : ℤ → Type 0
is_small x = unsigned_abs x < 2 ^ 62

flat_centre_names_place : (rows : List Row) (tolerance : ℕ) → CentreNamesPlace (questions_of rows tolerance)
flat_centre_names_place rows tolerance c cell =
    let f = grid_has_face_cells c cell in
    let first : unsigned_abs (middle 0 c) ≤ ONE = middle_size 0 c f.first in
    let second : unsigned_abs (middle 1 c) ≤ ONE = middle_size 1 c f.second in
    record {
      room = refl;
      first = f.first_root;
      last = f.last_root;
      sizes = All-cons is_small (middle 0 c) (middle 1 c ∷ replicate (MOST_DIMS - 2) (pos 0)) (omega (arith, first))
          (All-cons is_small (middle 1 c) (replicate (MOST_DIMS - 2) (pos 0)) (omega (arith, second))
          (All-replicate is_small (MOST_DIMS - 2) (pos 0) (omega arith)));
      behind = refl;
    }

flat_holds_is_feasible : (rows : List Row) (tolerance : ℕ)
    → HoldsIsFeasible (questions_of rows tolerance) (IsFeasible rows tolerance)
    (λ w. assignment_of w.root (direction_at w))
flat_holds_is_feasible rows tolerance w in_range holds =
    let r = in_range_gives w in_range in
    record {
      first = r.first_root;
      last = r.last_root;
      leads = leads w.root (ratio_at 0 w) (ratio_at 1 w) r.first r.second r.first_root r.last_root;
      zone = within_is_flat rows tolerance (direction_at w) holds;
    }

-- ---- all of them
pub flat_laws : (rows : List Row) (tolerance : ℕ) → 0 < length rows → length rows ≤ POINTS
    → Laws (questions_of rows tolerance) (IsFeasible rows tolerance) IsInside
    (λ w. assignment_of w.root (direction_at w))
flat_laws rows tolerance some few = record {
  is_grid = faces_grid;
  roots_cover = roots_cover rows tolerance;
  halves_cover = faces_halve;
  first_refutes = flat_first_refutes rows tolerance some;
  none_refutes = flat_none_refutes rows tolerance;
  first_is_short = flat_first_is_short rows tolerance some few;
  refuted_is_empty = flat_refuted_is_empty rows tolerance;
  centre_in_range = flat_centre_in_range rows tolerance;
  holds_is_feasible = flat_holds_is_feasible rows tolerance;
  centre_names_place = flat_centre_names_place rows tolerance;
}
