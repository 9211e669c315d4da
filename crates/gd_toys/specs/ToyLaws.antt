-- The laws of the task of tests.
use Rattle.std.proofs.Common.{arith, ◌≡◌, ◌≤◌, ◌&&◌, int_le, slice_index_or, refl, subst, ◌^◌, ◌<◌, unsigned_abs, ℕ}
use Rattle.std.proofs.Common.{Bool, true, false, cond, Some, None, ℤ, pos, replicate, inl}
use Rattle.std.proofs.lemmas.List.Elements.{All-cons, All-replicate}
use Rattle.std.specs.List.{All}
use Rattle.gd_cells.proofs.Cells.{halvings_few}
use Rattle.gd_cells.specs.Grid.{Grid, IsCell, cell_of}
use Rattle.gd_cells.specs.Laws.{CentreNamesPlace, FirstIsShort, FirstRefutes, IsGrid, IsShort, Laws, NoneRefutes}
use Rattle.gd_cells.specs.declared.cell.Cell.{Cell}
use Rattle.gd_toys.specs.Toys.{centre_of, ends, evidence_of, feasible_of, inside_all, toy}

pub toy_grid : (shows : Bool) (depth : ℕ) (least : ℤ) (finest : ℕ) → finest ≤ 60
    → IsGrid (toy shows depth least finest).grid
toy_grid shows depth least finest few = record {
  some_roots = omega arith;
  few_roots = omega arith;
  some_dims = omega arith;
  few_dims = omega arith;
  few_numbers = omega arith;
  few_levels = omega arith;
  coordinates = λ l h. omega arith;
  few_halvings = λ c. omega (arith, halvings_few (toy shows depth least finest).grid c finest);
}

-- ---- evidence
first_refutes : (shows : Bool) (depth : ℕ) (least : ℤ) (finest : ℕ) → FirstRefutes (toy shows depth least finest)
first_refutes true depth least finest c e cell h = cc
first_refutes false depth least finest c e cell h =
    elim (ends depth c) as (λ v. cond v (Some (evidence_of c)) None ≡ Some e → v ≡ true)
    [ true ↦ λ f. refl | false ↦ λ f. cc ] h

none_refutes : (shows : Bool) (depth : ℕ) (least : ℤ) (finest : ℕ) → NoneRefutes (toy shows depth least finest)
none_refutes true depth least finest c e cell h = refl
none_refutes false depth least finest c e cell h =
    elim (ends depth c) as (λ v. cond v (Some (evidence_of c)) None ≡ None → v ≡ false)
    [ true ↦ λ f. cc | false ↦ λ f. refl ] h

-- ---- the numbers of a cell
root_is_first : (g : Grid) (c : Cell) → IsCell g c → 1 ≤ c.root
unfolding cell_of
root_is_first g c cell = rw cell.same cell.first_root

root_is_last : (g : Grid) (c : Cell) → IsCell g c → c.root ≤ g.roots
unfolding cell_of
root_is_last g c cell = rw cell.same cell.last_root

level_is_low : (g : Grid) (c : Cell) → IsCell g c → c.level ≤ g.finest
unfolding cell_of
level_is_low g c cell = rw cell.same cell.deepest

first_is_short : (shows : Bool) (depth : ℕ) (least : ℤ) (finest : ℕ) → FirstIsShort (toy shows depth least finest)
first_is_short true depth least finest c e cell h = cc
first_is_short false depth least finest c e cell h =
    let few : c.root ≤ 2 = root_is_last (toy false depth least finest).grid c cell in
    let short : IsShort (evidence_of c) = record { condition = omega arith; a = omega arith; b = omega arith } in
    elim (ends depth c) as (λ v. cond v (Some (evidence_of c)) None ≡ Some e → IsShort e)
    [ true ↦ λ f. let same : evidence_of c ≡ e = cc in subst IsShort same short | false ↦ λ f. cc ] h

abbrev is_small : ℤ → Type 0
is_small x = unsigned_abs x < 2 ^ 62

sizes_of : (c : Cell) → c.level ≤ 60 → All is_small (centre_of c).at
sizes_of c few = All-cons is_small (pos c.level) (replicate 11 (pos 0)) (omega arith)
    (All-replicate is_small 11 (pos 0) (omega arith))

centre_names_place : (shows : Bool) (depth : ℕ) (least : ℤ) (finest : ℕ) → finest ≤ 60
    → CentreNamesPlace (toy shows depth least finest)
centre_names_place shows depth least finest few c cell =
    let low : c.level ≤ finest = level_is_low (toy shows depth least finest).grid c cell in
    record {
      room = refl;
      first = root_is_first (toy shows depth least finest).grid c cell;
      last = root_is_last (toy shows depth least finest).grid c cell;
      sizes = sizes_of c (omega arith);
      behind = refl;
    }

-- ---- all of them. Where it shows, nothing is refuted, and else nothing holds
pub toy_laws : (shows : Bool) (depth : ℕ) (least : ℤ) (finest : ℕ) → finest ≤ 60
    → Laws (toy shows depth least finest) (feasible_of shows) inside_all (λ w. w.at)
toy_laws shows depth least finest few = record {
  is_grid = toy_grid shows depth least finest few;
  roots_cover = λ a can. record { root = 1; first = omega arith; last = omega arith; lies_inside = tt };
  halves_cover = λ a r l p f g h i j. inl tt;
  first_refutes = first_refutes shows depth least finest;
  none_refutes = none_refutes shows depth least finest;
  first_is_short = first_is_short shows depth least finest;
  refuted_is_empty = λ c e a cell is lies can. elim shows as (λ v. cond v false (ends depth c) ≡ true → v ≡ true → ⊥)
      [ true ↦ λ i j. cc | false ↦ λ i j. cc ] is can;
  centre_in_range = λ c cell. refl;
  holds_is_feasible = λ w ranges meets. elim shows as
      (λ v. v && int_le least (slice_index_or w.at 0 (pos 0)) ≡ true → v ≡ true)
      [ true ↦ λ m. refl | false ↦ λ m. cc ] meets;
  centre_names_place = centre_names_place shows depth least finest few;
}
