-- Coordinates that are halved in turn: how often each is, and the grid that they make.
use Rattle.std.proofs.Common.{arith, ◌≡◌, ◌≢◌, refl, sym, ap, subst, ◌∙◌, ℕ, zero, suc, ◌+◌, ◌-◌, ◌*◌, ◌/◌, ◌%◌, ◌^◌}
use Rattle.std.proofs.Common.{◌≤◌, ◌<◌, cond, ◌==◌, List, [], ◌∷◌, length, get_or, ◌⊎◌, inl, inr}
use Rattle.std.proofs.lemmas.Bool.{cases_lt}
use Rattle.std.proofs.lemmas.Bool.Decides.{nat_tests}
use Rattle.std.proofs.lemmas.Nat.{div-add-mod', div-mul-add, mod-mul-add}
use Rattle.std.proofs.Math.Nat.{min-le_left, min-le_right, mod-eq_of_lt, mod-lt, mul-le-mul_right, zero-div}
use Rattle.gd_cells.proofs.Cells.{index_small, level_at}
use Rattle.gd_cells.specs.Grid.{Grid, IsCell, halvings}
use Rattle.gd_cells.specs.declared.cell.Cell.{Cell}
use Rattle.gd_grid.proofs.Steps.{halvings_grow}
use Rattle.gd_grid.specs.Cells.{coordinate_at}
use Rattle.gd_grid.specs.Laws.{AreCoordinates, CellsHaveBoxes, CoordinatesMakeGrid, TurnsAreHalvings}
use Rattle.gd_grid.specs.Turns.{HasBox, at_turn, full_turns, grid_of, turns}
use Rattle.gd_grid.specs.declared.coordinate.Coordinate.{Coordinate}

-- ---- one step more
-- the number of a step in its turn goes up, or the turn is full
record Next (d l : ℕ) : Type 0 where
  full : suc l / d ≡ l / d
  steps : suc l % d ≡ l % d + 1

record Full (d l : ℕ) : Type 0 where
  full : suc l / d ≡ l / d + 1
  steps : suc l % d ≡ 0
  last : l % d + 1 ≡ d

next : (d l : ℕ) → 0 < d → Next d l ⊎ Full d l
next d l some =
    let q : ℕ = l / d in
    let r : ℕ = l % d in
    let e : q * d + r ≡ l = div-add-mod' l d in
    let small : r < d = mod-lt l some in
    elim (cases_lt (r + 1) d) as (λ _. Next d l ⊎ Full d l) [
      | inl h ↦ (let s : suc l ≡ q * d + (r + 1) = omega (arith, e) in
          inl (record {
            full = ap (λ m. m / d) s ∙ div-mul-add q d (r + 1) h;
            steps = ap (λ m. m % d) s
                ∙ mod-mul-add q d (r + 1) h;
          }))
      | inr h ↦ (let t : r + 1 ≡ d = omega (arith, small) in
          let s : suc l ≡ (q + 1) * d + 0 = omega (arith, e, t) in
          inr (record {
            full = ap (λ m. m / d) s ∙ div-mul-add (q + 1) d 0 some;
            steps = ap (λ m. m % d) s
                ∙ mod-mul-add (q + 1) d 0 some;
            last = t;
          }))
    ]

one_more : (q r n : ℕ) → (cond (r == n) (at_turn q r n + 1) (at_turn q r n)) ≡ at_turn q (r + 1) n
one_more q r n = grind (arith, nat_tests)

at_end : (q d n : ℕ) → n < d → at_turn q d n ≡ at_turn (q + 1) 0 n
at_end q d n h = grind (arith, nat_tests)

at_start : (n : ℕ) → at_turn 0 0 n ≡ 0
at_start n = grind (arith, nat_tests)

pub turns_are : (g : Grid) (d n l : ℕ) → ((m : ℕ) → g.steps m ≡ m % d) → n < d → halvings g n l ≡ turns d n l
turns_are g d n zero same h =
    let some : 0 < d = omega arith in
    let q : 0 / d ≡ 0 = zero-div d in
    let r : 0 % d ≡ 0 = mod-eq_of_lt some in
    sym (ap (λ m. at_turn m (0 % d) n) q ∙ ap (λ m. at_turn 0 m n) r ∙ at_start n)
turns_are g d n (suc l) same h =
    let some : 0 < d = omega arith in
    let before : halvings g n l ≡ turns d n l = turns_are g d n l same h in
    let step : halvings g n (suc l) ≡ cond (l % d == n) (turns d n l + 1) (turns d n l) = ap
    (λ s. cond (s == n) (halvings g n l + 1) (halvings g n l)) (same l)
    ∙ ap (λ m. cond (l % d == n) (m + 1) m) before in
    let more : halvings g n (suc l) ≡ at_turn (l / d) (l % d + 1) n = step ∙ one_more (l / d) (l % d) n in
    elim (next d l some) as (λ _. halvings g n (suc l) ≡ turns d n (suc l)) [
      | inl e ↦ more ∙ sym (ap (λ m. at_turn m (suc l % d) n) e.full ∙ ap (λ m. at_turn (l / d) m n) e.steps)
      | inr e ↦ more ∙ ap (λ m. at_turn (l / d) m n) e.last ∙ at_end (l / d) d n h
          ∙ sym (ap (λ m. at_turn m (suc l % d) n) e.full ∙ ap (λ m. at_turn (l / d + 1) m n) e.steps)
    ]

pub turns_are_halvings : TurnsAreHalvings
turns_are_halvings roots ks n level h = turns_are (grid_of roots ks) (length ks) n level (λ m. refl) h

-- a number past the coordinates is never halved
past_all : (g : Grid) (d n l : ℕ) → ((m : ℕ) → g.steps m ≡ m % d) → 0 < d → d ≤ n → halvings g n l ≡ 0
past_all g d n zero same some h = refl
past_all g d n (suc l) same some h =
    let small : l % d < d = mod-lt l some in
    let s : g.steps l ≢ n = λ e. (let t : l % d ≡ n = sym (same l) ∙ e in omega arith) in
    let before = past_all g d n l same some h in
    grind (arith, nat_tests)

-- ---- the finest level
turns_at_end : (d n m : ℕ) → n < d → turns d n (d * m) ≡ m
turns_at_end d n m h =
    let some : 0 < d = omega arith in
    let e : d * m ≡ m * d + 0 = omega arith in
    let q : (d * m) / d ≡ m = ap (λ l. l / d) e ∙ div-mul-add m d 0 some in
    let r : (d * m) % d ≡ 0 = ap (λ l. l % d) e ∙ mod-mul-add m d 0 some in
    ap (λ k. at_turn k ((d * m) % d) n) q ∙ ap (λ k. at_turn m k n) r ∙ grind (arith, nat_tests)

pub few_turns : (ks : List Coordinate) → full_turns ks ≤ 60
few_turns [] = omega arith
few_turns (k ∷ ks) = omega (arith, min-le_right (k.bits - 1) (full_turns ks), few_turns ks)

turns_leave : (ks : List Coordinate) (n : ℕ) → n < length ks → full_turns ks ≤ (coordinate_at ks n).bits - 1
turns_leave [] n h = absurd (omega arith)
turns_leave (k ∷ ks) zero h = min-le_left (k.bits - 1) (full_turns ks)
turns_leave (k ∷ ks) (suc n) h = omega (
  arith,
  min-le_right (k.bits - 1)
      (full_turns ks),
  turns_leave ks n (omega arith),
)

finest_is : (roots : ℕ) (ks : List Coordinate) (n : ℕ) → n < length ks
    → halvings (grid_of roots ks) n (length ks * full_turns ks) ≡ full_turns ks
finest_is roots ks n h = turns_are_halvings roots ks n (length ks * full_turns ks) h
    ∙ turns_at_end (length ks) n (full_turns ks) h

few_at : (roots : ℕ) (ks : List Coordinate) (n : ℕ) → 1 ≤ length ks
    → halvings (grid_of roots ks) n (length ks * full_turns ks) ≤ 60
few_at roots ks n some = elim (cases_lt n (length ks)) as
    (λ _. halvings (grid_of roots ks) n (length ks * full_turns ks) ≤ 60) [
      | inl below ↦ rw (finest_is roots ks n below) (few_turns ks)
      | inr above ↦ rw (past_all (grid_of roots ks) (length ks) n (length ks * full_turns ks)
          (λ m. refl) (omega arith) above) (omega arith)
    ]

few_levels : (d m : ℕ) → d ≤ 12 → m ≤ 60 → d * m ≤ 1000
few_levels d m h k =
    let a : d * m ≤ 12 * m = mul-le-mul_right m h in
    omega (arith, a)

pub coordinates_make_grid : CoordinatesMakeGrid
coordinates_make_grid roots ks one four are = (
  record {
    some_roots = one;
    few_roots = four;
    some_dims = are.some;
    few_dims = omega arith;
    few_numbers = are.few;
    few_levels = few_levels (length ks) (full_turns ks) are.few (few_turns ks);
    coordinates = λ l h. mod-lt l (omega (arith, are.some));
    few_halvings = λ n. few_at roots ks n are.some;
  },
  record {
    dims = refl;
    steps = λ l h. mod-lt l (omega (arith, are.some));
    coordinates = are.each;
    wide = λ n h. (let some = (are.each n h).some in let e = finest_is roots ks n h in omega (
      arith,
      e,
      turns_leave ks
          n h,
    ));
  },
)

pub all_have_boxes : CellsHaveBoxes
all_have_boxes roots ks c are cell n h =
    let g : Grid = grid_of roots ks in
    let l : c.level ≡ cell.level = ap (λ (d : Cell). d.level) cell.same ∙ level_at g cell.root cell.level cell.path in
    let t : halvings g n c.level ≡ turns (length ks) n c.level = turns_are_halvings roots ks n c.level h in
    let deep : c.level ≤ length ks * full_turns ks = omega (arith, cell.deepest) in
    let more : halvings g n c.level ≤ halvings g n (length ks * full_turns ks) = halvings_grow g n c.level (length ks *
    full_turns ks) deep in
    let end = finest_is roots ks n h in
    let some = (are.each n h).some in
    let small : get_or c.index n 0 < 2 ^ halvings g n c.level = index_small g c cell n in
    record {
      coordinate = are.each n h;
      inside = h;
      few = are.few;
      level = omega (arith, deep, few_levels (length ks) (full_turns ks) are.few (few_turns ks));
      halvings = omega (arith, t, more, end, turns_leave ks n h);
      index = subst (λ m. get_or c.index n 0 < 2 ^ m) t small;
    }

-- one of them
pub cells_have_boxes : (roots : ℕ) (ks : List Coordinate) (c : Cell) (n : ℕ) → AreCoordinates ks
    → IsCell (grid_of roots ks) c → n < length ks → HasBox (coordinate_at ks n) n (length ks) c
cells_have_boxes roots ks c n are cell h = all_have_boxes roots ks c are cell n h
