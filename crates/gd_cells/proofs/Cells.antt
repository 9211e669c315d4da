-- The halves of a grid's cells, and how large their indexes are.
use Rattle.std.proofs.Common.{arith, ◌≡◌, ◌≢◌, refl, sym, ap, ◌∙◌, ℕ, zero, suc, ◌+◌, ◌-◌, ◌*◌, ◌/◌, ◌%◌, ◌^◌, ◌<◌, ◌≤◌, ◌==◌, if◌then◌else◌, List, ◌∷◌, ◌++◌, length, map, replicate, get_or, slice_set, add-one, pow-suc, inl, inr, true, false}
use Rattle.std.proofs.Math.Nat.{pow-le-pow_right}
use Rattle.std.proofs.lemmas.Bool.{cases_lt}
use Rattle.std.proofs.lemmas.Bool.Decides.{nat_tests}
use Rattle.std.proofs.lemmas.List.{get_or-append_right, length-map}
use Rattle.gd_cells.specs.Grid.{Grid, IsCell, MOST_DIMS, cell_of, count_from, halvings, index_of}
use Rattle.gd_cells.specs.Halves.{half, halves, whole_root}
use Rattle.gd_cells.specs.Laws.{IsGrid}
use Rattle.gd_cells.specs.declared.cell.Cell.{Cell}

-- ---- one step of the path
halved_step : (g : Grid) (l p side c : ℕ) → side < 2 → g.steps l ≡ c → index_of g c (suc l) (2 * p + side) ≡ 2 * index_of g c l p + side
halved_step g l p side c small e =
    let d : (2 * p + side) / 2 ≡ p = omega arith in
    let m : (2 * p + side) % 2 ≡ side = omega arith in
    rw (e, d, m) (grind (arith, nat_tests))

other_step : (g : Grid) (l p side c : ℕ) → side < 2 → g.steps l ≢ c → index_of g c (suc l) (2 * p + side) ≡ index_of g c l p
other_step g l p side c small ne =
    let d : (2 * p + side) / 2 ≡ p = omega arith in
    rw d (grind (arith, nat_tests))

-- ---- one step of all coordinates
others : (g : Grid) (l p side a n : ℕ) → side < 2 → g.steps l < a → map (λ c. index_of g c l p) (count_from a n) ≡ map (λ c. index_of g c (suc l) (2 * p + side)) (count_from a n)
others g l p side a zero small h = refl
others g l p side a (suc n) small h =
    let e : index_of g a (suc l) (2 * p + side) ≡ index_of g a l p = other_step g l p side a small (λ s. omega arith) in
    rw (others g l p side (a + 1) n small (omega arith)) (ap (λ x. x ∷ map (λ c. index_of g c (suc l) (2 * p + side)) (count_from (a + 1) n)) (sym e))

step_of_all : (g : Grid) (l p side a n k : ℕ) (zs : List ℕ) → side < 2 → g.steps l ≡ a + k → k < n →
    slice_set (map (λ c. index_of g c l p) (count_from a n) ++ zs) k (2 * index_of g (g.steps l) l p + side)
    ≡ map (λ c. index_of g c (suc l) (2 * p + side)) (count_from a n) ++ zs
step_of_all g l p side a zero k zs small at h = absurd (omega arith)
step_of_all g l p side a (suc n) zero zs small at h =
    let e : g.steps l ≡ a = omega (arith, at) in
    rw (halved_step g l p side a small e, e) (ap (λ xs. (2 * index_of g a l p + side) ∷ xs ++ zs) (others g l p side (a + 1) n small (omega arith)))
step_of_all g l p side a (suc n) (suc k) zs small at h =
    rw (other_step g l p side a small (λ s. omega arith)) (ap (λ xs. index_of g a l p ∷ xs) (step_of_all g l p side (a + 1) n k zs small (omega arith) (omega arith)))

-- ---- an index by its place
index_at : (f : ℕ → ℕ) (a n k : ℕ) (zs : List ℕ) → k < n → get_or (map f (count_from a n) ++ zs) k 0 ≡ f (a + k)
index_at f a zero k zs h = absurd (omega arith)
index_at f a (suc n) zero zs h = ap f (omega arith)
index_at f a (suc n) (suc k) zs h = index_at f (a + 1) n k zs (omega arith) ∙ ap f (omega arith)

zero_at : (n k : ℕ) → ◌≡◌ {A = ℕ} (get_or (replicate n 0) k 0) 0
zero_at zero k = refl
zero_at (suc n) zero = refl
zero_at (suc n) (suc k) = zero_at n k

pub length-count_from : (a n : ℕ) → length (count_from a n) ≡ n
length-count_from a zero = refl
length-count_from a (suc n) = ap suc (length-count_from (a + 1) n)

some_pow : (n : ℕ) → 0 < 2 ^ n
some_pow zero = omega arith
some_pow (suc n) = omega (arith, pow-suc 2 n, some_pow n)

-- ---- the halves of a cell have the two longer paths
half_at : (g : Grid) (r l p side : ℕ) → side < 2 → g.steps l < g.dims → half (g.steps l) side (cell_of g r l p) ≡ cell_of g r (suc l) (2 * p + side)
unfolding half cell_of
half_at g r l p side small inside =
    let e : get_or (map (λ c. index_of g c l p) (count_from 0 g.dims) ++ replicate (MOST_DIMS - g.dims) 0) (g.steps l) 0 ≡ index_of g (g.steps l) l p =
    index_at (λ c. index_of g c l p) 0 g.dims (g.steps l) (replicate (MOST_DIMS - g.dims) 0) inside ∙ ap (λ c. index_of g c l p) (omega arith) in
    rw (e, add-one, step_of_all g l p side 0 g.dims (g.steps l) (replicate (MOST_DIMS - g.dims) 0) small (omega arith) inside) refl

pub level_at : (g : Grid) (r l p : ℕ) → (cell_of g r l p).level ≡ l
unfolding cell_of
level_at g r l p = refl

pub halves_at : (g : Grid) → IsGrid g → (r l p : ℕ) → l < g.finest → halves g (cell_of g r l p) ≡ (cell_of g r (suc l) (2 * p), cell_of g r (suc l) (2 * p + 1))
unfolding half cell_of
halves_at g grid r l p above =
    let e : (cell_of g r l p).level ≡ l = level_at g r l p in
    let inside : g.steps l < g.dims = grid.coordinates l above in
    let z : 2 * p + 0 ≡ 2 * p = omega arith in
    rw (e, half_at g r l p 0 (omega arith) inside, half_at g r l p 1 (omega arith) inside, z) refl

-- ---- the roots
zeros : (g : Grid) (a n m : ℕ) → map (λ c. index_of g c 0 0) (count_from a n) ++ replicate m 0 ≡ replicate (n + m) 0
zeros g a zero m = let e : 0 + m ≡ m = omega arith in rw e refl
zeros g a (suc n) m = let e : suc n + m ≡ suc (n + m) = omega arith in rw e (ap (λ xs. 0 ∷ xs) (zeros g (a + 1) n m))

pub root_at : (g : Grid) → IsGrid g → (r : ℕ) → cell_of g r 0 0 ≡ whole_root r
unfolding cell_of
root_at g grid r =
    let few : g.dims ≤ MOST_DIMS = omega (arith, grid.few_dims, grid.few_numbers) in
    let n : g.dims + (MOST_DIMS - g.dims) ≡ MOST_DIMS = omega arith in
    rw (zeros g 0 g.dims (MOST_DIMS - g.dims), n) refl

-- ---- roots and halves are cells of the grid
pub root_is_cell : (g : Grid) → IsGrid g → (r : ℕ) → 1 ≤ r → r ≤ g.roots → IsCell g (whole_root r)
root_is_cell g grid r first last = record {
  root = r;
  level = 0;
  path = 0;
  first_root = first;
  last_root = last;
  deepest = omega arith;
  inside = omega arith;
  same = sym (root_at g grid r);
}

half_is_cell : (g : Grid) → IsGrid g → (c : Cell) → (cell : IsCell g c) → c.level < g.finest → (side : ℕ) → side < 2 → IsCell g (half (g.steps c.level) side c)
half_is_cell g grid c cell above side small =
    let l : c.level ≡ cell.level = ap (λ (d : Cell). d.level) cell.same ∙ level_at g cell.root cell.level cell.path in
    record {
      root = cell.root;
      level = suc cell.level;
      path = 2 * cell.path + side;
      first_root = cell.first_root;
      last_root = cell.last_root;
      deepest = omega arith;
      inside = omega (arith, pow-suc 2 cell.level, cell.inside);
      same = ap (λ m. half (g.steps m) side c) l ∙ (ap (half (g.steps cell.level) side) cell.same ∙ half_at g cell.root cell.level cell.path side small (grid.coordinates cell.level (omega arith)));
    }

pub halves_are_cells : (g : Grid) → IsGrid g → (c : Cell) → IsCell g c → c.level < g.finest → IsCell g (halves g c).0 × IsCell g (halves g c).1
halves_are_cells g grid c cell above = (half_is_cell g grid c cell above 0 (omega arith), half_is_cell g grid c cell above 1 (omega arith))

-- ---- how large an index is
index_of-below : (g : Grid) (c l p : ℕ) → index_of g c l p < 2 ^ halvings g c l
index_of-below g c zero p = omega arith
index_of-below g c (suc l) p =
    let h : index_of g c l (p / 2) < 2 ^ halvings g c l = index_of-below g c l (p / 2) in
    let two : 2 ^ (halvings g c l + 1) ≡ 2 ^ halvings g c l * 2 = rw add-one (pow-suc 2 (halvings g c l)) in
    let m : p % 2 < 2 = omega arith in
    elim (g.steps l == c) as (λ v. (if v then 2 * index_of g c l (p / 2) + p % 2 else index_of g c l (p / 2)) < 2 ^ (if v then halvings g c l + 1 else halvings g c l))
    [ true ↦ omega (arith, two) | false ↦ h ]

-- a coordinate is halved by each step at most once
pub halvings_few : (g : Grid) (c l : ℕ) → halvings g c l ≤ l
halvings_few g c zero = omega arith
halvings_few g c (suc l) =
    elim (g.steps l == c) as (λ v. (if v then halvings g c l + 1 else halvings g c l) ≤ suc l)
    [ true ↦ omega (arith, halvings_few g c l) | false ↦ omega (arith, halvings_few g c l) ]

one_more : (g : Grid) (c l : ℕ) → halvings g c l ≤ halvings g c (suc l)
one_more g c l =
    elim (g.steps l == c) as (λ v. halvings g c l ≤ (if v then halvings g c l + 1 else halvings g c l)) [ true ↦ omega arith | false ↦ omega arith ]

halvings-mono : (g : Grid) (c l m : ℕ) → l ≤ m → halvings g c l ≤ halvings g c m
halvings-mono g c l zero h = let e : l ≡ 0 = omega arith in rw e (omega arith)
halvings-mono g c l (suc m) h = elim (cases_lt l (suc m)) [
  | inl below ↦ omega (arith, halvings-mono g c l m (omega arith), one_more g c m)
  | inr above ↦ let e : l ≡ suc m = omega arith in rw e (omega arith)
]

index_fits : (g : Grid) (r l p k : ℕ) → get_or (cell_of g r l p).index k 0 < 2 ^ halvings g k l
unfolding cell_of
index_fits g r l p k = elim (cases_lt k g.dims) [
  | inl below ↦ let z : 0 + k ≡ k = omega arith in rw (index_at (λ c. index_of g c l p) 0 g.dims k (replicate (MOST_DIMS - g.dims) 0) below, z) (index_of-below g k l p)
  | inr above ↦
      let n : length (map (λ c. index_of g c l p) (count_from 0 g.dims)) ≡ g.dims = length-map _ _ ∙ length-count_from 0 g.dims in
      rw (get_or-append_right (map (λ c. index_of g c l p) (count_from 0 g.dims)) (replicate (MOST_DIMS - g.dims) 0) g.dims k 0 n above, zero_at (MOST_DIMS - g.dims) (k - g.dims)) (some_pow (halvings g k l))
]

-- each index of a cell counts boxes of its own size
pub index_small : (g : Grid) → (c : Cell) → IsCell g c → (k : ℕ) → get_or c.index k 0 < 2 ^ halvings g k c.level
index_small g c cell k =
    let e : c ≡ cell_of g cell.root cell.level cell.path = cell.same in
    let l : c.level ≡ cell.level = ap (λ (d : Cell). d.level) e ∙ level_at g cell.root cell.level cell.path in
    rw (l, e) (index_fits g cell.root cell.level cell.path k)

-- the index that a cell's next step halves has room for one bit more
pub index_below : (g : Grid) → IsGrid g → (c : Cell) → IsCell g c → c.level < g.finest → get_or c.index (g.steps c.level) 0 < 2 ^ 60
index_below g grid c cell above =
    let few : halvings g (g.steps c.level) c.level ≤ 60 = omega (arith, halvings-mono g (g.steps c.level) c.level g.finest (omega arith), grid.few_halvings (g.steps c.level)) in
    omega (arith, index_small g c cell (g.steps c.level), pow-le-pow_right {n = 2} (omega arith) few)
