-- Rows by their numbers, and their coordinates in the order of some numbers.
use Rattle.std.proofs.Common.{◌≡◌, ◌∙◌, ap, refl, sym, subst, ℕ, ℤ, zero, suc, ◌+◌, ◌<◌, ◌≤◌, List, [], ◌∷◌, Bool, true, false, cond, filter, length, get_or, map, take, drop, Some, arith}
use Rattle.std.specs.Prelude.{pos, slice_get, unsigned_abs}
use Rattle.std.specs.List.{All, range_with_len}
use Rattle.std.proofs.lemmas.Bool.{false≢true}
use Rattle.std.proofs.lemmas.List.{drop-map, get_or-map, length-map, take-map}
use Rattle.std.proofs.lemmas.List.Elements.{All-head, All-tail}
use Rattle.std.proofs.lemmas.List.FromFn.{length-range_with_len}
use Rattle.std.proofs.Math.ListN as lists
use Rattle.gd_points.specs.Columns.{AreColumns}
use Rattle.gd_points.specs.Index.{numbers_where, passes, row_at}
use Rattle.gd_points.specs.declared.table.Row.{Row}
use Rattle.gd_vec.specs.Vector.{IsWithin}

-- ---- the rows that pass a test are those with the numbers of these
-- from a place on
from-place : (test : Row → Bool) (all rows : List Row) (a : ℕ) → ((k : ℕ) → slice_get all (a + k) ≡ slice_get rows k) → ((k : ℕ) → row_at all (a + k) ≡ row_at rows k)
    → map (row_at all) (filter (λ i. passes test (slice_get all i)) (range_with_len a (length rows))) ≡ filter test rows
from-place test all [] a s g = refl
from-place test all (r ∷ rows) a s g =
    let s0 : slice_get all a ≡ Some r = ap (slice_get all) (sym (zero-more a)) ∙ s 0 in
    let g0 : row_at all a ≡ r = ap (row_at all) (sym (zero-more a)) ∙ g 0 in
    let more = from-place test all rows (a + 1) (λ k. ap (slice_get all) (one-more a k) ∙ s (suc k)) (λ k. ap (row_at all) (one-more a k) ∙ g (suc k)) in
    by (test r) (passes test (slice_get all a)) (ap (passes test) s0) g0 more
  where
    zero-more : (a : ℕ) → a + 0 ≡ a
    zero-more a = omega arith

    one-more : (a k : ℕ) → (a + 1) + k ≡ a + suc k
    one-more a k = omega arith

    by : (t u : Bool) → u ≡ t → row_at all a ≡ r
        → map (row_at all) (filter (λ i. passes test (slice_get all i)) (range_with_len (a + 1) (length rows))) ≡ filter test rows
        → map (row_at all) (cond u (a ∷ filter (λ i. passes test (slice_get all i)) (range_with_len (a + 1) (length rows))) (filter (λ i. passes test (slice_get all i)) (range_with_len (a + 1) (length rows))))
        ≡ cond t (r ∷ filter test rows) (filter test rows)
    by true true e h m = rw (h, m) refl
    by false false e h m = m
    by true false e h m = absurd (false≢true e)
    by false true e h m = absurd (false≢true (sym e))

pub rows_where : (test : Row → Bool) (rows : List Row) → map (row_at rows) (numbers_where test rows) ≡ filter test rows
rows_where test rows = from-place test rows rows 0 (λ k. ap (slice_get rows) (none-more k)) (λ k. ap (row_at rows) (none-more k))
  where
    none-more : (k : ℕ) → 0 + k ≡ k
    none-more k = omega arith

-- as many as numbers
pub count_where : (test : Row → Bool) (rows : List Row) → length (filter test rows) ≡ length (numbers_where test rows)
count_where test rows = ap length (sym (rows_where test rows)) ∙ length-map (numbers_where test rows) (row_at rows)

-- each is the row with the number at its place
pub row_where : (test : Row → Bool) (rows : List Row) (k : ℕ) → k < length (numbers_where test rows) → row_at (filter test rows) k ≡ row_at rows (get_or (numbers_where test rows) k 0)
row_where test rows k less = ap (λ rs. row_at rs k) (sym (rows_where test rows)) ∙ get_or-map (row_at rows) (numbers_where test rows) k 0 (row_at [] 0) less

-- no more than all
filter_short : (p : ℕ → Bool) (xs : List ℕ) → length (filter p xs) ≤ length xs
filter_short p [] = omega arith
filter_short p (x ∷ xs) = one (p x) (filter_short p xs)
  where
    one : (b : Bool) → length (filter p xs) ≤ length xs → length (cond b (x ∷ filter p xs) (filter p xs)) ≤ suc (length xs)
    one true less = omega arith
    one false less = omega arith

pub few_of : (p : ℕ → Bool) (n size : ℕ) (found : List ℕ) → found ≡ filter p (range_with_len 0 n) → n ≤ size → length found ≤ size
few_of p n size found is few =
    let short = filter_short p (range_with_len 0 n) in
    let all = length-range_with_len 0 n in
    let same = ap length is in
    omega arith

-- ---- the coordinates of the rows with some numbers
column_at : (f : Row → ℤ) (rows : List Row) → f (row_at [] 0) ≡ pos 0 → (numbers : List ℕ) → map (λ i. get_or (map f rows) i (pos 0)) numbers ≡ map f (map (row_at rows) numbers)
column_at f rows none [] = refl
column_at f rows none (i ∷ numbers) =
    let one : get_or (map f rows) i (pos 0) ≡ f (row_at rows i) = ap (λ d. get_or (map f rows) i d) (sym none) ∙ lists.get_or-map f rows i (row_at [] 0) in
    rw (one, column_at f rows none numbers) refl

pub columns_at : (rows : List Row) (xs ys zs : List ℤ) (numbers : List ℕ) (us vs ws : List ℤ) → AreColumns xs ys zs rows → us ≡ map (λ i. get_or xs i (pos 0)) numbers → vs ≡ map (λ i. get_or ys i (pos 0)) numbers
    → ws ≡ map (λ i. get_or zs i (pos 0)) numbers → AreColumns us vs ws (map (row_at rows) numbers)
columns_at rows xs ys zs numbers us vs ws are x y z = record {
  x = x ∙ ap (λ xs. map (λ i. get_or xs i (pos 0)) numbers) are.x ∙ column_at (λ (r : Row). r.at.x) rows refl numbers;
  y = y ∙ ap (λ ys. map (λ i. get_or ys i (pos 0)) numbers) are.y ∙ column_at (λ (r : Row). r.at.y) rows refl numbers;
  z = z ∙ ap (λ zs. map (λ i. get_or zs i (pos 0)) numbers) are.z ∙ column_at (λ (r : Row). r.at.z) rows refl numbers;
}

-- each number of a row is that of a coordinate
pub in_columns : (f : Row → ℤ) (rows : List Row) (xs : List ℤ) (numbers : List ℕ) → xs ≡ map f rows → All (λ i. i < length rows) numbers → All (λ i. i < length xs) numbers
in_columns f rows xs numbers is below = subst (λ n. All (λ i. i < n) numbers) (sym (ap length is ∙ length-map rows f)) below

-- ---- a part of numbers and of columns
piece : {A B : Type 0} (f : A → B) (n m : ℕ) (xs : List A) → take n (drop m (map f xs)) ≡ map f (take n (drop m xs))
piece f n m xs = ap (take n) (drop-map f m xs) ∙ take-map f n (drop m xs)

column_part : (f : Row → ℤ) (rows : List Row) (n m : ℕ) (xs : List ℤ) (numbers : List ℕ) → xs ≡ map f (map (row_at rows) numbers) → take n (drop m xs) ≡ map f (map (row_at rows) (take n (drop m numbers)))
column_part f rows n m xs numbers is = ap (λ ys. take n (drop m ys)) is ∙ piece f n m (map (row_at rows) numbers) ∙ ap (map f) (piece (row_at rows) n m numbers)

pub columns_part : (rows : List Row) (n m : ℕ) (xs ys zs : List ℤ) (numbers : List ℕ) → AreColumns xs ys zs (map (row_at rows) numbers)
    → AreColumns (take n (drop m xs)) (take n (drop m ys)) (take n (drop m zs)) (map (row_at rows) (take n (drop m numbers)))
columns_part rows n m xs ys zs numbers are = record {
  x = column_part (λ (r : Row). r.at.x) rows n m xs numbers are.x;
  y = column_part (λ (r : Row). r.at.y) rows n m ys numbers are.y;
  z = column_part (λ (r : Row). r.at.z) rows n m zs numbers are.z;
}

-- as long as its numbers
pub as_long : (f : Row → ℤ) (rows : List Row) (xs : List ℤ) (numbers : List ℕ) → xs ≡ map f (map (row_at rows) numbers) → length xs ≡ length numbers
as_long f rows xs numbers is = ap length is ∙ length-map (map (row_at rows) numbers) f ∙ length-map numbers (row_at rows)

-- ---- sizes
row_within : (size : ℕ) (rows : List Row) (i : ℕ) → All (λ (r : Row). IsWithin size r.at) rows → IsWithin size (row_at rows i).at
row_within size [] i all = record { x = omega arith; y = omega arith; z = omega arith }
row_within size (r ∷ rows) zero all = All-head (λ (r : Row). IsWithin size r.at) r rows all
row_within size (r ∷ rows) (suc i) all = row_within size rows i (All-tail (λ (r : Row). IsWithin size r.at) r rows all)

pub column_within : (size : ℕ) (f : Row → ℤ) (rows : List Row) (xs : List ℤ) (numbers : List ℕ) → ((r : Row) → IsWithin size r.at → unsigned_abs (f r) ≤ size) → All (λ (r : Row). IsWithin size r.at) rows
    → xs ≡ map f (map (row_at rows) numbers) → All (λ x. unsigned_abs x ≤ size) xs
column_within size f rows xs numbers small all is = λ k d less.
    let long = as_long f rows xs numbers is in
    let two = length-map numbers (row_at rows) in
    let one : get_or xs k d ≡ f (row_at rows (get_or numbers k 0)) =
    ap (λ ys. get_or ys k d) is ∙ get_or-map f (map (row_at rows) numbers) k (row_at [] 0) d (omega arith) ∙ ap f (get_or-map (row_at rows) numbers k 0 (row_at [] 0) (omega arith)) in
    rw one (small (row_at rows (get_or numbers k 0)) (row_within size rows (get_or numbers k 0) all))

-- the columns of the rows that pass a test
pub columns_where : (test : Row → Bool) (rows : List Row) (xs ys zs : List ℤ) (numbers : List ℕ) → numbers ≡ numbers_where test rows → AreColumns xs ys zs (map (row_at rows) numbers) → AreColumns xs ys zs (filter test rows)
columns_where test rows xs ys zs numbers is are = subst (AreColumns xs ys zs) (ap (map (row_at rows)) is ∙ rows_where test rows) are
