-- Numbers that are ordered by their keys, and those of one key among them.
use Rattle.std.proofs.Common.{◌≡◌, ◌∙◌, ap, sym, refl, subst, ℕ, ◌+◌, ◌*◌, ◌<◌, ◌≤◌, ◌++◌, map, List, [], ◌∷◌, inl, inr, length, get_or, take, drop, Bool, true, false, Option, Some, arith, ltb, leb, filter, ◌==◌, take-append-drop}
use Rattle.std.specs.Prelude.{◌&&◌, not, slice_get, zero, suc}
use Rattle.std.specs.List.{All, range_with_len}
use Rattle.std.specs.List.Sorted.{IsPartitionPoint, IsStableByKey, ties}
use Rattle.std.specs.Cmp.{nat_cmp_is}
use Rattle.std.specs.Ordering.{is_lt, nat_cmp}
use Rattle.std.specs.declared.cmp.Ordering.TheVariants.{Equal, Greater, Less}
use Rattle.std.proofs.Math.Nat.{eq-or-lt_of_le}
use Rattle.std.proofs.Math.Path.{fun_ext}
use Rattle.std.proofs.lemmas.Bool.{ltb-true, ltb-false}
use Rattle.std.proofs.lemmas.Bool.Decides.{nat_tests}
use Rattle.std.proofs.lemmas.List.{append-nil, get_or-drop, get_or-take, length-drop, length-map, length-take-le}
use Rattle.std.proofs.lemmas.List.Elements.{All-filter, All-head, All-tail, filter-append, filter_passes}
use Rattle.std.proofs.lemmas.List.FromFn.{get_or-range_with_len, length-range_with_len}
use Rattle.std.proofs.lemmas.Option.{get_or_from_slice_get, slice_get-map, slice_get_cases}
use Rattle.gd_points.specs.Columns.{label_of}
use Rattle.gd_points.specs.Index.{is_of, is_of_group, key_at, key_of, numbers_where, passes}
use Rattle.gd_points.specs.declared.index.OrderBy.{OrderBy}
use Rattle.gd_points.specs.declared.index.OrderBy.TheVariants as by
use Rattle.gd_points.specs.declared.table.Label.{Label}
use Rattle.gd_points.specs.declared.table.Row.{Row}

-- ---- filters of lists that pass, and that don't
pub keeps_all : (p : ℕ → Bool) (xs : List ℕ) → All (λ x. p x ≡ true) xs → filter p xs ≡ xs
keeps_all p [] all = refl
keeps_all p (x ∷ xs) all =
    let one = All-head (λ y. p y ≡ true) x xs all in
    rw one (ap (λ ys. x ∷ ys) (keeps_all p xs (All-tail (λ y. p y ≡ true) x xs all)))

pub keeps_none : (p : ℕ → Bool) (xs : List ℕ) → All (λ x. p x ≡ false) xs → filter p xs ≡ []
keeps_none p [] all = refl
keeps_none p (x ∷ xs) all =
    let one = All-head (λ y. p y ≡ false) x xs all in
    rw one (keeps_none p xs (All-tail (λ y. p y ≡ false) x xs all))

pub same_on : (p q : ℕ → Bool) (xs : List ℕ) → All (λ x. p x ≡ q x) xs → filter p xs ≡ filter q xs
same_on p q [] all = refl
same_on p q (x ∷ xs) all =
    let one = All-head (λ y. p y ≡ q y) x xs all in
    let more = same_on p q xs (All-tail (λ y. p y ≡ q y) x xs all) in
    rw (one, more) refl

-- ---- a stable sort keeps those of one key
below_by : (a b : ℕ) (is : Bool) → ltb a b ≡ is → is_lt (nat_cmp a b) ≡ is
below_by a b true e = ap is_lt (sym (nat_cmp_is a b Less (ltb-true a b e)))
below_by a b false e = elim (eq-or-lt_of_le {n = b} {m = a} (ltb-false a b e)) [
  | inl same ↦ ap is_lt (sym (nat_cmp_is a b Equal (sym same)))
  | inr less ↦ ap is_lt (sym (nat_cmp_is a b Greater less))
]

below_is : (a b : ℕ) → is_lt (nat_cmp a b) ≡ ltb a b
below_is a b = below_by a b (ltb a b) refl

tie_is : (a b : ℕ) → (not (ltb a b) && not (ltb b a)) ≡ (b == a)
tie_is a b = grind (arith, nat_tests)

ties_are : (key : ℕ → ℕ) (x : ℕ) → ties (λ a b. is_lt (nat_cmp (key a) (key b))) x ≡ (λ y. key y == key x)
ties_are key x = fun_ext (λ y. rw (below_is (key x) (key y), below_is (key y) (key x)) (tie_is (key x) (key y)))

same_as : (key : ℕ → ℕ) (xs ys : List ℕ) (x k : ℕ) → IsStableByKey key nat_cmp xs ys → key x ≡ k → filter (λ i. key i == k) ys ≡ filter (λ i. key i == k) xs
same_as key xs ys x k stable is =
    let at : filter (λ i. key i == key x) ys ≡ filter (λ i. key i == key x) xs = ap (λ p. filter p ys) (sym (ties_are key x)) ∙ stable x ∙ ap (λ p. filter p xs) (ties_are key x) in
    subst (λ n. filter (λ i. key i == n) ys ≡ filter (λ i. key i == n) xs) is at

first_passes : (key : ℕ → ℕ) (k : ℕ) (xs found : List ℕ) (x : ℕ) → filter (λ i. key i == k) xs ≡ x ∷ found → key x ≡ k
first_passes key k xs found x is =
    let all = filter_passes (λ i. key i == k) xs in
    let one : (key x == k) ≡ true = All-head (λ i. (key i == k) ≡ true) x found (subst (All (λ i. (key i == k) ≡ true)) is all) in
    grind (arith, nat_tests)

same_by : (key : ℕ → ℕ) (xs ys : List ℕ) (k : ℕ) → IsStableByKey key nat_cmp xs ys → (a b : List ℕ) → filter (λ i. key i == k) ys ≡ a → filter (λ i. key i == k) xs ≡ b → filter (λ i. key i == k) ys ≡ filter (λ i. key i == k) xs
same_by key xs ys k stable (y ∷ a) b first second = same_as key xs ys y k stable (first_passes key k ys a y first)
same_by key xs ys k stable [] (x ∷ b) first second = same_as key xs ys x k stable (first_passes key k xs b x second)
same_by key xs ys k stable [] [] first second = first ∙ sym second

pub same_keys : (key : ℕ → ℕ) (xs ys : List ℕ) → IsStableByKey key nat_cmp xs ys → (k : ℕ) → filter (λ i. key i == k) ys ≡ filter (λ i. key i == k) xs
same_keys key xs ys stable k = same_by key xs ys k stable (filter (λ i. key i == k) ys) (filter (λ i. key i == k) xs) refl refl

-- ---- those of one key lie between two places
module _ (key : ℕ → ℕ) (k : ℕ) where
  abbrev is_key : ℕ → Bool
  is_key i = key i == k

  below_fails : (i : ℕ) → ltb (key i) k ≡ true → is_key i ≡ false
  below_fails i below = let less = ltb-true (key i) k below in grind (arith, nat_tests)

  above_fails : (i : ℕ) → leb (key i) k ≡ false → is_key i ≡ false
  above_fails i above = grind (arith, nat_tests)

  between_passes : (i : ℕ) → ltb (key i) k ≡ false → leb (key i) k ≡ true → is_key i ≡ true
  between_passes i low high = grind (arith, nat_tests)

  between_at : (xs : List ℕ) (from count : ℕ) → from ≤ length xs → count ≤ length (drop from xs) → IsPartitionPoint (λ i. ltb (key i) k ≡ true) (λ i. ltb (key i) k ≡ false) xs from
      → IsPartitionPoint (λ i. leb (key i) k ≡ true) (λ i. leb (key i) k ≡ false) (drop from xs) count → take count (drop from xs) ≡ filter is_key xs
  between_at xs from count start end low high =
      let rest : List ℕ = drop from xs in
      let size : length rest + from ≡ length xs = let d = length-drop from xs in omega arith in
      let front : filter is_key (take from xs) ≡ [] = keeps_none is_key (take from xs) (λ i d less. let short = length-take-le from xs start in
      rw (get_or-take from xs i d (omega arith)) (below_fails (get_or xs i d) (low.0 i d (omega arith) (omega arith)))) in
      let middle : filter is_key (take count rest) ≡ take count rest = keeps_all is_key (take count rest) (λ i d less. let short = length-take-le count rest end in
      rw (get_or-take count rest i d (omega arith)) (between_passes (get_or rest i d) (rw (get_or-drop from xs i d) (low.1 (from + i) d (omega arith) (omega arith))) (high.0 i d (omega arith) (omega arith)))) in
      let back : filter is_key (drop count rest) ≡ [] = keeps_none is_key (drop count rest) (λ i d less. let left = length-drop count rest in
      rw (get_or-drop count rest i d) (above_fails (get_or rest (count + i) d) (high.1 (count + i) d (omega arith) (omega arith)))) in
      let one : filter is_key xs ≡ filter is_key (take from xs) ++ filter is_key rest = ap (filter is_key) (sym (take-append-drop from xs)) ∙ filter-append is_key (take from xs) rest in
      let two : filter is_key rest ≡ filter is_key (take count rest) ++ filter is_key (drop count rest) = ap (filter is_key) (sym (take-append-drop count rest)) ∙ filter-append is_key (take count rest) (drop count rest) in
      sym (one ∙ rw (front, two, middle, back) (append-nil (take count rest)))

  pub between : (xs rest : List ℕ) (from count : ℕ) → rest ≡ drop from xs → from ≤ length xs → count ≤ length rest → IsPartitionPoint (λ i. ltb (key i) k ≡ true) (λ i. ltb (key i) k ≡ false) xs from
      → IsPartitionPoint (λ i. leb (key i) k ≡ true) (λ i. leb (key i) k ≡ false) rest count → take count rest ≡ filter is_key xs
  between xs rest from count is start end low high =
      ap (take count) is ∙ between_at xs from count start (subst (λ ys. count ≤ length ys) is end) low (subst (λ ys. IsPartitionPoint (λ i. leb (key i) k ≡ true) (λ i. leb (key i) k ≡ false) ys count) is high)

-- ---- keys and features
in_row : (rows : List Row) (i : ℕ) (P : Option Row → Type 0) → i < length rows → ((row : Row) → slice_get rows i ≡ Some row → P (Some row)) → P (slice_get rows i)
in_row rows i P less each = elim ((slice_get_cases rows i).1) [
  | inl (row, within, is, same) ↦ rw is (each row is)
  | inr (past, none) ↦ absurd (omega arith)
]

pub on_range : (n : ℕ) (P : ℕ → Type 0) → ((i : ℕ) → i < n → P i) → All P (range_with_len 0 n)
on_range n P each = λ i d less.
    let size = length-range_with_len 0 n in
    let same : 0 + i ≡ i = omega arith in
    let at : get_or (range_with_len 0 n) i d ≡ i = get_or-range_with_len 0 n i d (omega arith) ∙ same in
    rw at (each i (omega arith))

-- a test of each row's number is one of its row
of_rows : (rows : List Row) (test : ℕ → Bool) (is : Row → Bool) → ((i : ℕ) (row : Row) → i < length rows → slice_get rows i ≡ Some row → test i ≡ is row)
    → filter test (range_with_len 0 (length (map label_of rows))) ≡ numbers_where is rows
of_rows rows test is each =
    rw (length-map rows label_of)
    (same_on test (λ i. passes is (slice_get rows i)) (range_with_len 0 (length rows))
    (on_range (length rows) (λ i. test i ≡ passes is (slice_get rows i))
    (λ i less. in_row rows i (λ o. test i ≡ passes is o) less (λ row at. each i row less at))))

key_is : (order : OrderBy) (rows : List Row) (i : ℕ) (row : Row) → slice_get rows i ≡ Some row → key_at order (map label_of rows) i ≡ key_of order (label_of row)
key_is order rows i row at = rw (slice_get-map label_of rows i, at) refl

-- the rows with the key of a feature are those of the feature
pub of_feature : (rows : List Row) (feature : ℕ) → filter (λ i. key_at by.Feature (map label_of rows) i == feature) (range_with_len 0 (length (map label_of rows))) ≡ numbers_where (is_of feature) rows
of_feature rows feature =
    of_rows rows (λ i. key_at by.Feature (map label_of rows) i == feature) (is_of feature)
    (λ i row less at. ap (λ key. key == feature) (key_is by.Feature rows i row at))

pair_is : (a b c d : ℕ) → b < 4294967296 → d < 4294967296 → (a * 4294967296 + b == c * 4294967296 + d) ≡ ((a == c) && (b == d))
pair_is a b c d low lower = grind (arith, nat_tests)

-- those with the key of a group of a feature are those of the group
pub of_group : (rows : List Row) (feature group : ℕ) → All (λ (r : Row). r.group ≤ 999) rows → group < 4294967296
    → filter (λ i. key_at by.Group (map label_of rows) i == feature * 4294967296 + group) (range_with_len 0 (length (map label_of rows))) ≡ numbers_where (is_of_group feature group) rows
of_group rows feature group small fits =
    of_rows rows (λ i. key_at by.Group (map label_of rows) i == feature * 4294967296 + group) (is_of_group feature group)
    (λ i row less at.
    let one = get_or_from_slice_get rows i row row at in
    let most : row.group ≤ 999 = rw one at (small i row less) in
    ap (λ key. key == feature * 4294967296 + group) (key_is by.Group rows i row at) ∙ pair_is row.feature row.group feature group (omega arith) fits)

-- ---- what a look-up finds
pub found_feature : (rows : List Row) (labels : List Label) (feature key : ℕ) (found : List ℕ) → labels ≡ map label_of rows → key ≡ feature
    → found ≡ filter (λ i. key_at by.Feature labels i == key) (range_with_len 0 (length labels)) → found ≡ numbers_where (is_of feature) rows
found_feature rows labels feature key found same equal is =
    let one = subst (λ ls. filter (λ i. key_at by.Feature ls i == feature) (range_with_len 0 (length ls)) ≡ numbers_where (is_of feature) rows) (sym same) (of_feature rows feature) in
    is ∙ subst (λ n. filter (λ i. key_at by.Feature labels i == n) (range_with_len 0 (length labels)) ≡ numbers_where (is_of feature) rows) (sym equal) one

pub found_group : (rows : List Row) (labels : List Label) (feature group key : ℕ) (found : List ℕ) → labels ≡ map label_of rows → All (λ (r : Row). r.group ≤ 999) rows → group < 4294967296
    → key ≡ feature * 4294967296 + group → found ≡ filter (λ i. key_at by.Group labels i == key) (range_with_len 0 (length labels)) → found ≡ numbers_where (is_of_group feature group) rows
found_group rows labels feature group key found same small fits equal is =
    let one = subst (λ ls. filter (λ i. key_at by.Group ls i == feature * 4294967296 + group) (range_with_len 0 (length ls)) ≡ numbers_where (is_of_group feature group) rows) (sym same) (of_group rows feature group small fits) in
    is ∙ subst (λ n. filter (λ i. key_at by.Group labels i == n) (range_with_len 0 (length labels)) ≡ numbers_where (is_of_group feature group) rows) (sym equal) one

-- each is the number of a row
pub all_below : (test : Row → Bool) (rows : List Row) → All (λ i. i < length rows) (numbers_where test rows)
all_below test rows = All-filter (λ i. passes test (slice_get rows i)) (λ i. i < length rows) (range_with_len 0 (length rows)) (on_range (length rows) (λ i. i < length rows) (λ i less. less))

-- and that row passes
pub all_pass : (test : Row → Bool) (rows : List Row) → All (λ i. passes test (slice_get rows i) ≡ true) (numbers_where test rows)
all_pass test rows = filter_passes (λ i. passes test (slice_get rows i)) (range_with_len 0 (length rows))

-- ---- the numbers below a count
range_more : (a n : ℕ) → range_with_len a (suc n) ≡ range_with_len a n ++ (a + n) ∷ []
range_more a zero = let same : a ≡ a + 0 = omega arith in ap (λ i. i ∷ []) same
range_more a (suc n) = let same : (a + 1) + n ≡ a + suc n = omega arith in ap (λ xs. a ∷ xs) (range_more (a + 1) n ∙ ap (λ i. range_with_len (a + 1) n ++ i ∷ []) same)

pub range_next : (n : ℕ) → range_with_len 0 n ++ n ∷ [] ≡ range_with_len 0 (n + 1)
range_next n =
    let same : 0 + n ≡ n = omega arith in
    let next : suc n ≡ n + 1 = omega arith in
    ap (λ i. range_with_len 0 n ++ i ∷ []) (sym same) ∙ sym (range_more 0 n) ∙ ap (range_with_len 0) next
