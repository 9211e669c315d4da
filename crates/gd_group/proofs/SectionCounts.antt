-- The sections of a feature differ, so that there are at most 1,000, and each has a point.
use Rattle.std.proofs.Common.{◌≡◌, ◌∙◌, refl, sym, ℕ, suc, ◌≤◌, ◌<◌, Bool, true, false, not, cond, ◌||◌, List, [], ◌∷◌, length, filter, map, nat_eq, get_or, arith}
use Rattle.std.specs.List.{All, AllByRecursion, Any, IsDistinct, list_any}
use Rattle.std.proofs.lemmas.Bool.{eq-eqb, eqb-true, false≢true}
use Rattle.std.proofs.lemmas.List.Elements.{All-cons, All-filter, All-map, All-nil}
use Rattle.std.proofs.lemmas.List.Folds.{Any-from_list_any, list_any-from_Any}
use Rattle.std.proofs.lemmas.Map.Keys.{IsDistinct-cons, IsDistinct-from_apart, IsDistinct-head, IsDistinct-tail}
use Rattle.std.proofs.lemmas.Map.Steps.{length-le_from_distinct_below}
use Rattle.gd_group.specs.Requirements.{first_ones, sections}
use Rattle.gd_points.proofs.ByNumber.{count_where}
use Rattle.gd_points.specs.Index.{is_of, is_of_group, numbers_where}
use Rattle.gd_points.specs.declared.table.Row.{Row}
use Rattle.gd_tables.specs.declared.file.FeatureDef.{FeatureDef}

-- ---- each number stands once
all-cond : (P : ℕ → Type 0) (k : ℕ) (ys : List ℕ) (b : Bool) → P k → AllByRecursion P ys → AllByRecursion P (cond b (k ∷ ys) ys)
all-cond P k ys true one all = (one, all)
all-cond P k ys false one all = all

all-kept : (P : ℕ → Type 0) (p : ℕ → Bool) (ks : List ℕ) → AllByRecursion P ks → AllByRecursion P (filter p ks)
all-kept P p [] h = tt
all-kept P p (k ∷ ks) h = all-cond P k (filter p ks) (p k) h.0 (all-kept P p ks h.1)

distinct-cond : (k : ℕ) (ys : List ℕ) (b : Bool) → AllByRecursion (λ y. nat_eq k y ≡ false) ys → IsDistinct nat_eq ys → IsDistinct nat_eq (cond b (k ∷ ys) ys)
distinct-cond k ys true one all = IsDistinct-cons nat_eq k ys one all
distinct-cond k ys false one all = all

distinct-kept : (p : ℕ → Bool) (ks : List ℕ) → IsDistinct nat_eq ks → IsDistinct nat_eq (filter p ks)
distinct-kept p [] h = h
distinct-kept p (k ∷ ks) h =
    distinct-cond k (filter p ks) (p k) (all-kept (λ y. nat_eq k y ≡ false) p ks (IsDistinct-head nat_eq k ks h)) (distinct-kept p ks (IsDistinct-tail nat_eq k ks h))

other-way : (m n : ℕ) (b : Bool) → nat_eq n m ≡ b → nat_eq m n ≡ false → b ≡ false
other-way m n true e h = absurd (false≢true (sym h ∙ eq-eqb m n (sym (eqb-true n m e))))
other-way m n false e h = refl

apart-cond : (n m : ℕ) (ys : List ℕ) (b : Bool) → nat_eq m n ≡ b → AllByRecursion (λ y. nat_eq n y ≡ false) ys
    → AllByRecursion (λ y. nat_eq n y ≡ false) (cond (not b) (m ∷ ys) ys)
apart-cond n m ys true e all = all
apart-cond n m ys false e all = (other-way m n (nat_eq n m) refl e, all)

apart : (n : ℕ) (ks : List ℕ) → AllByRecursion (λ y. nat_eq n y ≡ false) (filter (λ m. not (nat_eq m n)) ks)
apart n [] = tt
apart n (m ∷ ks) = apart-cond n m (filter (λ m. not (nat_eq m n)) ks) (nat_eq m n) refl (apart n ks)

first-distinct : (xs : List ℕ) → IsDistinct nat_eq (first_ones xs)
first-distinct [] = IsDistinct-from_apart nat_eq [] (λ i j d before within. absurd (omega (arith, within)))
first-distinct (n ∷ more) =
    let kept : ℕ → Bool = λ m. not (nat_eq m n) in
    IsDistinct-cons nat_eq n (filter kept (first_ones more)) (apart n (first_ones more)) (distinct-kept kept (first_ones more) (first-distinct more))

-- ---- what is so of all numbers is so of those
first-all : (P : ℕ → Type 0) (xs : List ℕ) → All P xs → All P (first_ones xs)
first-all P [] all = all
first-all P (n ∷ more) all =
    let one : P n = all 0 n (omega arith) in
    let rest : All P more = λ k d less. all (suc k) d (omega (arith, less)) in
    All-cons P n (filter (λ m. not (nat_eq m n)) (first_ones more)) one
    (All-filter (λ m. not (nat_eq m n)) P (first_ones more) (first-all P more rest))

-- ---- at most 1,000 sections
pub sections-few : (rows : List Row) (def : FeatureDef) → All (λ (row : Row). row.group ≤ 999) rows → length (sections rows def) ≤ 1000
sections-few rows def small =
    let own = All-filter (is_of def.feature) (λ (row : Row). row.group ≤ 999) rows small in
    let numbers : List ℕ = map (λ (row : Row). row.group) (filter (is_of def.feature) rows) in
    let all : All (λ g. g ≤ 999) (first_ones numbers) =
    first-all (λ g. g ≤ 999) numbers (All-map (λ g. g ≤ 999) (λ (row : Row). row.group) (filter (is_of def.feature) rows) own) in
    length-le_from_distinct_below (first_ones numbers) 1000 (first-distinct numbers) (λ q h. below q (first_ones numbers) all (Any-from_list_any (nat_eq q) (first_ones numbers) h))
  where
    below : (q : ℕ) (ks : List ℕ) → All (λ g. g ≤ 999) ks → Any (λ k. nat_eq q k ≡ true) ks → q < 1000
    below q ks all (k, x, less, at, is) =
        let same = eqb-true q x is in
        let few = all k x less in
        omega (arith, same, few, at)

-- ---- a section has a point
passing : (test : Row → Bool) (row : Row) (ys : List Row) (b : Bool) → test row ≡ b → (list_any test ys ≡ true → 0 < length (filter test ys))
    → (b || list_any test ys) ≡ true → 0 < length (cond b (row ∷ filter test ys) (filter test ys))
passing test row ys true e more is = omega arith
passing test row ys false e more is = more is

some-filtered : (test : Row → Bool) (rows : List Row) → list_any test rows ≡ true → 0 < length (filter test rows)
some-filtered test [] is = absurd (false≢true is)
some-filtered test (row ∷ rows) is = passing test row rows (test row) refl (some-filtered test rows) is

pub some-numbers : (test : Row → Bool) (rows : List Row) → list_any test rows ≡ true → 0 < length (numbers_where test rows)
some-numbers test rows is =
    let some = some-filtered test rows is in
    let same = count_where test rows in
    omega (arith, some, same)

or-true : (b c : Bool) → c ≡ true → (b || c) ≡ true
or-true true c h = refl
or-true false c h = h

own-group : (feature : ℕ) (row : Row) → is_of feature row ≡ true → is_of_group feature row.group row ≡ true
own-group feature row is = rw is (eq-eqb row.group row.group refl)

true-or : (b c : Bool) → b ≡ true → (b || c) ≡ true
true-or true c h = refl
true-or false c h = absurd (false≢true h)

rows-cond : (P : Row → Type 0) (row : Row) (ys : List Row) (b : Bool) → (b ≡ true → P row) → All P ys → All P (cond b (row ∷ ys) ys)
rows-cond P row ys true one all = All-cons P row ys (one refl) all
rows-cond P row ys false one all = all

each-among : (feature : ℕ) (rows : List Row) → All (λ (row : Row). list_any (is_of_group feature row.group) rows ≡ true) (filter (is_of feature) rows)
each-among feature [] = All-nil (λ (row : Row). list_any (is_of_group feature row.group) [] ≡ true)
each-among feature (r ∷ rows) =
    let P : Row → Type 0 = λ row. list_any (is_of_group feature row.group) (r ∷ rows) ≡ true in
    rows-cond P r (filter (is_of feature) rows) (is_of feature r)
    (λ is. true-or (is_of_group feature r.group r) (list_any (is_of_group feature r.group) rows) (own-group feature r is))
    (λ k d less. let x = get_or (filter (is_of feature) rows) k d in
    or-true (is_of_group feature x.group r) (list_any (is_of_group feature x.group) rows) (each-among feature rows k d less))

pub sections-seen : (rows : List Row) (def : FeatureDef) → All (λ g. 0 < length (numbers_where (is_of_group def.feature g) rows)) (sections rows def)
sections-seen rows def =
    let P : ℕ → Type 0 = λ g. 0 < length (numbers_where (is_of_group def.feature g) rows) in
    let own = filter (is_of def.feature) rows in
    first-all P (map (λ (row : Row). row.group) own) (All-map P (λ (row : Row). row.group) own
    (λ k d less. some-numbers (is_of_group def.feature (get_or own k d).group) rows (each-among def.feature rows k d less)))

-- a feature that has a row has a section
pub some-rows : (rows : List Row) (feature : ℕ) → Any (λ (row : Row). row.feature ≡ feature) rows → list_any (is_of feature) rows ≡ true
some-rows rows feature (k, x, less, at, is) = list_any-from_Any (is_of feature) rows (k, x, less, at, eq-eqb x.feature feature is)

pub some-section : (rows : List Row) (def : FeatureDef) → Any (λ (row : Row). row.feature ≡ def.feature) rows → 0 < length (sections rows def)
some-section rows def seen =
    one (filter (is_of def.feature) rows) (some-filtered (is_of def.feature) rows (some-rows rows def.feature seen))
  where
    one : (own : List Row) → 0 < length own → 0 < length (first_ones (map (λ (row : Row). row.group) own))
    one [] h = h
    one (row ∷ own) h = omega arith
