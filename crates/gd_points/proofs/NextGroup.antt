-- The least group from a number on that the points of a feature have.
use Rattle.std.proofs.Common.{◌≡◌, ◌∙◌, ap, refl, sym, subst, ℕ, ◌+◌, ◌*◌, ◌<◌, ◌≤◌, List, [], ◌∷◌, Bool, true, false, cond, filter, get_or, inl, inr, length, ltb, map, ◌==◌, arith}
use Rattle.std.specs.Prelude.{◌&&◌}
use Rattle.std.specs.List.{All, Any, list_any}
use Rattle.std.specs.List.Sorted.{IsPartitionPoint}
use Rattle.std.proofs.lemmas.Bool.{cases_Bool, ltb-false, ltb-true}
use Rattle.std.proofs.lemmas.Bool.Decides.{nat_tests}
use Rattle.std.proofs.lemmas.List.{get_or-map, get_or_default, length-map}
use Rattle.std.proofs.lemmas.List.Folds.{list_any_at, list_any_none}
use Rattle.std.proofs.lemmas.Option.{slice_get-get_or}
use Rattle.gd_points.proofs.ByNumber.{rows_where}
use Rattle.gd_points.proofs.Ordered.{found_group, keeps_none}
use Rattle.gd_points.specs.Columns.{label_of}
use Rattle.gd_points.specs.Index.{IsOrdered, has_group, is_of_group, key_at, key_in, key_of, row_at}
use Rattle.gd_points.specs.declared.index.OrderBy.{OrderBy}
use Rattle.gd_points.specs.declared.index.OrderBy.TheVariants as by
use Rattle.gd_points.specs.declared.table.Label.{Label}
use Rattle.gd_points.specs.declared.table.Row.{Row}

-- ---- what stands from a key on
below_fails : (key from k : ℕ) → key < from → from ≤ k → (key == k) ≡ false
below_fails key from k less above = grind (arith, nat_tests)

above_fails : (key next k : ℕ) → next ≤ key → k < next → (key == k) ≡ false
above_fails key next k up less = grind (arith, nat_tests)

-- where each number has a lesser key, none has this one
pub none_from : (key : ℕ → ℕ) (numbers : List ℕ) (at from k : ℕ) → length numbers ≤ at → IsPartitionPoint (λ i. ltb (key i) from ≡ true) (λ i. ltb (key i) from ≡ false) numbers at → from ≤ k
    → filter (λ i. key i == k) numbers ≡ []
none_from key numbers at from k past point above = keeps_none (λ i. key i == k) numbers
    (λ j d less. below_fails (key (get_or numbers j d)) from k (ltb-true (key (get_or numbers j d)) from (point.0 j d (omega arith) (omega arith))) above)

-- nor where it is less than the first key from there on
pub none_between : (key : ℕ → ℕ) (numbers : List ℕ) (at from k : ℕ) → at < length numbers → ((i j d : ℕ) → i ≤ j → j < length numbers → key (get_or numbers i d) ≤ key (get_or numbers j d))
    → IsPartitionPoint (λ i. ltb (key i) from ≡ true) (λ i. ltb (key i) from ≡ false) numbers at → from ≤ k → k < key (get_or numbers at 0) → filter (λ i. key i == k) numbers ≡ []
none_between key numbers at from k inside up point above below = keeps_none (λ i. key i == k) numbers (λ j d less. elim (cases_Bool (ltb j at)) [
  | inl before ↦ below_fails (key (get_or numbers j d)) from k (ltb-true (key (get_or numbers j d)) from (point.0 j d (omega arith) (ltb-true j at before))) above
  | inr after ↦ above_fails (key (get_or numbers j d)) (key (get_or numbers at d)) k (up at j d (ltb-false j at after) less) (rw (get_or_default numbers at d 0 inside) below)
])

-- ---- the first number from there on
number_is : (numbers : List ℕ) (at x : ℕ) → at < length numbers → x ≡ get_or numbers at x → get_or numbers at 0 ≡ x
number_is numbers at x inside is = get_or_default numbers at 0 x inside ∙ sym is

number_below : (labels : List Label) (numbers : List ℕ) (at x : ℕ) → at < length numbers → x ≡ get_or numbers at x → All (λ n. n < length labels) numbers → x < length labels
number_below labels numbers at x inside is all = subst (λ n. n < length labels) (number_is numbers at x inside is) (all at 0 inside)

label_key : (order : OrderBy) (labels : List Label) (x : ℕ) (d : Label) → x < length labels → key_at order labels x ≡ key_of order (get_or labels x d)
label_key order labels x d inside = ap (key_in order) (slice_get-get_or labels x d inside)

pub is_label : (labels : List Label) (numbers : List ℕ) (at x : ℕ) (d : Label) → at < length numbers → x ≡ get_or numbers at x → All (λ n. n < length labels) numbers → Any (λ (l : Label). l ≡ get_or labels x d) labels
is_label labels numbers at x d inside is all =
    let below = number_below labels numbers at x inside is all in
    (x, get_or labels x d, below, get_or_default labels x (get_or labels x d) d below, refl)

pub from_first : (order : OrderBy) (labels : List Label) (numbers : List ℕ) (at x from : ℕ) (d : Label) → at < length numbers → x ≡ get_or numbers at x → All (λ n. n < length labels) numbers
    → IsPartitionPoint (λ i. ltb (key_at order labels i) from ≡ true) (λ i. ltb (key_at order labels i) from ≡ false) numbers at → from ≤ key_of order (get_or labels x d)
from_first order labels numbers at x from d inside is all point =
    let none : ltb (key_at order labels x) from ≡ false = subst (λ n. ltb (key_at order labels n) from ≡ false) (number_is numbers at x inside is) (point.1 at 0 (omega arith) inside) in
    subst (λ n. from ≤ n) (label_key order labels x d (number_below labels numbers at x inside is all)) (ltb-false (key_at order labels x) from none)

pub none_before : (order : OrderBy) (labels : List Label) (numbers : List ℕ) (at x from : ℕ) (d : Label) → at < length numbers → x ≡ get_or numbers at x → All (λ n. n < length labels) numbers
    → ((i j d : ℕ) → i ≤ j → j < length numbers → key_at order labels (get_or numbers i d) ≤ key_at order labels (get_or numbers j d))
    → IsPartitionPoint (λ i. ltb (key_at order labels i) from ≡ true) (λ i. ltb (key_at order labels i) from ≡ false) numbers at
    → (k : ℕ) → from ≤ k → k < key_of order (get_or labels x d) → filter (λ i. key_at order labels i == k) numbers ≡ []
none_before order labels numbers at x from d inside is all up point k above less =
    let same : key_at order labels (get_or numbers at 0) ≡ key_of order (get_or labels x d) =
    ap (key_at order labels) (number_is numbers at x inside is) ∙ label_key order labels x d (number_below labels numbers at x inside is all) in
    none_between (key_at order labels) numbers at from k inside up point above (subst (λ n. k < n) (sym same) less)

-- ---- groups
no_more : (p : Row → Bool) (row : Row) (rows : List Row) (b : Bool) → p row ≡ b → cond b (row ∷ filter p rows) (filter p rows) ≡ [] → (filter p rows ≡ [] → list_any p rows ≡ false) → list_any p (row ∷ rows) ≡ false
no_more p row rows true is none more = absurd (cc)
no_more p row rows false is none more = rw is (more none)

none_passes : (p : Row → Bool) (rows : List Row) → filter p rows ≡ [] → list_any p rows ≡ false
none_passes p [] none = refl
none_passes p (row ∷ rows) none = no_more p row rows (p row) refl none (λ h. none_passes p rows h)

too_large : (a b c d : ℕ) → b ≤ 999 → 999 < d → ((a == c) && (b == d)) ≡ false
too_large a b c d small large = grind (arith, nat_tests)

-- no point has a group whose key no number has
pub no_group : (rows : List Row) (labels : List Label) (numbers : List ℕ) (feature group : ℕ) → labels ≡ map label_of rows → IsOrdered by.Group labels numbers → All (λ (r : Row). r.group ≤ 999) rows
    → (group ≤ 999 → filter (λ i. key_at by.Group labels i == feature * 4294967296 + group) numbers ≡ []) → has_group rows feature group ≡ false
no_group rows labels numbers feature group same ordered small none = elim (cases_Bool (ltb 999 group)) [
  | inl large ↦ list_any_none (is_of_group feature group) rows (λ k d less. too_large (get_or rows k d).feature (get_or rows k d).group feature group (small k d less) (ltb-true 999 group large))
  | inr fits ↦ (
      let most = ltb-false 999 group fits in
      let empty = sym (ordered.same (feature * 4294967296 + group)) ∙ none most in
      let nowhere = found_group rows labels feature group (feature * 4294967296 + group) [] same small (omega arith) refl (sym empty) in
      none_passes (is_of_group feature group) rows (sym (rows_where (is_of_group feature group) rows) ∙ ap (map (row_at rows)) (sym nowhere)))
]

-- the keys of a feature are less than those of the features after it
pub other_feature : (f from g next last : ℕ) → f * 4294967296 + from ≤ next * 4294967296 + last → last < 4294967296 → g ≤ 999 → (next == f) ≡ false → f * 4294967296 + g < next * 4294967296 + last
other_feature f from g next last up fits small other = grind (arith, nat_tests)

itself : (a b c : ℕ) → a ≡ c → ((a == c) && (b == b)) ≡ true
itself a b c same = grind (arith, nat_tests)

-- a point of the feature has the group of its label
pub its_group : (rows : List Row) (labels : List Label) (label : Label) (feature : ℕ) → labels ≡ map label_of rows → Any (λ (l : Label). l ≡ label) labels → label.feature ≡ feature → has_group rows feature label.group ≡ true
its_group rows labels label feature same (k, l, less, at, is) of =
    let inside : k < length rows = subst (λ n. k < n) (ap length same ∙ length-map rows label_of) less in
    let found : label_of (row_at rows k) ≡ label = sym (get_or-map label_of rows k (row_at [] 0) l inside) ∙ ap (λ ls. get_or ls k l) (sym same) ∙ at ∙ is in
    list_any_at (is_of_group feature label.group) rows k (row_at [] 0) inside
    (subst (λ (m : Label). ((m.feature == feature) && (m.group == label.group)) ≡ true) (sym found) (itself label.feature label.group feature of))

-- and its group is that of a row
pub its_size : (rows : List Row) (labels : List Label) (label : Label) (most : ℕ) → labels ≡ map label_of rows → All (λ (r : Row). r.group ≤ most) rows → Any (λ (l : Label). l ≡ label) labels → label.group ≤ most
its_size rows labels label most same small (k, l, less, at, is) =
    let inside : k < length rows = subst (λ n. k < n) (ap length same ∙ length-map rows label_of) less in
    let found : label_of (row_at rows k) ≡ label = sym (get_or-map label_of rows k (row_at [] 0) l inside) ∙ ap (λ ls. get_or ls k l) (sym same) ∙ at ∙ is in
    subst (λ (m : Label). m.group ≤ most) found (small k (row_at [] 0) inside)

-- ---- keys
pub key_above : (f from g key : ℕ) → key ≡ f * 4294967296 + from → from ≤ g → key ≤ f * 4294967296 + g
key_above f from g key is above = omega (arith, is, above)

pub key_less : (f g next last : ℕ) → next ≡ f → g < last → f * 4294967296 + g < next * 4294967296 + last
key_less f g next last is less = rw is (omega (arith, less))

pub kept_order : (labels labels' : List Label) (numbers numbers' : List ℕ) → labels ≡ labels' → numbers ≡ numbers' → IsOrdered by.Group labels' numbers' → IsOrdered by.Group labels numbers
kept_order labels labels' numbers numbers' same equal ordered = rw (same, equal) ordered
