-- Each name of a table has a row and is a name, also after one more point.
use Rattle.std.proofs.Common.{◌≡◌, ℕ, ◌+◌, ◌<◌, ◌≤◌, ◌++◌, inl, inr, length, get_or, List, [], ◌∷◌, Bool, true, false, cond, sym, ◌∙◌, refl, arith}
use Rattle.std.specs.Prelude.{nat_eq, slice_get, Some}
use Rattle.std.specs.Cmp.Lexicographic.{pointwise}
use Rattle.std.specs.List.{All, Any, list_any, position_or_len}
use Rattle.std.proofs.Math.Nat.{eq-or-lt_of_le}
use Rattle.std.proofs.lemmas.List.{get_or_append_left, length-append}
use Rattle.std.proofs.lemmas.List.Folds.{list_any_at}
use Rattle.std.proofs.lemmas.List.Quantifiers.{Any-push}
use Rattle.std.proofs.lemmas.List.Sums.{position_or_len_is}
use Rattle.indexmap.specs.IndexSet.{insert_key}
use Rattle.std.proofs.lemmas.Option.{get_or_from_slice_get}
use Rattle.std.proofs.lemmas.List.Elements.{All-push}
use Rattle.gd_base.specs.Names.{is_name}
use Rattle.gd_points.specs.Table.{AreNames, HasRows}
use Rattle.gd_points.specs.declared.table.Row.{Row}

longer : (rows : List Row) (row : Row) (k : ℕ) → k < length rows → k < length (rows ++ row ∷ [])
longer rows row k lt = let more = length-append rows (row ∷ []) in omega arith

pub at_most : (names : List (List ℕ)) (name : List ℕ) (f : ℕ) → f < length (names ++ name ∷ []) → f ≤ length names
at_most names name f lt = let more = length-append names (name ∷ []) in omega arith

-- a row that is there stays
kept : (rows : List Row) (row : Row) (f : ℕ) → Any (λ (r : Row). r.feature ≡ f) rows → Any (λ (r : Row). r.feature ≡ f) (rows ++ row ∷ [])
kept rows row f (k, x, lt, at, is) = (k, x, longer rows row k lt, get_or_append_left rows (row ∷ []) x k lt ∙ at, is)

pub used_again : (rows : List Row) (row : Row) (count : ℕ) → HasRows rows count → HasRows (rows ++ row ∷ []) count
used_again rows row count used = λ f lt. kept rows row f (used f lt)

fails : (p : List ℕ → Bool) (xs : List (List ℕ)) (k : ℕ) → k < length xs → list_any p xs ≡ false → (b : Bool) → p (get_or xs k []) ≡ b → b ≡ false
fails p xs k lt none true is = sym (list_any_at p xs k [] lt is) ∙ none
fails p xs k lt none false is = refl

-- a name that no name is equal to gets the next number
pub no_place : (p : List ℕ → Bool) (xs : List (List ℕ)) → list_any p xs ≡ false → position_or_len p xs ≡ length xs
no_place p xs none = position_or_len_is p xs (length xs) [] (omega arith) (λ k lt. fails p xs k lt none (p (get_or xs k [])) refl) (λ lt. absurd (omega arith))

by_known : (rows : List Row) (names : List (List ℕ)) (name : List ℕ) (row : Row) → HasRows rows (length names) → row.feature ≡ position_or_len (pointwise nat_eq name) names
    → (known : Bool) → list_any (pointwise nat_eq name) names ≡ known → HasRows (rows ++ row ∷ []) (length (cond known names (names ++ name ∷ [])))
by_known rows names name row used is true e = used_again rows row (length names) used
by_known rows names name row used is false e = λ f lt. elim (eq-or-lt_of_le {n = f} {m = length names} (at_most names name f lt)) [
  | inl same ↦ Any-push (λ (r : Row). r.feature ≡ f) rows row (is ∙ no_place (pointwise nat_eq name) names e ∙ sym same)
  | inr less ↦ kept rows row f (used f less)
]

pub used_more : (rows : List Row) (names : List (List ℕ)) (name : List ℕ) (row : Row) → HasRows rows (length names) → row.feature ≡ position_or_len (pointwise nat_eq name) names
    → HasRows (rows ++ row ∷ []) (length (insert_key (pointwise nat_eq) names name))
used_more rows names name row used is = by_known rows names name row used is (list_any (pointwise nat_eq name) names) refl

spelled_by : (names : List (List ℕ)) (name : List ℕ) (known : Bool) → AreNames names → is_name name ≡ true → AreNames (cond known names (names ++ name ∷ []))
spelled_by names name true all one = all
spelled_by names name false all one = All-push (λ (n : List ℕ). is_name n ≡ true) names name all one

pub spelled_more : (names : List (List ℕ)) (name : List ℕ) → AreNames names → is_name name ≡ true → AreNames (insert_key (pointwise nat_eq) names name)
spelled_more names name = spelled_by names name (list_any (pointwise nat_eq name) names)

-- what stands among the names is a name
pub name_at : (names : List (List ℕ)) (f : ℕ) (name : List ℕ) → AreNames names → f < length names → slice_get names f ≡ Some name → is_name name ≡ true
name_at names f name all lt at = rw (get_or_from_slice_get names f name name at) at (all f name lt)

features_by : (rows : List Row) (names : List (List ℕ)) (name : List ℕ) (row : Row) (known : Bool) → All (λ (r : Row). r.feature < length names) rows
    → row.feature < length (cond known names (names ++ name ∷ [])) → All (λ (r : Row). r.feature < length (cond known names (names ++ name ∷ []))) (rows ++ row ∷ [])
features_by rows names name row true all one = All-push (λ (r : Row). r.feature < length names) rows row all one
features_by rows names name row false all one =
    All-push (λ (r : Row). r.feature < length (names ++ name ∷ [])) rows row (λ k d lt. let less = all k d lt in let more = length-append names (name ∷ []) in omega arith) one

pub features_more : (rows : List Row) (names : List (List ℕ)) (name : List ℕ) (row : Row) → All (λ (r : Row). r.feature < length names) rows
    → row.feature < length (insert_key (pointwise nat_eq) names name) → All (λ (r : Row). r.feature < length (insert_key (pointwise nat_eq) names name)) (rows ++ row ∷ [])
features_more rows names name row = features_by rows names name row (list_any (pointwise nat_eq name) names)

-- ---- the number of a name
below_step : (p : List ℕ → Bool) (y : List ℕ) (ks : List (List ℕ)) (at : Bool) → p y ≡ at → (list_any p ks ≡ true → position_or_len p ks < length ks) → list_any p (y ∷ ks) ≡ true
    → position_or_len p (y ∷ ks) < length (y ∷ ks)
below_step p y ks true at more is = rw at (omega arith)
below_step p y ks false at more is = let less = more (rw at at is) in rw at (omega arith)

place_below : (ks : List (List ℕ)) (p : List ℕ → Bool) → list_any p ks ≡ true → position_or_len p ks < length ks
place_below [] p is = absurd (cc)
place_below (y ∷ ks) p is = below_step p y ks (p y) refl (λ h. place_below ks p h) is

new_by : (names : List (List ℕ)) (name : List ℕ) (known : Bool) → list_any (pointwise nat_eq name) names ≡ known → position_or_len (pointwise nat_eq name) names < length (cond known names (names ++ name ∷ []))
new_by names name true is = place_below names (pointwise nat_eq name) is
new_by names name false is = let same = no_place (pointwise nat_eq name) names is in let more = length-append names (name ∷ []) in omega arith

-- it is one of the names that the table then has
pub new_below : (names : List (List ℕ)) (name : List ℕ) → position_or_len (pointwise nat_eq name) names < length (insert_key (pointwise nat_eq) names name)
new_below names name = new_by names name (list_any (pointwise nat_eq name) names) refl

longer_by : (names : List (List ℕ)) (name : List ℕ) (known : Bool) → length (cond known names (names ++ name ∷ [])) ≤ length names + 1
longer_by names name true = omega arith
longer_by names name false = let more = length-append names (name ∷ []) in omega arith

-- there is at most one name more
pub longer_names : (names : List (List ℕ)) (name : List ℕ) → length (insert_key (pointwise nat_eq) names name) ≤ length names + 1
longer_names names name = longer_by names name (list_any (pointwise nat_eq name) names)
