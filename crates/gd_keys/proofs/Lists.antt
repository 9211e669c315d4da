-- A list that is read item by item.
use Rattle.std.proofs.Common.{◌≡◌, ℕ, ◌+◌, ◌<◌, List, [], ◌∷◌, ◌++◌, length, get_or, drop, Option, Some, None, option_map, refl, sym, ap, append_assoc}
use Rattle.std.proofs.lemmas.List.{drop_more}
use Rattle.toml.proofs.Views.{items_view-drop}
use Rattle.toml.specs.Data.{Data}
use Rattle.toml.specs.View.{view, items_view}
use Rattle.toml.specs.declared.value.Value.{Value}
use Rattle.gd_keys.specs.Contents.{all_of, each_as}

-- what stands before the items that are left, and what those are read as
abbrev pub before : {A : Type 0} → List A → Option (List A) → Option (List A)
before done left = option_map (λ xs. done ++ xs) left

moved : {A : Type 0} (done : List A) (x : A) (left : Option (List A)) → before done (option_map (λ xs. x ∷ xs) left) ≡ before (done ++ x ∷ []) left
moved done x None = refl
moved done x (Some xs) = ap Some (sym (append_assoc done (x ∷ []) xs))

-- one item more is taken
pub taken : {A : Type 0} (take : Data → Option A) (done : List A) (x : A) (items : List Value) (i : ℕ) (v : Value) → i < length items
    → take (view (get_or items i v)) ≡ Some x
    → before done (all_of take (items_view (drop i items))) ≡ before (done ++ x ∷ []) (all_of take (items_view (drop (i + 1) items)))
taken take done x items i v within is = rw (items_view-drop items i v within, is) (moved done x _)

-- an item isn't taken
pub not_taken : {A : Type 0} (take : Data → Option A) (done : List A) (items : List Value) (i : ℕ) (v : Value) → i < length items
    → take (view (get_or items i v)) ≡ None → before done (all_of take (items_view (drop i items))) ≡ None
not_taken take done items i v within is = rw (items_view-drop items i v within, is)

-- one element more of a list is taken
pub taken_each : {A B : Type 0} (take : A → Option B) (done : List B) (y : B) (xs : List A) (i : ℕ) (d : A) → i < length xs
    → take (get_or xs i d) ≡ Some y
    → before done (each_as take (drop i xs)) ≡ before (done ++ y ∷ []) (each_as take (drop (i + 1) xs))
taken_each take done y xs i d within is = rw (drop_more xs i d within, is) (moved done y _)

-- an element isn't taken
pub not_taken_each : {A B : Type 0} (take : A → Option B) (done : List B) (xs : List A) (i : ℕ) (d : A) → i < length xs
    → take (get_or xs i d) ≡ None → before done (each_as take (drop i xs)) ≡ None
not_taken_each take done xs i d within is = rw (drop_more xs i d within, is)
