-- The name of a feature that a table has.
use Rattle.std.proofs.Common.{◌≡◌, ℕ, ◌<◌, length, get_or, List, [], true, ◌∙◌, refl, sym, arith}
use Rattle.std.specs.Prelude.{nat_eq}
use Rattle.std.specs.Cmp.Lexicographic.{pointwise, nat_list_eq_equiv}
use Rattle.std.specs.List.{IsDistinct, list_any, position_or_len}
use Rattle.std.proofs.lemmas.List.Folds.{list_any_at}
use Rattle.std.proofs.lemmas.List.Sums.{position_or_len_is}
use Rattle.std.proofs.lemmas.Map.Keys.{apart_from_distinct}
use Rattle.indexmap.specs.IndexSet.{insert_key}

-- the first place of a name is its only one
place-again : (names : List (List ℕ)) (f : ℕ) → IsDistinct (pointwise nat_eq) names → f < length names → position_or_len (pointwise nat_eq (get_or names f [])) names ≡ f
place-again names f distinct lt =
    position_or_len_is (pointwise nat_eq (get_or names f [])) names f [] (omega arith)
    (λ k less. nat_list_eq_equiv.symm (get_or names f []) (get_or names k []) ∙ apart_from_distinct (pointwise nat_eq) names k f [] distinct less lt)
    (λ _. nat_list_eq_equiv.refl (get_or names f []))

has-again : (names : List (List ℕ)) (f : ℕ) → f < length names → list_any (pointwise nat_eq (get_or names f [])) names ≡ true
has-again names f lt = list_any_at (pointwise nat_eq (get_or names f [])) names f [] lt (nat_list_eq_equiv.refl (get_or names f []))

-- such a name has its number, and leaves the names as they are
pub number_again : (names : List (List ℕ)) (f : ℕ) → IsDistinct (pointwise nat_eq) names → f < length names → f ≡ position_or_len (pointwise nat_eq (get_or names f [])) names
number_again names f distinct lt = sym (place-again names f distinct lt)

pub names_again : (names : List (List ℕ)) (f : ℕ) → f < length names → names ≡ insert_key (pointwise nat_eq) names (get_or names f [])
names_again names f lt = rw (has-again names f lt) refl
