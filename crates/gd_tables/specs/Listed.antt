-- The tables of one list that were read: their names, and what they state.
use Rattle.std.specs.Prelude.{ℕ, List, [], ◌∷◌, ◌++◌, Option, nat_eq, position}
use Rattle.std.specs.Cmp.Lexicographic.{pointwise}

pub record Entries (A : Type 0) : Type 0 where
  pub names : List (List ℕ)
  pub items : List A

abbrev pub no_entries : {A : Type 0} → Entries A
no_entries = record { names = []; items = [] }

-- with one table more
abbrev pub with_entry : {A : Type 0} → Entries A → List ℕ → A → Entries A
with_entry e name item = record { names = e.names ++ name ∷ []; items = e.items ++ item ∷ [] }

-- where a name stands
abbrev pub place_of : List (List ℕ) → List ℕ → Option ℕ
place_of names name = position (pointwise nat_eq name) names
