-- The keys of a table: which may stand there, and what one of them holds.
use Rattle.std.specs.Prelude.{ℕ, Bool, true, not, List, [], ◌∷◌, ◌++◌, Option, Some, None, Result, Ok, Err, nat_eq, ◌&&◌, if◌then◌else◌}
use Rattle.std.specs.Cmp.Lexicographic.{pointwise}
use Rattle.std.specs.List.{list_any}
use Rattle.toml.specs.Data.{Data, Members, no_members, member, get_member}
use Rattle.gd_keys.specs.Rules.{◌>>=◌}
use Rattle.gd_keys.specs.declared.rule.Rule.{Rule}
use Rattle.gd_keys.specs.declared.rule.Rule.TheVariants as rule

-- a name stands among these
abbrev pub is_among : List (List ℕ) → List ℕ → Bool
is_among names name = list_any (pointwise nat_eq name) names

-- each name is none of those seen and none of the names before it
abbrev pub are_new : List (List ℕ) → List (List ℕ) → Bool
are_new seen [] = true
are_new seen (name ∷ more) = not (is_among seen name) && are_new (seen ++ name ∷ []) more

-- no name stands twice
abbrev pub once : List (List ℕ) → Result (Unit {0}) Rule
once names = if are_new [] names then Ok tt else Err rule.Once

-- each key of the table is one of these
abbrev pub are_listed : List (List ℕ) → Members → Bool
are_listed keys no_members = true
are_listed keys (member key d more) = is_among keys key && are_listed keys more

-- a table has no other keys than these
abbrev pub only : List (List ℕ) → Members → Result (Unit {0}) Rule
only keys table = if are_listed keys table then Ok tt else Err rule.Listed

-- a value as its content is read, and what stands for it where there is none
abbrev pub value_or : {A : Type 0} → Result A Rule → (Data → Result A Rule) → Option Data → Result A Rule
value_or absent content None = absent
value_or absent content (Some d) = content d

-- a key that has to stand in the table
abbrev pub needed : {A : Type 0} → List ℕ → (Data → Result A Rule) → Members → Result A Rule
needed key content table = value_or (Err rule.Needed) content (get_member key table)

-- a key that stands for a default where it is absent
abbrev pub default_to : {A : Type 0} → A → List ℕ → (Data → Result A Rule) → Members → Result A Rule
default_to value key content table = value_or (Ok value) content (get_member key table)

-- a key that may be absent
abbrev pub optional : {A : Type 0} → List ℕ → (Data → Result A Rule) → Members → Result (Option A) Rule
optional key content table = value_or (Ok None) (λ d. content d >>= (λ x. Ok (Some x))) (get_member key table)
