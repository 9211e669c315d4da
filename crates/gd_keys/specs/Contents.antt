-- What a value of a TOML document is read as. The kind of the value and of each element comes before every range.
use Rattle.std.specs.Prelude.{ℕ, ℤ, pos, negsuc, Bool, List, [], ◌∷◌, Option, Some, option_map, Result, Ok, Err, unsigned_abs, nat_le, ◌&&◌, if◌then◌else◌}
use Rattle.std.specs.Option.{option_and_then}
use Rattle.toml.specs.Data.{Data, Items, no_items, item, Members, as_integer, as_str, as_bool, as_array, as_table}
use Rattle.gd_base.specs.Names.{name_of}
use Rattle.gd_keys.specs.Rules.{◌>>=◌, or_broken}
use Rattle.gd_keys.specs.declared.rule.Rule.{Rule}
use Rattle.gd_keys.specs.declared.rule.Rule.TheVariants as rule
use Rattle.gd_vec.specs.declared.vector.V3.{V3}

-- what is in a range, or else the rule of ranges is broken
abbrev pub in_range : {A : Type 0} → Bool → A → Result A Rule
in_range is_in x = if is_in then Ok x else Err rule.Range

-- a whole number from 0 to a limit
abbrev pub up_to : ℕ → ℤ → Result ℕ Rule
up_to limit (pos n) = in_range (nat_le n limit) n
up_to limit (negsuc n) = Err rule.Range

abbrev pub number : ℕ → Data → Result ℕ Rule
number limit d = or_broken (as_integer d) rule.Kind >>= up_to limit

-- a truth value
abbrev pub truth : Data → Result Bool Rule
truth d = or_broken (as_bool d) rule.Kind

-- a text
abbrev pub text : Data → Result (List ℕ) Rule
text d = or_broken (as_str d) rule.Kind

-- a text that is a name
abbrev pub name : Data → Result (List ℕ) Rule
name d = text d >>= (λ bytes. or_broken (name_of bytes) rule.Range)

-- a text that is one of the words with a meaning
abbrev pub word : {A : Type 0} → (List ℕ → Option A) → Data → Result A Rule
word meaning d = text d >>= (λ bytes. or_broken (meaning bytes) rule.Range)

-- each item as a test takes it, where it takes them all
abbrev pub all_of : {A : Type 0} → (Data → Option A) → Items → Option (List A)
all_of take no_items = Some []
all_of take (item d more) = option_and_then (λ x. option_map (λ xs. x ∷ xs) (all_of take more)) (take d)

-- the same of a list
abbrev pub each_as : {A B : Type 0} → (A → Option B) → List A → Option (List B)
each_as take [] = Some []
each_as take (x ∷ more) = option_and_then (λ y. option_map (λ ys. y ∷ ys) (each_as take more)) (take x)

-- a list whose elements are all of one kind
abbrev pub list_of : {A : Type 0} → (Data → Option A) → Data → Result (List A) Rule
list_of take d = or_broken (option_and_then (all_of take) (as_array d)) rule.Kind

-- a list of texts
abbrev pub texts : Data → Result (List (List ℕ)) Rule
texts d = list_of as_str d

-- a list of tables
abbrev pub tables : Data → Result (List Members) Rule
tables d = list_of as_table d

-- no entry is larger than a limit
abbrev pub is_within : ℕ → V3 → Bool
is_within limit v = nat_le (unsigned_abs v.x) limit && nat_le (unsigned_abs v.y) limit && nat_le (unsigned_abs v.z) limit

-- three whole numbers within a limit
abbrev pub three_of : ℕ → List ℤ → Result V3 Rule
three_of limit (x ∷ y ∷ z ∷ []) =
    let v : V3 = record { x = x; y = y; z = z } in in_range (is_within limit v) v
three_of limit numbers = Err rule.Range

abbrev pub three : ℕ → Data → Result V3 Rule
three limit d = list_of as_integer d >>= three_of limit
