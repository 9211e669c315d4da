-- The definitions by values worked by hand.
use Rattle.std.specs.Prelude.{◌≡◌, [], ◌∷◌, pos, negsuc, true, false, None, Ok, Err, codes, refl}
use Rattle.toml.specs.Data.{array, boolean, integer, item, member, no_items, no_members, string}
use Rattle.gd_keys.specs.Contents.{name, number, three}
use Rattle.gd_keys.specs.Keys.{are_listed, default_to, needed, once, optional}
use Rattle.gd_keys.specs.declared.rule.Rule.TheVariants as rule

-- a number at its limit, past it, below 0, and a text in its place
at_limit : number 20 (integer (pos 20)) ≡ Ok 20
at_limit = refl

past_limit : number 20 (integer (pos 21)) ≡ Err rule.Range
past_limit = refl

below_zero : number 20 (integer (negsuc 0)) ≡ Err rule.Range
below_zero = refl

text_for_number : number 20 (string (codes "all")) ≡ Err rule.Kind
text_for_number = refl

-- the kind of each element comes before the length
kind_first : three 9 (array (item (integer (pos 1)) (item (boolean true) no_items))) ≡ Err rule.Kind
kind_first = refl

two_numbers : three 9 (array (item (integer (pos 1)) (item (integer (pos 2)) no_items))) ≡ Err rule.Range
two_numbers = refl

no_name : name (string (codes "a b")) ≡ Err rule.Range
no_name = refl

-- keys
listed : are_listed (codes "a" ∷ codes "b" ∷ []) (member (codes "b") (integer (pos 1)) no_members) ≡ true
listed = refl

unlisted : are_listed (codes "a" ∷ []) (member (codes "b") (integer (pos 1)) no_members) ≡ false
unlisted = refl

absent : needed (codes "a") (number 9) no_members ≡ Err rule.Needed
absent = refl

by_default : default_to 7 (codes "a") (number 9) no_members ≡ Ok 7
by_default = refl

may_be_absent : optional (codes "a") (number 9) no_members ≡ Ok None
may_be_absent = refl

-- a name that stands twice
twice : once (codes "X" ∷ codes "Y" ∷ codes "X" ∷ []) ≡ Err rule.Once
twice = refl
