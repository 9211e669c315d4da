-- Values worked by hand, so that a wrong definition doesn't check.
use Rattle.std.proofs.Common.{◌≡◌, ℕ, List, [], ◌∷◌, Some, None, refl}
use Rattle.std.specs.Prelude.{pos, negsuc, codes, Ok, Err}
use Rattle.csv.specs.Reading.{strip_bom}
use Rattle.gd_points.specs.Index.{is_of, is_of_group, numbers_where}
use Rattle.gd_points.specs.Numbers.{number_of}
use Rattle.gd_points.specs.Points.{points_of}
use Rattle.gd_points.specs.Rules.{fault}
use Rattle.gd_points.specs.declared.rule.Rule.TheVariants as rule
use Rattle.gd_points.specs.declared.table.Row.{Row}

blanks_and_zeros : number_of (codes "\t +007 ") ≡ Some (pos 7)
blanks_and_zeros = refl

below_zero : number_of (codes "-12") ≡ Some (negsuc 11)
below_zero = refl

minus_zero : number_of (codes "-0") ≡ Some (pos 0)
minus_zero = refl

many_digits : number_of (codes "00123456789012345678901234567890") ≡ Some (pos 123456789012345678901234567890)
many_digits = refl

no_digit : number_of (codes " + ") ≡ None
no_digit = refl

two_signs : number_of (codes "--1") ≡ None
two_signs = refl

blank_after_sign : number_of (codes "- 1") ≡ None
blank_after_sign = refl

blank_between : number_of (codes "1 2") ≡ None
blank_between = refl

fraction : number_of (codes "1.0") ≡ None
fraction = refl

abbrev header : List (List ℕ)
header = codes "feature" ∷ codes "group" ∷ codes "x" ∷ codes "y" ∷ codes "z" ∷ []

-- the features are numbered in the order of their first points
two_features : points_of (header
    ∷ (codes "b" ∷ codes "0" ∷ codes "1" ∷ codes "-2" ∷ codes "3" ∷ [])
    ∷ (codes "a" ∷ codes "999" ∷ codes "8000000" ∷ codes "-8000000" ∷ codes "+0" ∷ [])
    ∷ (codes "b" ∷ codes "-0" ∷ codes "4" ∷ codes "5" ∷ codes "6" ∷ []) ∷ [])
    ≡ Ok (record {
      rows = record { feature = 0; group = 0; at = record { x = pos 1; y = negsuc 1; z = pos 3 } }
          ∷ record { feature = 1; group = 999; at = record { x = pos 8000000; y = negsuc 7999999; z = pos 0 } }
          ∷ record { feature = 0; group = 0; at = record { x = pos 4; y = pos 5; z = pos 6 } } ∷ [];
      names = codes "b" ∷ codes "a" ∷ [];
    })
two_features = refl

-- the fault that stands further left comes first, whatever its code
left_first : points_of (header ∷ (codes "a" ∷ codes "0" ∷ codes "8000001" ∷ codes "x" ∷ codes "3" ∷ []) ∷ []) ≡ Err (fault rule.Range 2 3)
left_first = refl

group_below_zero : points_of (header ∷ (codes "a" ∷ codes "-1" ∷ codes "1" ∷ codes "2" ∷ codes "3" ∷ []) ∷ []) ≡ Err (fault rule.Range 2 2)
group_below_zero = refl

name_before_number : points_of (header ∷ (codes "a b" ∷ codes "x" ∷ codes "1" ∷ codes "2" ∷ codes "3" ∷ []) ∷ []) ≡ Err (fault rule.Name 2 1)
name_before_number = refl

header_alone : points_of (header ∷ []) ≡ Err (record { code = 16; row = 2; column = 0 })
header_alone = refl

no_record : points_of [] ≡ Err (record { code = 10; row = 1; column = 0 })
no_record = refl

-- of two byte order marks one is dropped at a time
two_marks : strip_bom (strip_bom (239 ∷ 187 ∷ 191 ∷ 239 ∷ 187 ∷ 191 ∷ 97 ∷ [])) ≡ 97 ∷ []
unfolding strip_bom
two_marks = refl

-- three points of two features, the first in two groups
abbrev three : List Row
three = record { feature = 0; group = 5; at = record { x = pos 1; y = pos 2; z = pos 3 } }
    ∷ record { feature = 1; group = 7; at = record { x = pos 4; y = pos 5; z = pos 6 } }
    ∷ record { feature = 0; group = 7; at = record { x = pos 7; y = pos 8; z = pos 9 } } ∷ []

first_feature : numbers_where (is_of 0) three ≡ 0 ∷ 2 ∷ []
first_feature = refl

no_feature : numbers_where (is_of 2) three ≡ []
no_feature = refl

one_group : numbers_where (is_of_group 0 7) three ≡ 2 ∷ []
one_group = refl
