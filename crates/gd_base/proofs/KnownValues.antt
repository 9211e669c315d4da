-- Values worked by hand, so that a wrong definition doesn't check.
use Rattle.std.proofs.Common.{◌≡◌, refl, ℕ, true, false, [], ◌∷◌, List, lit≤, ◌≤◌, Some, None}
use Rattle.std.specs.Prelude.{codes}
use Rattle.gd_base.specs.Causes.{Rose}
use Rattle.gd_base.specs.Names.{is_name, name_of}
use Rattle.gd_base.specs.Numerals.{begins_plain, digits_from}

-- ---- names
pub known_name : is_name (codes "Hole_1-a") ≡ true
known_name = refl

pub known_long_name : is_name (codes "abcdefghijklmnopqrstuvwxyz012345") ≡ true
known_long_name = refl

pub known_too_long : is_name (codes "abcdefghijklmnopqrstuvwxyz0123456") ≡ false
known_too_long = refl

pub known_empty : name_of [] ≡ None
known_empty = refl

pub known_space : name_of (codes "a b") ≡ None
known_space = refl

-- ---- numerals
pub known_zero : digits_from 0 (codes "0") ≡ Some 0
known_zero = refl

pub known_number : digits_from 0 (codes "1000001") ≡ Some 1000001
known_number = refl

pub known_sign : digits_from 0 (codes "+7") ≡ None
known_sign = refl

pub known_leading_zero : begins_plain (codes "07") ≡ false
known_leading_zero = refl

pub known_lone_zero : begins_plain (codes "0") ≡ true
known_lone_zero = refl

-- ---- counts of faults
pub known_rise : Rose 2 3
known_rise = lit≤ tt

pub known_last_rise : Rose 18446744073709551615 18446744073709551615
known_last_rise = lit≤ tt
