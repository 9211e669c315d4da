-- A table that was read has a row, and no more than 200,000.
use Rattle.std.proofs.Common.{arith, ◌≡◌, refl, subst, ℕ, ◌+◌, ◌<◌, ◌≤◌, Bool, true, false, cond, ◌==◌, List, [], ◌∷◌, Option, Some, None, Result, Ok, Err, length, nat_lt, if◌then◌else◌}
use Rattle.std.proofs.lemmas.List.{length-append}
use Rattle.std.proofs.lemmas.Bool.Decides.{nat_tests}
use Rattle.gd_base.specs.Limits.{POINTS}
use Rattle.csv.specs.Reading.{default_config, records, strip_bom}
use Rattle.gd_base.specs.declared.fault.InputFault.{InputFault}
use Rattle.gd_points.specs.Points.{Five, Point, five_of, is_header, next_row, or_fault, point_in, points, points_from, points_of, with_points, with_record, with_records}
use Rattle.gd_base.specs.Causes.{and_then_read}
use Rattle.gd_points.specs.Rules.{fault}
use Rattle.gd_points.specs.Table.{Table, empty_table, with_point}
use Rattle.gd_points.specs.declared.rule.Rule.TheVariants as rule

ended : (none : Bool) (t u : Table) (f : InputFault) → (length t.rows == 0) ≡ none → cond none (Err f) (Ok t) ≡ Ok u → 0 < length u.rows
ended true t u f e h = absurd (cc)
ended false t u f e h = let same : t ≡ u = cc in let some : 0 < length t.rows = grind (arith, nat_tests) in subst (λ (v : Table). 0 < length v.rows) same some

from_some : (r : Result Table InputFault) (u : Table) → and_then_read r with_points ≡ Ok u → 0 < length u.rows
from_some (Ok v) u h = ended (length v.rows == 0) v u _ refl h
from_some (Err f) u h = absurd (cc)

begun : (header : Bool) (rest : List (List (List ℕ))) (u : Table) (f : InputFault) → cond header (points_from empty_table rest) (Err f) ≡ Ok u → 0 < length u.rows
begun true rest u f h = from_some (with_records empty_table rest) u h
begun false rest u f h = absurd (cc)

all_some : (rs : List (List (List ℕ))) (u : Table) → points_of rs ≡ Ok u → 0 < length u.rows
all_some [] u h = absurd (cc)
all_some (fields ∷ rest) u h = begun (is_header (five_of fields)) rest u _ h

pub table_has_row : (bytes : List ℕ) (u : Table) → points bytes ≡ Ok u → 0 < length u.rows
table_has_row bytes u h = all_some (records default_config (strip_bom (strip_bom bytes))) u h

-- ---- no more than 200,000
add_few : (t u : Table) (r : Result Point InputFault) → length t.rows < POINTS → and_then_read r (λ p. Ok (with_point t p.name p.group p.at)) ≡ Ok u → length u.rows ≤ POINTS
add_few t u (Ok p) room h =
    let same : with_point t p.name p.group p.at ≡ u = cc in
    let one : length (with_point t p.name p.group p.at).rows ≡ length t.rows + 1 = length-append t.rows _ in
    subst (λ (v : Table). length v.rows ≤ POINTS) same (omega (arith, one))
add_few t u (Err f) room h = absurd (cc)

room_few : (room : Bool) (t u : Table) (r : Result Point InputFault) (f : InputFault) → nat_lt (length t.rows) POINTS ≡ room → cond room (and_then_read r (λ p. Ok (with_point t p.name p.group p.at))) (Err f) ≡ Ok u → length u.rows ≤ POINTS
room_few true t u r f is h = let room : length t.rows < POINTS = grind (arith, nat_tests) in add_few t u r room h
room_few false t u r f is h = absurd (cc)

record_few : (five : Option Five) (t u : Table) (f : InputFault) → and_then_read (or_fault five f) (λ five. if nat_lt (length t.rows) POINTS then and_then_read (point_in (next_row t) five) (λ p. Ok (with_point t p.name p.group p.at)) else Err (fault rule.TooManyPoints (next_row t) 0)) ≡ Ok u → length u.rows ≤ POINTS
record_few (Some five) t u f h = room_few (nat_lt (length t.rows) POINTS) t u (point_in (next_row t) five) _ refl h
record_few None t u f h = absurd (cc)

went_few : (r : Result Table InputFault) (rest : List (List (List ℕ))) (u : Table) → ((v : Table) → r ≡ Ok v → length v.rows ≤ POINTS) → ((v : Table) → length v.rows ≤ POINTS → with_records v rest ≡ Ok u → length u.rows ≤ POINTS) → and_then_read r (λ v. with_records v rest) ≡ Ok u → length u.rows ≤ POINTS
went_few (Ok v) rest u few more h = more v (few v refl) h
went_few (Err f) rest u few more h = absurd (cc)

records_few : (rs : List (List (List ℕ))) (t u : Table) → length t.rows ≤ POINTS → with_records t rs ≡ Ok u → length u.rows ≤ POINTS
records_few [] t u few h = let same : t ≡ u = cc in subst (λ (v : Table). length v.rows ≤ POINTS) same few
records_few (fields ∷ rest) t u few h = went_few (with_record t fields) rest u (λ v e. record_few (five_of fields) t v (fault rule.Fields (next_row t) 0) e) (λ v room e. records_few rest v u room e) h

ended_few : (none : Bool) (t u : Table) (f : InputFault) → length t.rows ≤ POINTS → cond none (Err f) (Ok t) ≡ Ok u → length u.rows ≤ POINTS
ended_few true t u f few h = absurd (cc)
ended_few false t u f few h = let same : t ≡ u = cc in subst (λ (v : Table). length v.rows ≤ POINTS) same few

from_few : (r : Result Table InputFault) (u : Table) → ((v : Table) → r ≡ Ok v → length v.rows ≤ POINTS) → and_then_read r with_points ≡ Ok u → length u.rows ≤ POINTS
from_few (Ok v) u few h = ended_few (length v.rows == 0) v u _ (few v refl) h
from_few (Err f) u few h = absurd (cc)

begun_few : (header : Bool) (rest : List (List (List ℕ))) (u : Table) (f : InputFault) → cond header (points_from empty_table rest) (Err f) ≡ Ok u → length u.rows ≤ POINTS
begun_few true rest u f h = from_few (with_records empty_table rest) u (λ v e. records_few rest empty_table v (omega arith) e) h
begun_few false rest u f h = absurd (cc)

all_few : (rs : List (List (List ℕ))) (u : Table) → points_of rs ≡ Ok u → length u.rows ≤ POINTS
all_few [] u h = absurd (cc)
all_few (fields ∷ rest) u h = begun_few (is_header (five_of fields)) rest u _ h

pub table_has_few : (bytes : List ℕ) (u : Table) → points bytes ≡ Ok u → length u.rows ≤ POINTS
table_has_few bytes u h = all_few (records default_config (strip_bom (strip_bom bytes))) u h
