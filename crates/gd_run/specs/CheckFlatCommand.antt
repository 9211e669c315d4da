-- The command `checkflat`: its words, its inputs, and its answer from what was read.
use Rattle.std.specs.Prelude.{ℕ, ◌≡◌, ◌≤◌, List, [], ◌∷◌, codes, decimal, IsSomeAnd}
use Rattle.gd_base.specs.Limits.{TOLERANCE}
use Rattle.gd_cert.specs.Certificates.{Certificate}
use Rattle.gd_flat.specs.FlatTask.{questions_of}
use Rattle.gd_points.specs.Table.{Table}
use Rattle.gd_run.specs.Answers.{Answer, only_said, said_of_certificate}
use Rattle.gd_run.specs.Inputs.{Given, Input}
use Rattle.gd_run.specs.declared.inputs.InputKind.TheVariants as kind

-- the word of a points file, a tolerance in units, and the word of a certificate
pub record CheckFlat : Type 0 where
  pub points : List ℕ
  pub tolerance : ℕ
  pub certificate : List ℕ

-- `checkflat POINTS T CERT`
abbrev pub check_flat_words : CheckFlat → List (List ℕ)
check_flat_words check = codes "checkflat" ∷ check.points ∷ decimal check.tolerance ∷ check.certificate ∷ []

-- its number is in its range
abbrev pub IsCheckFlatRange : CheckFlat → Type 0
IsCheckFlatRange check = check.tolerance ≤ TOLERANCE

abbrev pub check_flat_inputs : CheckFlat → List Input
check_flat_inputs check =
    record { kind = kind.Points; word = check.points }
    ∷ record { kind = kind.Certificate; word = check.certificate } ∷ []

-- the answer for a table and a certificate: whether it is right for the one task, and else its first wrong line
abbrev pub IsCheckFlatAnswer : CheckFlat → Table → Certificate → Answer → Type 0
IsCheckFlatAnswer check table c a = a ≡ only_said (said_of_certificate (questions_of table.rows check.tolerance ∷ []) c)

abbrev pub IsCheckFlatJob : CheckFlat → Given → Answer → Type 0
IsCheckFlatJob check given a =
    IsSomeAnd given.table (λ table. IsSomeAnd given.certificate (λ c. IsCheckFlatAnswer check table c a))
