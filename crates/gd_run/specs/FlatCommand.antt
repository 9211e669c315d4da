-- The command `flat`: its words, its inputs, and its answer from what was read.
use Rattle.std.specs.Prelude.{ℕ, ◌≡◌, ◌≤◌, List, [], ◌∷◌, Option, codes, decimal, option_to_list, IsSomeAnd}
use Rattle.gd_base.specs.Limits.{BUDGET, TOLERANCE}
use Rattle.gd_cert.specs.Text.{text}
use Rattle.gd_flat.specs.FlatTask.{direction_at, questions_of}
use Rattle.gd_points.specs.Table.{Table}
use Rattle.gd_report.specs.Said.{Said, accepted, opened, rejected}
use Rattle.gd_run.specs.Answers.{Answer, certificate_of_end, stores_to}
use Rattle.gd_run.specs.Inputs.{Given, Input}
use Rattle.gd_run.specs.declared.inputs.InputKind.TheVariants as kind
use Rattle.gd_verdict.specs.Verdict.{End, Accepted, Rejected, Open, IsVerdict}

-- the word of a points file, a tolerance in units, a budget, and the word of a certificate where one is wanted
pub record Flat : Type 0 where
  pub points : List ℕ
  pub tolerance : ℕ
  pub budget : ℕ
  pub certificate : Option (List ℕ)

-- `flat POINTS T BUDGET` or `flat POINTS T BUDGET CERT`
abbrev pub flat_words : Flat → List (List ℕ)
flat_words flat =
    codes "flat" ∷ flat.points ∷ decimal flat.tolerance ∷ decimal flat.budget ∷ option_to_list flat.certificate

-- its numbers are in their ranges
pub record IsFlatRange (flat : Flat) : Type 0 where
  pub tolerance : flat.tolerance ≤ TOLERANCE
  pub some_budget : 1 ≤ flat.budget
  pub budget : flat.budget ≤ BUDGET

abbrev pub flat_inputs : Flat → List Input
flat_inputs flat = record { kind = kind.Points; word = flat.points } ∷ []

-- what is said of a verdict
abbrev pub said_of_end : End → Said
said_of_end (Accepted witness level) = accepted level (direction_at witness)
said_of_end (Rejected leaves tree) = rejected leaves
said_of_end (Open tree counts) = opened counts

-- the answer for a table: what is said of the verdict, and its certificate where one is wanted
abbrev pub IsFlatAnswer : Flat → Table → Answer → Type 0
IsFlatAnswer flat table a =
    (e : End) × IsVerdict (questions_of table.rows flat.tolerance) flat.budget e
    × (a ≡ record {
      stores = stores_to flat.certificate
          (text (certificate_of_end (questions_of table.rows flat.tolerance) flat.budget e));
      said = said_of_end e;
    })

abbrev pub IsFlatJob : Flat → Given → Answer → Type 0
IsFlatJob flat given a = IsSomeAnd given.table (λ table. IsFlatAnswer flat table a)
