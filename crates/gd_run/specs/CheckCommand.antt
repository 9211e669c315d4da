-- The command `check`: its words, its inputs, and its answer from what was read.
use Rattle.std.specs.Prelude.{ℕ, List, [], ◌∷◌, codes, IsSomeAnd}
use Rattle.gd_cert.specs.Certificates.{Certificate}
use Rattle.gd_group.specs.Tasks.{Meets, all_asked, assignment_of, questions_of}
use Rattle.gd_points.specs.Table.{Table}
use Rattle.gd_run.specs.Answers.{Answer}
use Rattle.gd_run.specs.GroupReports.{IsDecided}
use Rattle.gd_run.specs.Inputs.{Given, Input}
use Rattle.gd_run.specs.declared.inputs.InputKind.TheVariants as kind
use Rattle.gd_tables.specs.Kinds.{File}

-- the words of a frame file, of a points file and of a certificate
pub record Check : Type 0 where
  pub frames : List ℕ
  pub points : List ℕ
  pub certificate : List ℕ

-- `check FRAMES POINTS CERT`
abbrev pub check_words : Check → List (List ℕ)
check_words check = codes "check" ∷ check.frames ∷ check.points ∷ check.certificate ∷ []

-- it has no number
abbrev pub IsCheckRange : Check → Type 0
IsCheckRange check = Unit {0}

-- the points are read first, then the frames beside them, then the certificate
abbrev pub check_inputs : Check → List Input
check_inputs check =
    record { kind = kind.Points; word = check.points } ∷ record { kind = kind.Frames; word = check.frames }
    ∷ record { kind = kind.Certificate; word = check.certificate } ∷ []

-- the answer for a table, a frame file and a certificate: whether it is right for the groups of the file, and else its
-- first wrong line
abbrev pub IsCheckAnswer : Table → File → Certificate → Answer → Type 0
IsCheckAnswer table file c a = IsDecided questions_of Meets assignment_of (all_asked file table.rows) c a

abbrev pub IsCheckJob : Check → Given → Answer → Type 0
IsCheckJob check given a = IsSomeAnd given.table (λ table. IsSomeAnd given.frames
    (λ file. IsSomeAnd given.certificate (λ c. IsCheckAnswer table file c a)))
