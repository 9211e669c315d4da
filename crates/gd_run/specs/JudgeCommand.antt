-- The command `judge`: its words, its inputs, and its answer from what was read.
use Rattle.std.specs.Prelude.{ℕ, ◌≤◌, List, [], ◌∷◌, codes, decimal, IsSomeAnd}
use Rattle.gd_base.specs.Limits.{BUDGET}
use Rattle.gd_group.specs.Tasks.{Meets, all_asked, assignment_of, labels, questions_of}
use Rattle.gd_points.specs.Table.{Table}
use Rattle.gd_run.specs.Answers.{Answer}
use Rattle.gd_run.specs.GroupReports.{AreReported}
use Rattle.gd_run.specs.Inputs.{Given, Input}
use Rattle.gd_run.specs.declared.inputs.InputKind.TheVariants as kind
use Rattle.gd_run.specs.declared.layout.Layout.{Layout}
use Rattle.gd_run.specs.declared.layout.Layout.TheVariants as layout
use Rattle.gd_tables.specs.Kinds.{File}

-- the words of a frame file, of a points file and of the certificate, a budget in cells, and how the report is laid out
pub record Judge : Type 0 where
  pub frames : List ℕ
  pub points : List ℕ
  pub certificate : List ℕ
  pub budget : ℕ
  pub layout : Layout

abbrev pub layout_word : Layout → List ℕ
layout_word layout.Text = codes "text"
layout_word layout.Json = codes "json"

-- `judge FRAMES POINTS CERT BUDGET text` or `json`
abbrev pub judge_words : Judge → List (List ℕ)
judge_words judge =
    codes "judge" ∷ judge.frames ∷ judge.points ∷ judge.certificate ∷ decimal judge.budget
    ∷ layout_word judge.layout ∷ []

-- its number is in its range
pub record IsJudgeRange (judge : Judge) : Type 0 where
  pub some_budget : 1 ≤ judge.budget
  pub budget : judge.budget ≤ BUDGET

-- the points are read first, and the frames beside them
abbrev pub judge_inputs : Judge → List Input
judge_inputs judge =
    record { kind = kind.Points; word = judge.points } ∷ record { kind = kind.Frames; word = judge.frames } ∷ []

-- the answer for a table and a frame file: the verdicts of all groups, each for its share of the budget, as a report,
-- and their certificate is stored
abbrev pub IsJudgeAnswer : Judge → Table → File → Answer → Type 0
IsJudgeAnswer judge table file a = AreReported questions_of Meets assignment_of (all_asked file table.rows)
    (labels file table.rows) judge.budget judge.layout judge.certificate a

abbrev pub IsJudgeJob : Judge → Given → Answer → Type 0
IsJudgeJob judge given a =
    IsSomeAnd given.table (λ table. IsSomeAnd given.frames (λ file. IsJudgeAnswer judge table file a))
