-- The answer to the words of a run over the files that they name.
use Rattle.std.specs.Prelude.{ℕ, ◌≡◌, ◌≤◌, ◌⊎◌, List, [], Some, Result, Ok, Err, IsSomeAnd}
use Rattle.std.specs.List.{All}
use Rattle.gd_report.specs.Said.{Said, status_of, wrong_words}
use Rattle.gd_run.specs.Answers.{Answer, Store, only_said}
use Rattle.gd_run.specs.Asks.{Ask, Asks, IsJob, IsNoCommand, inputs_of, store_of}
use Rattle.gd_run.specs.Inputs.{Given, IsTurn, IsWordOf, nothing_given, reads}
use Rattle.gd_world.specs.Shelf.{Files}

-- the answer from what was read, or what is said of an input that was refused
abbrev pub IsAnswerFrom : Ask → Result Given Said → Answer → Type 0
IsAnswerFrom ask (Ok given) a = IsJob ask given a
IsAnswerFrom ask (Err said) a = a ≡ only_said said

-- the answer to what the words ask for, where the files that it reads are there
abbrev pub IsAnswerTo : Ask → Files → Answer → Type 0
IsAnswerTo ask files a = IsSomeAnd (reads nothing_given (inputs_of ask) files) (λ read. IsAnswerFrom ask read a)

abbrev pub IsAnswer : List (List ℕ) → Files → Answer → Type 0
IsAnswer words files a =
    (IsNoCommand words × (a ≡ only_said wrong_words)) ⊎ ((ask : Ask) × Asks words ask × IsAnswerTo ask files a)

-- ---- whatever the files hold
-- an answer to what was asked: a verdict, a check or a refusal. It stores under the word of the command alone, and
-- nothing with a refusal or an invalid certificate
pub record IsAnswerOf (ask : Ask) (a : Answer) : Type 0 where
  pub ending : (status_of a.said.ending ≤ 3) ⊎ (status_of a.said.ending ≡ 8)
  pub named : All (λ (s : Store). store_of ask ≡ Some s.0) a.stores
  pub refused : 3 ≤ status_of a.said.ending → a.stores ≡ []

-- an answer that the words allow
abbrev pub IsPossible : List (List ℕ) → Answer → Type 0
IsPossible words a =
    (IsNoCommand words × (a ≡ only_said wrong_words)) ⊎ ((ask : Ask) × Asks words ask × IsAnswerOf ask a)

-- the word of a file that the words ask to read
pub record IsToRead (words : List (List ℕ)) (word : List ℕ) : Type 0 where
  pub ask : Ask
  pub asks : Asks words ask
  pub of_input : IsWordOf (inputs_of ask) word

-- the word of a file whose turn it was: those before it were read
pub record IsNext (words : List (List ℕ)) (files : Files) (word : List ℕ) : Type 0 where
  pub ask : Ask
  pub asks : Asks words ask
  pub turn : IsTurn nothing_given (inputs_of ask) files word
