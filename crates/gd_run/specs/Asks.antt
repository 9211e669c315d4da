-- What the words of a run ask for. A command is a line in each of these definitions.
use Rattle.std.specs.Prelude.{ℕ, ◌≡◌, List, Option, Some, None}
use Rattle.gd_run.specs.Answers.{Answer}
use Rattle.gd_run.specs.CheckCommand.{Check, IsCheckJob, IsCheckRange, check_inputs, check_words}
use Rattle.gd_run.specs.CheckFlatCommand.{CheckFlat, IsCheckFlatJob, IsCheckFlatRange}
use Rattle.gd_run.specs.CheckFlatCommand.{check_flat_inputs, check_flat_words}
use Rattle.gd_run.specs.FlatCommand.{Flat, IsFlatJob, IsFlatRange, flat_inputs, flat_words}
use Rattle.gd_run.specs.Inputs.{Given, Input}
use Rattle.gd_run.specs.JudgeCommand.{IsJudgeJob, IsJudgeRange, Judge, judge_inputs, judge_words}

pub data Ask : Type 0 where
  ForFlat : Flat → Ask
  ForCheckFlat : CheckFlat → Ask
  ForJudge : Judge → Ask
  ForCheck : Check → Ask

-- the words of an ask: each number has one spelling
abbrev pub words_of : Ask → List (List ℕ)
words_of (ForFlat flat) = flat_words flat
words_of (ForCheckFlat check) = check_flat_words check
words_of (ForJudge judge) = judge_words judge
words_of (ForCheck check) = check_words check

-- its numbers are in their ranges
abbrev pub IsInRange : Ask → Type 0
IsInRange (ForFlat flat) = IsFlatRange flat
IsInRange (ForCheckFlat check) = IsCheckFlatRange check
IsInRange (ForJudge judge) = IsJudgeRange judge
IsInRange (ForCheck check) = IsCheckRange check

-- the files that it reads, in order
abbrev pub inputs_of : Ask → List Input
inputs_of (ForFlat flat) = flat_inputs flat
inputs_of (ForCheckFlat check) = check_flat_inputs check
inputs_of (ForJudge judge) = judge_inputs judge
inputs_of (ForCheck check) = check_inputs check

-- the word under which it stores, where it stores
abbrev pub store_of : Ask → Option (List ℕ)
store_of (ForFlat flat) = flat.certificate
store_of (ForCheckFlat check) = None
store_of (ForJudge judge) = Some judge.certificate
store_of (ForCheck check) = None

-- its answer from what was read
abbrev pub IsJob : Ask → Given → Answer → Type 0
IsJob (ForFlat flat) given a = IsFlatJob flat given a
IsJob (ForCheckFlat check) given a = IsCheckFlatJob check given a
IsJob (ForJudge judge) given a = IsJudgeJob judge given a
IsJob (ForCheck check) given a = IsCheckJob check given a

-- the words ask for this
pub record Asks (words : List (List ℕ)) (ask : Ask) : Type 0 where
  pub spelled : words ≡ words_of ask
  pub range : IsInRange ask

-- the words are of no command
abbrev pub IsNoCommand : List (List ℕ) → Type 0
IsNoCommand words = (ask : Ask) → Asks words ask → ⊥

-- what the words ask for, if they are of a command
abbrev pub IsAskOf : List (List ℕ) → Option Ask → Type 0
IsAskOf words (Some ask) = Asks words ask
IsAskOf words None = IsNoCommand words

-- the command of one kind that the words spell with its numbers in range, or that there is none
abbrev pub IsSpelled : {C : Type 0} → (C → List (List ℕ)) → (C → Type 0) → List (List ℕ) → Option C → Type 0
IsSpelled spell range words (Some c) = (words ≡ spell c) × range c
IsSpelled {C = C} spell range words None = (c : C) → words ≡ spell c → range c → ⊥
