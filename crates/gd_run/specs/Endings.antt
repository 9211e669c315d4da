-- How a run ends: what it stored, what it put, and its status.
use Rattle.std.specs.Prelude.{ℕ, ◌≡◌, ◌≤◌, ◌+◌, ◌++◌, ◌⊎◌, Bool, true, false, List, [], ◌∷◌, length, take}
use Rattle.std.specs.Option.{option_len}
use Rattle.gd_base.specs.Causes.{Rose}
use Rattle.gd_report.specs.Said.{status_of}
use Rattle.gd_report.specs.Texts.{cannot_read_text}
use Rattle.gd_run.specs.Answers.{Answer, Store}
use Rattle.gd_run.specs.Asks.{Ask, Asks, IsNoCommand, inputs_of, store_of}
use Rattle.gd_run.specs.Claims.{IsAccept, IsInvalid, IsOpen, IsReject, IsValid}
use Rattle.gd_run.specs.GroupClaims.{AreGroupsInvalid, AreGroupsValid, IsJudgedAccept, IsJudgedOpen, IsJudgedReject}
use Rattle.gd_run.specs.Runs.{IsAnswer, IsNext, IsPossible, IsToRead}
use Rattle.gd_world.specs.Shelf.{Files, IsWord, Puts, PutsPrefix, SameFiles, Word}

-- what a run was given and what it left: its words, whether the shelf and the sink tell, what the names held and hold,
-- the failed word, what was written before and after, and the counts of faults before and after
pub record Course : Type 0 where
  pub words : List (List ℕ)
  pub shelf_tells : Bool
  pub sink_tells : Bool
  pub old : Files
  pub new : Files
  pub failed : Word
  pub before : List ℕ
  pub now : List ℕ
  pub shelf_faults : ℕ × ℕ
  pub sink_faults : ℕ × ℕ

-- the stores were done, in order, and every other name holds what it held
abbrev pub StoresDone : List Store → Files → Files → Type 0
StoresDone [] old new = SameFiles old new
StoresDone (s ∷ ss) old new = (mid : Files) × Puts old mid s.0 s.1 × StoresDone ss mid new

-- an answer that the words allow; where the shelf tells, it is the answer for its files
pub record HasAnswer (c : Course) (a : Answer) : Type 0 where
  pub possible : IsPossible c.words a
  pub is : c.shelf_tells ≡ true → IsAnswer c.words c.old a

-- the run ended with its answer: its status, its stores, and its text appended to what was written
pub record EndsWithAnswer (c : Course) (code : ℕ) : Type 0 where
  pub answer : Answer
  pub has : HasAnswer c answer
  pub status : code ≡ status_of answer.said.ending
  pub stored : c.shelf_tells ≡ true → StoresDone answer.stores c.old c.new
  pub kept : answer.stores ≡ [] → SameFiles c.old c.new
  pub written : c.sink_tells ≡ true → c.now ≡ c.before ++ answer.said.text

-- the word of a file whose load failed: it was its turn
pub record IsUnread (c : Course) (word : List ℕ) : Type 0 where
  pub to_read : IsToRead c.words word
  pub next : c.shelf_tells ≡ true → IsNext c.words c.old word
  pub failed_word : IsWord c.failed word false
  pub rose : Rose c.shelf_faults.0 c.shelf_faults.1
  pub kept : SameFiles c.old c.new

-- a file could not be read, and the line that names it was put
pub record EndsUnread (c : Course) (code : ℕ) : Type 0 where
  pub word : List ℕ
  pub unread : IsUnread c word
  pub status : code ≡ 5
  pub written : c.sink_tells ≡ true → c.now ≡ c.before ++ cannot_read_text word

-- a store of the answer failed: those before it were done, its name holds what it held or the first of its bytes, and
-- nothing was put
pub record EndsInStore (c : Course) (code : ℕ) : Type 0 where
  pub answer : Answer
  pub has : HasAnswer c answer
  pub done : List Store
  pub store : Store
  pub left : List Store
  pub order : answer.stores ≡ done ++ store ∷ left
  pub failed_word : IsWord c.failed store.0 true
  pub rose : Rose c.shelf_faults.0 c.shelf_faults.1
  pub status : code ≡ 6
  pub mid : Files
  pub stored : c.shelf_tells ≡ true → StoresDone done c.old mid × PutsPrefix mid c.new store.0 store.1
  pub nothing : c.sink_tells ≡ true → c.now ≡ c.before

-- a text to put, with the stores before it: those of the answer; none where a file could not be read
abbrev pub IsToPut : Course → List Store → List ℕ → Type 0
IsToPut c stores text =
    ((a : Answer) × HasAnswer c a × (a.stores ≡ stores) × (a.said.text ≡ text))
    ⊎ ((word : List ℕ) × IsUnread c word × (text ≡ cannot_read_text word) × (stores ≡ []))

-- a put of such a text failed: the first bytes of it were appended
pub record EndsInPut (c : Course) (code : ℕ) : Type 0 where
  pub stores : List Store
  pub text : List ℕ
  pub to_put : IsToPut c stores text
  pub rose : Rose c.sink_faults.0 c.sink_faults.1
  pub status : code ≡ 6
  pub stored : c.shelf_tells ≡ true → StoresDone stores c.old c.new
  pub kept : stores ≡ [] → SameFiles c.old c.new
  pub written : c.sink_tells ≡ true → (count : ℕ) × (c.now ≡ c.before ++ take count text)

-- the stores of the answer were done as far as some place in their order
pub record StoredSome (c : Course) : Type 0 where
  pub answer : Answer
  pub has : HasAnswer c answer
  pub done : List Store
  pub left : List Store
  pub order : answer.stores ≡ done ++ left
  pub stored : c.shelf_tells ≡ true → StoresDone done c.old c.new

-- memory ran out: nothing was put
pub record EndsInWant (c : Course) (code : ℕ) : Type 0 where
  pub status : code ≡ 7
  pub files : SameFiles c.old c.new ⊎ StoredSome c
  pub nothing : c.sink_tells ≡ true → c.now ≡ c.before

-- how a run ends: with its answer, with a file that could not be read, in a store, in a put, or for want of memory
abbrev pub Ends : Course → ℕ → Type 0
Ends c code = EndsWithAnswer c code ⊎ (EndsUnread c code ⊎ (EndsInStore c code ⊎ (EndsInPut c code
    ⊎ EndsInWant c code)))

-- the same over a shelf and a sink that tell: the answer of these files, its stores and its text
pub record Answers (words : List (List ℕ)) (old new : Files) (before now : List ℕ) (code : ℕ) : Type 0 where
  pub answer : Answer
  pub is : IsAnswer words old answer
  pub status : code ≡ status_of answer.said.ending
  pub stored : StoresDone answer.stores old new
  pub written : now ≡ before ++ answer.said.text

-- the load that failed is that of a file which the words ask to read
pub record FailedToRead (words : List (List ℕ)) (failed : Word) : Type 0 where
  pub word : List ℕ
  pub to_read : IsToRead words word
  pub failed_word : IsWord failed word false

-- the run printed something that is so
pub record Prints (Says : List ℕ → Type 0) (before now : List ℕ) : Type 0 where
  pub printed : List ℕ
  pub so : Says printed
  pub written : now ≡ before ++ printed

-- status 0: an accept, of the points or of each group, or a valid certificate
abbrev pub EndsInZero : List (List ℕ) → Files → List ℕ → List ℕ → Type 0
EndsInZero words files before now = Prints (λ printed. IsAccept words files printed ⊎ (IsValid words files printed
    ⊎ (IsJudgedAccept words files printed ⊎ AreGroupsValid words files printed))) before now

-- status 1: a reject, of the points or of some group
abbrev pub EndsInOne : List (List ℕ) → Files → List ℕ → List ℕ → Type 0
EndsInOne words files before now =
    Prints (λ printed. IsReject words files printed ⊎ IsJudgedReject words files printed) before now

-- status 2: an open verdict, of the points or of some group, and no reject
abbrev pub EndsInTwo : List (List ℕ) → Files → List ℕ → List ℕ → Type 0
EndsInTwo words files before now =
    Prints (λ printed. IsOpen words files printed ⊎ IsJudgedOpen words files printed) before now

-- status 8: an invalid certificate
abbrev pub EndsInEight : List (List ℕ) → Files → List ℕ → List ℕ → Type 0
EndsInEight words files before now =
    Prints (λ printed. IsInvalid words files printed ⊎ AreGroupsInvalid words files printed) before now

-- the shelf was called at most once for each input of the command
abbrev pub ReadsFew : List (List ℕ) → ℕ → ℕ → Type 0
ReadsFew words before now = (IsNoCommand words × (now ≤ before)) ⊎ ((ask : Ask) × Asks words ask
    × (now ≤ before + length (inputs_of ask)))

-- the shelf was called at most once for each input of the command, and once where it stores
abbrev pub CallsFew : List (List ℕ) → ℕ → ℕ → Type 0
CallsFew words before now = (IsNoCommand words × (now ≤ before)) ⊎ ((ask : Ask) × Asks words ask
    × (now ≤ before + (length (inputs_of ask) + option_len (store_of ask))))
