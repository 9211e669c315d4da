-- A report, or why there is none.
use Rattle.std.specs.Prelude.{ℕ, ◌≡◌, ◌≤◌, ◌<◌, ◌++◌, ◌⊎◌, Bool, true, List, Option, Some, None, Result, Ok, Err}
use Rattle.std.specs.Prelude.{IfSome, IsSomeAnd, length, take}
use Rattle.std.specs.Option.{option_len}
use Rattle.std.specs.String.{string_bytes}
use Rattle.gd_base.specs.Causes.{Rose}
use Rattle.gd_base.specs.Limits.{FILE_BYTES}
use Rattle.gd_cert.specs.Bounds.{IsInBounds}
use Rattle.gd_cert.specs.Certificates.{certificate_of}
use Rattle.gd_cert.specs.Text.{KeepsLines, text}
use Rattle.gd_frames.specs.Facts.{IsFile}
use Rattle.gd_points.specs.Table.{Table}
use Rattle.gd_report.specs.Said.{Said, said_in, status_of}
use Rattle.gd_report.specs.declared.ending.Ending.{Ending}
use Rattle.gd_run.specs.Endings.{StoresDone}
use Rattle.gd_run.specs.Views.{stores_in}
use Rattle.gd_run.specs.declared.inputs.Inputs.{Inputs}
use Rattle.gd_run.specs.declared.report.NamedFile.{NamedFile}
use Rattle.gd_run.specs.declared.report.Refusal.{Refusal}
use Rattle.gd_run.specs.declared.report.Refusal.TheVariants as refusal
use Rattle.gd_run.specs.declared.report.Report.{Report}
use Rattle.gd_run.specs.declared.report.Stop.{Stop}
use Rattle.gd_run.specs.declared.report.Stop.TheVariants as stop
use Rattle.gd_tables.specs.Kinds.{file_of}
use Rattle.gd_tables.specs.declared.file.FrameFile.{FrameFile}
use Rattle.gd_world.specs.Shelf.{Files, IsWord, PutsPrefix, Word}

-- what is so of a report, and of the word of a file that could not be read. Of want of memory nothing is said
abbrev pub OnReport : (Report → Type 0) → (List ℕ → Type 0) → Result Report Stop → Type 0
OnReport P Q (Ok report) = P report
OnReport P Q (Err (stop.Unread word)) = Q word.now
OnReport P Q (Err stop.Memory) = Unit {0}

-- there is a report, and this is so of it
abbrev pub HasReport : (Report → Type 0) → Result Report Stop → Type 0
HasReport P (Ok report) = P report
HasReport P (Err (stop.Unread word)) = ⊥
HasReport P (Err stop.Memory) = ⊥

-- a file could not be read, and this is so of its word
abbrev pub IsUnreadAnd : (List ℕ → Type 0) → Result Report Stop → Type 0
IsUnreadAnd Q (Ok report) = ⊥
IsUnreadAnd Q (Err (stop.Unread word)) = Q word.now
IsUnreadAnd Q (Err stop.Memory) = ⊥

-- frames were read beside the table, and keep the rules of a frame file
abbrev pub AreOfTable : Option Table → Option FrameFile → Type 0
AreOfTable table None = Unit {0}
AreOfTable table (Some file) = IsSomeAnd table (λ t. IsFile t (file_of file))

-- what the readers say of what was read: a table has a point, frames are those of the table, and a certificate can be
-- checked
pub record IsSound (i : Inputs) : Type 0 where
  pub some_points : IfSome i.table (λ t. 0 < length t.rows)
  pub of_table : AreOfTable i.table i.frames
  pub certified : IfSome i.certificate (λ c. IsInBounds (certificate_of c) × KeepsLines c
      × (length (text (certificate_of c)) ≤ FILE_BYTES))

-- what is so of the inputs that were read, of what is said of one that was refused, and of the word of one that could
-- not be read
abbrev pub OnInputs : (Inputs → Type 0) → (Said → Type 0) → (List ℕ → Type 0) → Result Inputs Refusal → Type 0
OnInputs P R Q (Ok inputs) = P inputs
OnInputs P R Q (Err (refusal.Refused line)) = R (said_in line)
OnInputs P R Q (Err (refusal.Unread word)) = Q word.now
OnInputs P R Q (Err refusal.Memory) = Unit {0}

-- an ending of an answer: of a verdict, a check, a refusal or wrong words
abbrev pub IsPlain : Ending → Type 0
IsPlain e = (status_of e ≤ 4) ⊎ (status_of e ≡ 8)

-- the store of a report's file failed, and nothing was put
pub record StoreFails (r : Report) (tells : Bool) (old new : Files) (failed : Word) (faults faults_now : ℕ)
    (sink_tells : Bool) (before now : List ℕ) : Type 0 where
  pub file : NamedFile
  pub of_report : r.file ≡ Some file
  pub failed_word : IsWord failed file.name.now true
  pub rose : Rose faults faults_now
  pub prefix : tells ≡ true → PutsPrefix old new file.name.now file.bytes.items
  pub nothing : sink_tells ≡ true → now ≡ before

-- the put of a report's line failed, after its store
pub record PutFails (r : Report) (tells : Bool) (old new : Files) (sink_tells : Bool) (before now : List ℕ)
    (faults faults_now : ℕ) : Type 0 where
  pub rose : Rose faults faults_now
  pub stored : tells ≡ true → StoresDone (stores_in r.file) old new
  pub prefix : sink_tells ≡ true → (n : ℕ) × (now ≡ before ++ take n (string_bytes r.line.text))

-- how many stores a report wants
abbrev pub stores_wanted : Result Report Stop → ℕ
stores_wanted (Ok r) = option_len r.file
stores_wanted (Err e) = 0
