-- The inputs of a command: the files that it reads, in order, and what they are read as.
use Rattle.std.specs.Prelude.{ℕ, ◌≡◌, ◌⊎◌, Bool, true, false, List, [], ◌∷◌, Option, Some, None, Result, Ok, Err, cond}
use Rattle.std.specs.Prelude.{length, nat_lt, is_some, option_and_then, IsOkAnd, IsSomeAnd}
use Rattle.gd_base.specs.Limits.{FILE_BYTES}
use Rattle.gd_base.specs.declared.fault.InputFault.{InputFault}
use Rattle.gd_cert.specs.Certificates.{Certificate}
use Rattle.gd_cert.specs.Reading.{fault, reading}
use Rattle.gd_cert.specs.declared.fault.CertFault.{CertFault}
use Rattle.gd_frames.specs.Files.{frames}
use Rattle.gd_points.specs.Points.{points}
use Rattle.gd_points.specs.Table.{Table}
use Rattle.gd_report.specs.Said.{Said, invalid, refused, status_of}
use Rattle.gd_run.specs.declared.inputs.InputKind.{InputKind}
use Rattle.gd_run.specs.declared.inputs.InputKind.TheVariants as kind
use Rattle.gd_tables.specs.Kinds.{File}
use Rattle.gd_world.specs.Shelf.{Files}

-- a file that a command reads: what it is read as, and its word
pub record Input : Type 0 where
  pub kind : InputKind
  pub word : List ℕ

-- what was read so far
pub record Given : Type 0 where
  pub table : Option Table
  pub frames : Option File
  pub certificate : Option Certificate

abbrev pub nothing_given : Given
nothing_given = record { table = None; frames = None; certificate = None }

-- a file of more than 2^27 bytes is too long
abbrev pub is_long : List ℕ → Bool
is_long bytes = nat_lt FILE_BYTES (length bytes)

-- the table of the bytes of a points file, or its first fault
abbrev pub points_file : List ℕ → Result Table InputFault
points_file bytes = cond (is_long bytes) (Err (record { code = 17; row = 0; column = 0 })) (points bytes)

-- the frame file of bytes beside a table, or its first fault
abbrev pub frames_file : Table → List ℕ → Result File InputFault
frames_file table bytes = cond (is_long bytes) (Err (record { code = 17; row = 0; column = 0 })) (frames bytes table)

-- the certificate of the bytes of its file, or its first fault
abbrev pub certificate_file : List ℕ → Result Certificate CertFault
certificate_file bytes = cond (is_long bytes) (Err (fault 0 46)) (reading bytes)

-- what was read joins what is there, but that frames go with the table that they were read beside; of a fault this is
-- said
abbrev pub with_points : Given → List ℕ → Result Table InputFault → Result Given Said
with_points g word (Ok table) = Ok (record { table = Some table; frames = None; certificate = g.certificate })
with_points g word (Err f) = Err (refused word f)

abbrev pub with_frames : Given → List ℕ → Result File InputFault → Result Given Said
with_frames g word (Ok file) = Ok (record { table = g.table; frames = Some file; certificate = g.certificate })
with_frames g word (Err f) = Err (refused word f)

-- frames are read beside the table that was read before them: each command that reads frames reads points first
abbrev pub frames_beside : Given → List ℕ → List ℕ → Option Table → Result Given Said
frames_beside g word bytes (Some table) = with_frames g word (frames_file table bytes)
frames_beside g word bytes None = Ok g

abbrev pub with_certificate : Given → Result Certificate CertFault → Result Given Said
with_certificate g (Ok c) = Ok (record { table = g.table; frames = g.frames; certificate = Some c })
with_certificate g (Err f) = Err (invalid f.line f.code)

abbrev pub with_bytes : InputKind → Given → List ℕ → List ℕ → Result Given Said
with_bytes kind.Points g word bytes = with_points g word (points_file bytes)
with_bytes kind.Frames g word bytes = frames_beside g word bytes g.table
with_bytes kind.Certificate g word bytes = with_certificate g (certificate_file bytes)

-- one input is read so from what its name holds
abbrev pub Reads : Given → Input → Files → Result Given Said → Type 0
Reads g i files read = IsSomeAnd (files i.word) (λ bytes. with_bytes i.kind g i.word bytes ≡ read)

-- what is said of an input that is too long
abbrev pub said_of_long : InputKind → List ℕ → Said
said_of_long kind.Points word = refused word (record { code = 17; row = 0; column = 0 })
said_of_long kind.Frames word = refused word (record { code = 17; row = 0; column = 0 })
said_of_long kind.Certificate word = invalid 0 46

-- what is said of an input that is refused ends a run so
abbrev pub IsRefusal : Said → Type 0
IsRefusal said = (status_of said.ending ≡ 3) ⊎ (status_of said.ending ≡ 8)

-- the next inputs are read, where none was refused
abbrev pub and_reads : Result Given Said → (Given → Option (Result Given Said)) → Option (Result Given Said)
and_reads (Ok g) next = next g
and_reads (Err said) next = Some (Err said)

-- what the inputs are read as, in order, or what is said of the first that is refused; none where a file isn't held
abbrev pub reads : Given → List Input → Files → Option (Result Given Said)
reads g [] files = Some (Ok g)
reads g (i ∷ is) files =
    option_and_then (λ bytes. and_reads (with_bytes i.kind g i.word bytes) (λ h. reads h is files)) (files i.word)

-- the word of an input whose turn it is: those before it were read
abbrev pub IsTurn : Given → List Input → Files → List ℕ → Type 0
IsTurn g [] files word = ⊥
IsTurn g (i ∷ is) files word =
    (word ≡ i.word)
    ⊎ IsSomeAnd (files i.word) (λ bytes. IsOkAnd (with_bytes i.kind g i.word bytes) (λ h. IsTurn h is files word))

-- the word of an input
abbrev pub IsWordOf : List Input → List ℕ → Type 0
IsWordOf [] word = ⊥
IsWordOf (i ∷ is) word = (word ≡ i.word) ⊎ IsWordOf is word

-- ---- which inputs are there
pub record Kinds : Type 0 where
  pub points : Bool
  pub frames : Bool
  pub certificate : Bool

abbrev pub kinds_of : Given → Kinds
kinds_of g = record { points = is_some g.table; frames = is_some g.frames; certificate = is_some g.certificate }

abbrev pub with_kind : InputKind → Kinds → Kinds
with_kind kind.Points k = record { points = true; frames = false; certificate = k.certificate }
with_kind kind.Frames k = record { points = k.points; frames = true; certificate = k.certificate }
with_kind kind.Certificate k = record { points = k.points; frames = k.frames; certificate = true }

-- those that are there after these inputs
abbrev pub kinds_after : Kinds → List Input → Kinds
kinds_after k [] = k
kinds_after k (i ∷ is) = kinds_after (with_kind i.kind k) is

-- a frame file stands behind a points file, beside whose table it is read
abbrev pub IsPlaced : InputKind → Kinds → Type 0
IsPlaced kind.Points before = Unit {0}
IsPlaced kind.Frames before = before.points ≡ true
IsPlaced kind.Certificate before = Unit {0}

abbrev pub AreInOrder : Kinds → List Input → Type 0
AreInOrder before [] = Unit {0}
AreInOrder before (i ∷ is) = IsPlaced i.kind before × AreInOrder (with_kind i.kind before) is
