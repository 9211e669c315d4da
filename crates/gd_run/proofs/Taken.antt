-- What is so of an input that was read, or refused.
use Rattle.std.proofs.Common.{arith, ◌≡◌, ap, sym, refl, subst, ℕ, ◌<◌, inl, inr, true, List, Option, Some, None, Result, Ok, Err, length}
use Rattle.std.proofs.lemmas.Bool.Decides.{nat_tests}
use Rattle.std.specs.Prelude.{IfOk, IsOkAnd, IsSomeAnd}
use Rattle.std.specs.declared.alloc.AllocError.{AllocError}
use Rattle.gd_base.specs.Limits.{FILE_BYTES}
use Rattle.gd_base.specs.declared.fault.InputFault.{InputFault}
use Rattle.gd_cert.specs.Certificates.{Certificate}
use Rattle.gd_cert.specs.declared.fault.CertFault.{CertFault}
use Rattle.gd_points.specs.Table.{Table}
use Rattle.gd_report.specs.Said.{Said, invalid, refused, said_in}
use Rattle.gd_report.specs.declared.line.Line.{Line}
use Rattle.gd_run.specs.Inputs.{Given, IsPlaced, IsRefusal, certificate_file, frames_beside, frames_file, is_long, kinds_of, points_file, said_of_long, with_bytes, with_certificate, with_frames, with_kind, with_points}
use Rattle.gd_run.specs.Inputs as meant
use Rattle.gd_run.specs.Reports.{OnInputs}
use Rattle.gd_run.specs.Views.{given_of}
use Rattle.gd_run.specs.declared.inputs.InputKind.{InputKind}
use Rattle.gd_run.specs.declared.inputs.InputKind.TheVariants as kind
use Rattle.gd_run.specs.declared.inputs.Inputs.{Inputs}
use Rattle.gd_run.specs.declared.report.Refusal.{Refusal}
use Rattle.gd_run.specs.declared.report.Refusal.TheVariants as refusal
use Rattle.gd_tables.specs.Kinds.{File}

-- ---- which inputs are there then
points_kinds : (g h : Given) (word : List ℕ) (file : Result Table InputFault) → with_points g word file ≡ Ok h → kinds_of h ≡ with_kind kind.Points (kinds_of g)
points_kinds g h word (Ok table) is = let same : record { table = Some table; frames = None; certificate = g.certificate } ≡ h = cc in ap kinds_of (sym same)
points_kinds g h word (Err f) is = cc

frames_kinds : (g h : Given) (word : List ℕ) (file : Result File InputFault) → with_frames g word file ≡ Ok h → kinds_of h ≡ with_kind kind.Frames (kinds_of g)
frames_kinds g h word (Ok file) is = let same : record { table = g.table; frames = Some file; certificate = g.certificate } ≡ h = cc in ap kinds_of (sym same)
frames_kinds g h word (Err f) is = cc

beside_kinds : (g h : Given) (word bytes : List ℕ) (table : Option Table) → g.table ≡ table → (kinds_of g).points ≡ true → frames_beside g word bytes table ≡ Ok h → kinds_of h ≡ with_kind kind.Frames (kinds_of g)
beside_kinds g h word bytes (Some table) at placed is = frames_kinds g h word (frames_file table bytes) is
beside_kinds g h word bytes None at placed is = cc

certificate_kinds : (g h : Given) (file : Result Certificate CertFault) → with_certificate g file ≡ Ok h → kinds_of h ≡ with_kind kind.Certificate (kinds_of g)
certificate_kinds g h (Ok c) is = let same : record { table = g.table; frames = g.frames; certificate = Some c } ≡ h = cc in ap kinds_of (sym same)
certificate_kinds g h (Err f) is = cc

taken_kinds : (k : InputKind) (g h : Given) (word bytes : List ℕ) → IsPlaced k (kinds_of g) → with_bytes k g word bytes ≡ Ok h → kinds_of h ≡ with_kind k (kinds_of g)
taken_kinds kind.Points g h word bytes placed is = points_kinds g h word (points_file bytes) is
taken_kinds kind.Frames g h word bytes placed is = beside_kinds g h word bytes g.table refl placed is
taken_kinds kind.Certificate g h word bytes placed is = certificate_kinds g h (certificate_file bytes) is

-- ---- what is said of a fault is a refusal
points_refusal : (g : Given) (word : List ℕ) (file : Result Table InputFault) (said : Said) → with_points g word file ≡ Err said → IsRefusal said
points_refusal g word (Ok table) said is = cc
points_refusal g word (Err f) said is = let same : refused word f ≡ said = cc in subst IsRefusal same (inl refl)

frames_refusal : (g : Given) (word : List ℕ) (file : Result File InputFault) (said : Said) → with_frames g word file ≡ Err said → IsRefusal said
frames_refusal g word (Ok file) said is = cc
frames_refusal g word (Err f) said is = let same : refused word f ≡ said = cc in subst IsRefusal same (inl refl)

beside_refusal : (g : Given) (word bytes : List ℕ) (table : Option Table) (said : Said) → frames_beside g word bytes table ≡ Err said → IsRefusal said
beside_refusal g word bytes (Some table) said is = frames_refusal g word (frames_file table bytes) said is
beside_refusal g word bytes None said is = cc

certificate_refusal : (g : Given) (file : Result Certificate CertFault) (said : Said) → with_certificate g file ≡ Err said → IsRefusal said
certificate_refusal g (Ok c) said is = cc
certificate_refusal g (Err f) said is = let same : invalid f.line f.code ≡ said = cc in subst IsRefusal same (inr refl)

taken_refusal : (k : InputKind) (g : Given) (word bytes : List ℕ) (said : Said) → with_bytes k g word bytes ≡ Err said → IsRefusal said
taken_refusal kind.Points g word bytes said is = points_refusal g word (points_file bytes) said is
taken_refusal kind.Frames g word bytes said is = beside_refusal g word bytes g.table said is
taken_refusal kind.Certificate g word bytes said is = certificate_refusal g (certificate_file bytes) said is

pub taken : (k : InputKind) (g : Given) (word bytes other : List ℕ) → IsPlaced k (kinds_of g) → (r : Result Inputs Refusal)
    → OnInputs (λ i. with_bytes k g word bytes ≡ Ok (given_of i)) (λ said. with_bytes k g word bytes ≡ Err said) (λ w. ⊥) r
    → OnInputs (λ i. kinds_of (given_of i) ≡ with_kind k (kinds_of g)) IsRefusal (λ w. w ≡ other) r
taken k g word bytes other placed (Ok i) read = taken_kinds k g (given_of i) word bytes placed read
taken k g word bytes other placed (Err (refusal.Refused line)) read = taken_refusal k g word bytes (said_in line) read
taken k g word bytes other placed (Err (refusal.Unread w)) read = absurd read
taken k g word bytes other placed (Err refusal.Memory) read = tt

-- ---- an input that is too long
long_file : (bytes : List ℕ) → FILE_BYTES < length bytes → is_long bytes ≡ true
long_file bytes long = grind (arith, nat_tests)

long_beside : (g : Given) (word bytes : List ℕ) (table : Option Table) → g.table ≡ table → (kinds_of g).points ≡ true → is_long bytes ≡ true → frames_beside g word bytes table ≡ Err (said_of_long kind.Frames word)
long_beside g word bytes (Some table) at placed long = rw long refl
long_beside g word bytes None at placed long = cc

long_taken : (k : InputKind) (g : Given) (word bytes : List ℕ) → IsPlaced k (kinds_of g) → is_long bytes ≡ true → with_bytes k g word bytes ≡ Err (said_of_long k word)
long_taken kind.Points g word bytes placed long = rw long refl
long_taken kind.Frames g word bytes placed long = long_beside g word bytes g.table refl placed long
long_taken kind.Certificate g word bytes placed long = rw long refl

abbrev LongRead : Given → meant.Input → Option (List ℕ) → Result Given Said → Type 0
LongRead g i held read = IsSomeAnd held (λ bytes. with_bytes i.kind g i.word bytes ≡ read)

long_held : (g : Given) (i : meant.Input) (held : Option (List ℕ)) → IsPlaced i.kind (kinds_of g) → IsSomeAnd held (λ bytes. FILE_BYTES < length bytes) → LongRead g i held (Err (said_of_long i.kind i.word))
long_held g i None placed long = absurd long
long_held g i (Some bytes) placed long = long_taken i.kind g i.word bytes placed (long_file bytes long)

line_said : (line : Result Line AllocError) (said told_of : Said) → IfOk line (λ l. said_in l ≡ told_of) → IsOkAnd line (λ l. said_in l ≡ said) → told_of ≡ said
line_said (Ok line) said told_of is told = cc
line_said (Err e) said told_of is told = absurd told

pub long_read : (g : Given) (i : meant.Input) (held : Option (List ℕ)) → IsPlaced i.kind (kinds_of g) → IsSomeAnd held (λ bytes. FILE_BYTES < length bytes) → (line : Result Line AllocError) → IfOk line (λ l. said_in l ≡ said_of_long i.kind i.word) → (r : Result Inputs Refusal)
    → OnInputs (λ j. ⊥) (λ said. IsOkAnd line (λ l. said_in l ≡ said)) (λ w. ⊥) r
    → OnInputs (λ j. LongRead g i held (Ok (given_of j))) (λ said. LongRead g i held (Err said)) (λ w. Unit {0}) r
long_read g i held placed long line says (Ok j) told = absurd told
long_read g i held placed long line says (Err (refusal.Refused l)) told = subst (λ said. LongRead g i held (Err said)) (line_said line (said_in l) (said_of_long i.kind i.word) says told) (long_held g i held placed long)
long_read g i held placed long line says (Err (refusal.Unread w)) told = absurd told
long_read g i held placed long line says (Err refusal.Memory) told = tt
