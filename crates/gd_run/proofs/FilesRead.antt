-- What the files of a command were read as.
use Rattle.std.proofs.Common.{arith, ◌≡◌, refl, ℕ, ◌≤◌, ◌<◌, Bool, true, false, cond, List, Option, Some, None, Result, Ok, Err, length}
use Rattle.std.proofs.lemmas.Bool.Decides.{nat_tests}
use Rattle.std.specs.Prelude.{IsSomeAnd, option_and_then}
use Rattle.gd_base.specs.Limits.{FILE_BYTES, POINTS}
use Rattle.gd_base.specs.declared.fault.InputFault.{InputFault}
use Rattle.gd_cert.specs.Certificates.{Certificate}
use Rattle.gd_cert.specs.Reading.{reading}
use Rattle.gd_cert.specs.declared.fault.CertFault.{CertFault}
use Rattle.gd_points.proofs.Tables.{table_has_few, table_has_row}
use Rattle.gd_points.specs.Points.{points}
use Rattle.gd_points.specs.Table.{Table}
use Rattle.gd_report.specs.Said.{Said, invalid, refused}
use Rattle.gd_run.specs.Answers.{Answer, only_said}
use Rattle.gd_run.specs.Asks.{ForCheck, ForCheckFlat, ForFlat, ForJudge}
use Rattle.gd_run.specs.CheckCommand.{Check, IsCheckAnswer}
use Rattle.gd_run.specs.CheckFlatCommand.{CheckFlat, IsCheckFlatAnswer}
use Rattle.gd_run.specs.Claims.{HasFrames, HasTable}
use Rattle.gd_run.specs.FlatCommand.{Flat, IsFlatAnswer}
use Rattle.gd_run.specs.Inputs.{Given, and_reads, certificate_file, frames_beside, frames_file, is_long, nothing_given, points_file, with_certificate, with_frames, with_points}
use Rattle.gd_run.specs.JudgeCommand.{IsJudgeAnswer, Judge}
use Rattle.gd_run.specs.Runs.{IsAnswerFrom, IsAnswerTo}
use Rattle.gd_tables.specs.Kinds.{File}
use Rattle.gd_world.specs.Shelf.{Files}

-- ---- files of a length
pub short_file : (bytes : List ℕ) → length bytes ≤ FILE_BYTES → is_long bytes ≡ false
short_file bytes short = grind (arith, nat_tests)

not_long : (bytes : List ℕ) → is_long bytes ≡ false → length bytes ≤ FILE_BYTES
not_long bytes h = grind (arith, nat_tests)

-- a file that gave a value is no longer than a file may be, and the value was read of its bytes
short_value : {X F : Type 0} (long : Bool) (fault : F) (read : Result X F) (x : X) → cond long (Err fault) read ≡ Ok x → (long ≡ false) × (read ≡ Ok x)
short_value true fault read x h = cc
short_value false fault read x h = (refl, h)

table_read : (bytes : List ℕ) (table : Table) → points_file bytes ≡ Ok table → points bytes ≡ Ok table
table_read bytes table read = (short_value (is_long bytes) (record { code = 17; row = 0; column = 0 }) (points bytes) table read).1

pub some_of : {files : Files} {name : List ℕ} (input : HasTable files name) → 0 < length input.table.rows
some_of input = table_has_row input.bytes input.table (table_read input.bytes input.table input.read)

pub few_of : {files : Files} {name : List ℕ} (input : HasTable files name) → length input.table.rows ≤ POINTS
few_of input = table_has_few input.bytes input.table (table_read input.bytes input.table input.read)

pub record CertificateRead (bytes : List ℕ) (c : Certificate) : Type 0 where
  pub short : length bytes ≤ FILE_BYTES
  pub read : reading bytes ≡ Ok c

pub certificate_read : (bytes : List ℕ) (c : Certificate) → certificate_file bytes ≡ Ok c → CertificateRead bytes c
certificate_read bytes c read =
    let v = short_value (is_long bytes) (record { line = 0; code = 46 }) (reading bytes) c read in record { short = not_long bytes v.0; read = v.1 }

-- ---- one file after another
abbrev Rest : Type 0
Rest = Given → Option (Result Given Said)

abbrev given_table : Table → Given
given_table table = record { table = Some table; frames = None; certificate = None }

abbrev given_file : Table → File → Given
given_file table file = record { table = Some table; frames = Some file; certificate = None }

-- the points were read, or refused
data Points (files : Files) (word : List ℕ) (rest : Rest) (Q : Result Given Said → Type 0) : Type 0 where
  PointsRead : (input : HasTable files word) → IsSomeAnd (rest (given_table input.table)) Q → Points files word rest Q
  PointsRefused : (f : InputFault) → Q (Err (refused word f)) → Points files word rest Q

points_of_file : (files : Files) (word bytes : List ℕ) (rest : Rest) (Q : Result Given Said → Type 0) → files word ≡ Some bytes → (file : Result Table InputFault) → points_file bytes ≡ file
    → IsSomeAnd (and_reads (with_points nothing_given word file) rest) Q → Points files word rest Q
points_of_file files word bytes rest Q held (Ok table) read is = PointsRead (record { bytes = bytes; held = held; table = table; read = read }) is
points_of_file files word bytes rest Q held (Err f) read is = PointsRefused f is

points_of_held : (files : Files) (word : List ℕ) (rest : Rest) (Q : Result Given Said → Type 0) (held : Option (List ℕ)) → files word ≡ held
    → IsSomeAnd (option_and_then (λ bytes. and_reads (with_points nothing_given word (points_file bytes)) rest) held) Q → Points files word rest Q
points_of_held files word rest Q None held is = absurd is
points_of_held files word rest Q (Some bytes) held is = points_of_file files word bytes rest Q held (points_file bytes) refl is

-- the frames were read beside a table, or refused
data Frames (files : Files) (table : Table) (word : List ℕ) (rest : Rest) (Q : Result Given Said → Type 0) : Type 0 where
  FramesRead : (frames : HasFrames files table word) → IsSomeAnd (rest (given_file table frames.file)) Q → Frames files table word rest Q
  FramesRefused : (f : InputFault) → Q (Err (refused word f)) → Frames files table word rest Q

frames_of_file : (files : Files) (table : Table) (word bytes : List ℕ) (rest : Rest) (Q : Result Given Said → Type 0) → files word ≡ Some bytes → (file : Result File InputFault) → frames_file table bytes ≡ file
    → IsSomeAnd (and_reads (with_frames (given_table table) word file) rest) Q → Frames files table word rest Q
frames_of_file files table word bytes rest Q held (Ok file) read is = FramesRead (record { bytes = bytes; held = held; file = file; read = read }) is
frames_of_file files table word bytes rest Q held (Err f) read is = FramesRefused f is

frames_of_held : (files : Files) (table : Table) (word : List ℕ) (rest : Rest) (Q : Result Given Said → Type 0) (held : Option (List ℕ)) → files word ≡ held
    → IsSomeAnd (option_and_then (λ bytes. and_reads (with_frames (given_table table) word (frames_file table bytes)) rest) held) Q → Frames files table word rest Q
frames_of_held files table word rest Q None held is = absurd is
frames_of_held files table word rest Q (Some bytes) held is = frames_of_file files table word bytes rest Q held (frames_file table bytes) refl is

-- the certificate, which is read last, was read, or has a fault
data Last (files : Files) (g : Given) (word : List ℕ) (Q : Result Given Said → Type 0) : Type 0 where
  LastRead : (bytes : List ℕ) → files word ≡ Some bytes → (c : Certificate) → certificate_file bytes ≡ Ok c → Q (Ok (record { table = g.table; frames = g.frames; certificate = Some c })) → Last files g word Q
  LastFaulty : (bytes : List ℕ) → files word ≡ Some bytes → (f : CertFault) → certificate_file bytes ≡ Err f → Q (Err (invalid f.line f.code)) → Last files g word Q

last_of_file : (files : Files) (g : Given) (word bytes : List ℕ) (Q : Result Given Said → Type 0) → files word ≡ Some bytes → (file : Result Certificate CertFault) → certificate_file bytes ≡ file
    → IsSomeAnd (and_reads (with_certificate g file) (λ h. Some (Ok h))) Q → Last files g word Q
last_of_file files g word bytes Q held (Ok c) read is = LastRead bytes held c read is
last_of_file files g word bytes Q held (Err f) read is = LastFaulty bytes held f read is

last_of_held : (files : Files) (g : Given) (word : List ℕ) (Q : Result Given Said → Type 0) (held : Option (List ℕ)) → files word ≡ held
    → IsSomeAnd (option_and_then (λ bytes. and_reads (with_certificate g (certificate_file bytes)) (λ h. Some (Ok h))) held) Q → Last files g word Q
last_of_held files g word Q None held is = absurd is
last_of_held files g word Q (Some bytes) held is = last_of_file files g word bytes Q held (certificate_file bytes) refl is

-- ---- `flat` has a table, or was refused
pub data FlatRead (files : Files) (flat : Flat) (a : Answer) : Type 0 where
  Judged : (input : HasTable files flat.points) → IsFlatAnswer flat input.table a → FlatRead files flat a
  Refused : (f : InputFault) → a ≡ only_said (refused flat.points f) → FlatRead files flat a

flat_points : (files : Files) (flat : Flat) (a : Answer) → Points files flat.points (λ g. Some (Ok g)) (λ read. IsAnswerFrom (ForFlat flat) read a) → FlatRead files flat a
flat_points files flat a (PointsRead input is) = Judged input is
flat_points files flat a (PointsRefused f is) = Refused f is

pub flat_read : (files : Files) (flat : Flat) (a : Answer) → IsAnswerTo (ForFlat flat) files a → FlatRead files flat a
flat_read files flat a is = flat_points files flat a (points_of_held files flat.points (λ g. Some (Ok g)) (λ read. IsAnswerFrom (ForFlat flat) read a) (files flat.points) refl is)

-- ---- `checkflat` has a table and a certificate, or a table and the fault of a certificate, or was refused
pub data CheckFlatRead (files : Files) (check : CheckFlat) (a : Answer) : Type 0 where
  Decided : (input : HasTable files check.points) (bytes : List ℕ) → files check.certificate ≡ Some bytes → (c : Certificate) → certificate_file bytes ≡ Ok c → IsCheckFlatAnswer check input.table c a → CheckFlatRead files check a
  Unreadable : (input : HasTable files check.points) (bytes : List ℕ) → files check.certificate ≡ Some bytes → (f : CertFault) → certificate_file bytes ≡ Err f → a ≡ only_said (invalid f.line f.code) → CheckFlatRead files check a
  Unread : (f : InputFault) → a ≡ only_said (refused check.points f) → CheckFlatRead files check a

abbrev rest_of : Files → List ℕ → Rest
rest_of files word g = option_and_then (λ bytes. and_reads (with_certificate g (certificate_file bytes)) (λ h. Some (Ok h))) (files word)

check_flat_last : (files : Files) (check : CheckFlat) (input : HasTable files check.points) (a : Answer) → Last files (given_table input.table) check.certificate (λ read. IsAnswerFrom (ForCheckFlat check) read a) → CheckFlatRead files check a
check_flat_last files check input a (LastRead bytes held c read is) = Decided input bytes held c read is
check_flat_last files check input a (LastFaulty bytes held f read is) = Unreadable input bytes held f read is

check_flat_points : (files : Files) (check : CheckFlat) (a : Answer) → Points files check.points (rest_of files check.certificate) (λ read. IsAnswerFrom (ForCheckFlat check) read a) → CheckFlatRead files check a
check_flat_points files check a (PointsRead input is) = check_flat_last files check input a (last_of_held files (given_table input.table) check.certificate (λ read. IsAnswerFrom (ForCheckFlat check) read a) (files check.certificate) refl is)
check_flat_points files check a (PointsRefused f is) = Unread f is

pub check_flat_read : (files : Files) (check : CheckFlat) (a : Answer) → IsAnswerTo (ForCheckFlat check) files a → CheckFlatRead files check a
check_flat_read files check a is = check_flat_points files check a (points_of_held files check.points (rest_of files check.certificate) (λ read. IsAnswerFrom (ForCheckFlat check) read a) (files check.points) refl is)

-- ---- `judge` has a table and a frame file beside it, or was refused
pub data JudgeRead (files : Files) (judge : Judge) (a : Answer) : Type 0 where
  JudgeReported : (input : HasTable files judge.points) (frames : HasFrames files input.table judge.frames) → IsJudgeAnswer judge input.table frames.file a → JudgeRead files judge a
  JudgeRefused : (word : List ℕ) (f : InputFault) → a ≡ only_said (refused word f) → JudgeRead files judge a

abbrev frames_rest : Files → List ℕ → Rest → Given → Option (Result Given Said)
frames_rest files word rest g = option_and_then (λ bytes. and_reads (frames_beside g word bytes g.table) rest) (files word)

judge_frames : (files : Files) (judge : Judge) (input : HasTable files judge.points) (a : Answer) → Frames files input.table judge.frames (λ g. Some (Ok g)) (λ read. IsAnswerFrom (ForJudge judge) read a) → JudgeRead files judge a
judge_frames files judge input a (FramesRead frames is) = JudgeReported input frames is
judge_frames files judge input a (FramesRefused f is) = JudgeRefused judge.frames f is

judge_points : (files : Files) (judge : Judge) (a : Answer) → Points files judge.points (frames_rest files judge.frames (λ g. Some (Ok g))) (λ read. IsAnswerFrom (ForJudge judge) read a) → JudgeRead files judge a
judge_points files judge a (PointsRead input is) = judge_frames files judge input a (frames_of_held files input.table judge.frames (λ g. Some (Ok g)) (λ read. IsAnswerFrom (ForJudge judge) read a) (files judge.frames) refl is)
judge_points files judge a (PointsRefused f is) = JudgeRefused judge.points f is

pub judge_read : (files : Files) (judge : Judge) (a : Answer) → IsAnswerTo (ForJudge judge) files a → JudgeRead files judge a
judge_read files judge a is = judge_points files judge a (points_of_held files judge.points (frames_rest files judge.frames (λ g. Some (Ok g))) (λ read. IsAnswerFrom (ForJudge judge) read a) (files judge.points) refl is)

-- ---- `check` has both and a certificate, or both and the fault of a certificate, or was refused
pub data CheckRead (files : Files) (check : Check) (a : Answer) : Type 0 where
  CheckDecided : (input : HasTable files check.points) (frames : HasFrames files input.table check.frames) (bytes : List ℕ) → files check.certificate ≡ Some bytes → (c : Certificate) → certificate_file bytes ≡ Ok c → IsCheckAnswer input.table frames.file c a → CheckRead files check a
  CheckUnreadable : (input : HasTable files check.points) (frames : HasFrames files input.table check.frames) (bytes : List ℕ) → files check.certificate ≡ Some bytes → (f : CertFault) → certificate_file bytes ≡ Err f → a ≡ only_said (invalid f.line f.code) → CheckRead files check a
  CheckRefused : (word : List ℕ) (f : InputFault) → a ≡ only_said (refused word f) → CheckRead files check a

check_last : (files : Files) (check : Check) (input : HasTable files check.points) (frames : HasFrames files input.table check.frames) (a : Answer) → Last files (given_file input.table frames.file) check.certificate (λ read. IsAnswerFrom (ForCheck check) read a) → CheckRead files check a
check_last files check input frames a (LastRead bytes held c read is) = CheckDecided input frames bytes held c read is
check_last files check input frames a (LastFaulty bytes held f read is) = CheckUnreadable input frames bytes held f read is

check_frames : (files : Files) (check : Check) (input : HasTable files check.points) (a : Answer) → Frames files input.table check.frames (rest_of files check.certificate) (λ read. IsAnswerFrom (ForCheck check) read a) → CheckRead files check a
check_frames files check input a (FramesRead frames is) = check_last files check input frames a (last_of_held files (given_file input.table frames.file) check.certificate (λ read. IsAnswerFrom (ForCheck check) read a) (files check.certificate) refl is)
check_frames files check input a (FramesRefused f is) = CheckRefused check.frames f is

check_points : (files : Files) (check : Check) (a : Answer) → Points files check.points (frames_rest files check.frames (rest_of files check.certificate)) (λ read. IsAnswerFrom (ForCheck check) read a) → CheckRead files check a
check_points files check a (PointsRead input is) = check_frames files check input a (frames_of_held files input.table check.frames (rest_of files check.certificate) (λ read. IsAnswerFrom (ForCheck check) read a) (files check.frames) refl is)
check_points files check a (PointsRefused f is) = CheckRefused check.points f is

pub check_read : (files : Files) (check : Check) (a : Answer) → IsAnswerTo (ForCheck check) files a → CheckRead files check a
check_read files check a is = check_points files check a (points_of_held files check.points (frames_rest files check.frames (rest_of files check.certificate)) (λ read. IsAnswerFrom (ForCheck check) read a) (files check.points) refl is)
