-- What `csv` has left of a file, between two records. Private functions of the reader alone cite it.
use Rattle.std.specs.Prelude.{ℕ, ◌+◌, ◌<◌, ◌≡◌, Bool, true, false, List, [], ◌∷◌, Option, Some, None, IsSome, Result}
use Rattle.std.specs.Prelude.{Ok, Err, length, ⊤}
use Rattle.std.specs.Borrow.{Bor}
use Rattle.csv.specs.Machine.{ends_at_end}
use Rattle.csv.specs.Reading.{Ready, default_config, reader_config, reader_state, reader_trim, records_from, source_of}
use Rattle.csv.specs.declared.parser.State.{State}
use Rattle.csv.specs.declared.reader.Reader.{Reader}
use Rattle.csv.specs.declared.reader.Trim.TheVariants as trim
use Rattle.gd_base.specs.declared.fault.ReadFault.{ReadFault}
use Rattle.gd_base.specs.declared.fault.ReadFault.TheVariants as read_fault
use Rattle.gd_points.specs.Points.{points_of, points_from}
use Rattle.gd_points.specs.Table.{empty_table}

-- a reader of records over bytes in memory
abbrev pub Source : Type 0
Source = Reader (Bor (List ℕ))

-- the bytes that are left
abbrev pub bytes_left : Source → Option (List ℕ)
bytes_left s = source_of (λ (b : Bor (List ℕ)). Some b.now) s

-- the reader stands between two records
pub record IsBetween (s : Source) : Type 0 where
  pub known : IsSome (bytes_left s)
  pub between : ends_at_end (reader_state s) ≡ false
  pub config : reader_config s ≡ default_config
  pub trim : reader_trim s ≡ trim.None
  pub ready : Ready s

abbrev pub rest : State → List ℕ → List (List (List ℕ))
rest s bytes = records_from default_config (length bytes + 1) s bytes

abbrev pub rest_of : State → Option (List ℕ) → List (List (List ℕ))
rest_of s None = []
rest_of s (Some bytes) = rest s bytes

-- the records that are left
abbrev pub records_left : Source → List (List (List ℕ))
records_left s = rest_of (reader_state s) (bytes_left s)

abbrev pub size_of_known : Option (List ℕ) → ℕ
size_of_known None = 0
size_of_known (Some bytes) = length bytes

-- how many bytes are left
abbrev pub size_left : Source → ℕ
size_left s = size_of_known (bytes_left s)

-- a record was taken and those after it are left, or there was none
abbrev pub TakesNext : Source → Source → List (List ℕ) → Result Bool ReadFault → Type 0
TakesNext old new fields (Ok true) =
    IsBetween new × (records_left old ≡ fields ∷ records_left new) × (size_left new < size_left old)
TakesNext old new fields (Ok false) = records_left old ≡ []
TakesNext old new fields (Err e) = e ≡ read_fault.Memory

-- the header was taken, or a fault of it is the fault of the file
abbrev pub TakesHeader : {T : Type 0} → Source → Source → Result T ReadFault → Type 0
TakesHeader old new (Ok x) = IsBetween new × (points_of (records_left old) ≡ points_from empty_table (records_left new))
TakesHeader old new (Err read_fault.Memory) = ⊤
TakesHeader old new (Err (read_fault.Input f)) = points_of (records_left old) ≡ Err f
