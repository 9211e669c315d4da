-- The rules of a frame file, and what a reader answers by them.
use Rattle.std.specs.Prelude.{ℕ, Option, Some, None, Result, Ok, Err}
use Rattle.gd_base.specs.declared.fault.InputFault.{InputFault}
use Rattle.gd_keys.specs.declared.rule.KeyFault.{KeyFault}
use Rattle.gd_keys.specs.declared.rule.KeyFault.TheVariants as key_fault
use Rattle.gd_keys.specs.declared.rule.Rule.{Rule}
use Rattle.gd_keys.specs.declared.rule.Rule.TheVariants as rule

-- the number that is printed for a broken rule
abbrev pub code_of : Rule → ℕ
code_of rule.Document = 20
code_of rule.Version = 21
code_of rule.Listed = 22
code_of rule.Needed = 23
code_of rule.Kind = 24
code_of rule.Range = 25
code_of rule.Feature = 26
code_of rule.Datum = 27
code_of rule.Once = 28
code_of rule.Contacts = 29
code_of rule.Direction = 30
code_of rule.Combination = 31
code_of rule.Offsets = 32
code_of rule.Conditions = 34

-- a rule is broken in a table: the row counts the tables of its list, and the column is that of the list
abbrev pub fault : Rule → ℕ → ℕ → InputFault
fault broken row column = record { code = code_of broken; row = row; column = column }

-- what was read, or the rule that is broken first
abbrev pub Reading : Type 0 → Type 0
Reading A = Result A Rule

-- what was read goes on, and a broken rule or a fault stays
infixl 10 ◌>>=◌
abbrev pub ◌>>=◌ : {A B E : Type 0} → Result A E → (A → Result B E) → Result B E
(Ok x) >>= next = next x
(Err e) >>= next = Err e

-- what an option has, or else a broken rule
abbrev pub or_broken : {A : Type 0} → Option A → Rule → Result A Rule
or_broken None broken = Err broken
or_broken (Some x) broken = Ok x

-- the cause of a refusal: the rule that is broken. Want of memory has none
abbrev pub key_cause : KeyFault → Option Rule
key_cause (key_fault.Rule broken) = Some broken
key_cause key_fault.Memory = None
