-- The rules of a right certificate by the codes that are printed, and the fault of a line that breaks one.
use Rattle.std.specs.Prelude.{ℕ}
use Rattle.gd_cert.specs.Reading.{fault}
use Rattle.gd_cert.specs.declared.fault.CertFault.{CertFault}
use Rattle.gd_check.specs.declared.rule.Rule.{Rule}
use Rattle.gd_check.specs.declared.rule.Rule.TheVariants as rule

-- the number that is printed for a broken rule
abbrev pub code_of : Rule → ℕ
code_of rule.Evidence = 50
code_of rule.Witness = 51
code_of rule.Place = 52
code_of rule.NoLine = 53
code_of rule.NoCell = 54
code_of rule.Head = 55
code_of rule.Groups = 55
code_of rule.Open = 56
code_of rule.FinestLevel = 57

-- the fault of a line that breaks a rule
abbrev pub broken : Rule → ℕ → CertFault
broken r line = fault line (code_of r)
