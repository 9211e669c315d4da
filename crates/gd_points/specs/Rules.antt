-- The faults of a points file.
use Rattle.std.specs.Prelude.{ℕ}
use Rattle.gd_base.specs.declared.fault.InputFault.{InputFault}
use Rattle.gd_points.specs.declared.rule.Rule.{Rule}
use Rattle.gd_points.specs.declared.rule.Rule.TheVariants as rule

-- the number that is printed for a broken rule
abbrev pub code_of : Rule → ℕ
code_of rule.Header = 10
code_of rule.Fields = 11
code_of rule.Name = 12
code_of rule.Number = 13
code_of rule.Range = 14
code_of rule.TooManyPoints = 15
code_of rule.NoPoints = 16
code_of rule.TooLong = 17

-- a rule is broken in a row, counted from 1, and in a column from 1, or 0 for the whole row; row 0 is the whole file
abbrev pub fault : Rule → ℕ → ℕ → InputFault
fault broken row column = record { code = code_of broken; row = row; column = column }
