-- The rules of a certificate's lines.
use Rattle.std.specs.Prelude.{ℕ}
use Rattle.gd_cert.specs.declared.rule.Rule.{Rule}
use Rattle.gd_cert.specs.declared.rule.Rule.TheVariants as rule

-- the number that is printed for a broken rule
abbrev pub code_of : Rule → ℕ
code_of rule.Title = 40
code_of rule.Head = 41
code_of rule.Expected = 42
code_of rule.Number = 43
code_of rule.Words = 44
code_of rule.Cut = 45
code_of rule.Behind = 46
