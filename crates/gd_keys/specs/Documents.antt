-- The document that bytes are.
use Rattle.std.specs.Prelude.{ℕ, List, None, Result, if◌then◌else◌}
use Rattle.std.specs.Str.{is_utf8}
use Rattle.toml.specs.Data.{Members}
use Rattle.toml.specs.Parse.{parse_document}
use Rattle.gd_keys.specs.Rules.{or_broken}
use Rattle.gd_keys.specs.declared.rule.Rule.{Rule}
use Rattle.gd_keys.specs.declared.rule.Rule.TheVariants as rule

-- the table of a TOML document in UTF-8
abbrev pub document : List ℕ → Result Members Rule
document bytes = or_broken (if is_utf8 bytes then parse_document bytes else None) rule.Document
