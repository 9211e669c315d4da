use Rattle.std.proofs.Common.{◌≡◌, ◌++◌, drop}
use Rattle.std.specs.Prelude.{option_map}
use Rattle.gd_cert.specs.Drafts.{texts}
use Rattle.gd_cert.specs.Words.{signed_numbers}
use Rattle.gd_cert.proofs.number.read_signed_all.Given as goal

abbrev pub invariant-loop-word : goal.invariant-loop-word
invariant-loop-word l = option_map (λ xs. l.numbers.items ++ xs) (signed_numbers (texts (drop l.word-index l.words))) ≡ signed_numbers (texts l.words)
