use Rattle.std.proofs.Common.{◌≡◌, ◌++◌, length}
use Rattle.gd_cert.specs.Drafts.{texts}
use Rattle.gd_cert.specs.Words.{words_of}
use Rattle.gd_cert.proofs.word.split_words.Given as goal

abbrev pub invariant-loop-rest : goal.invariant-loop-rest
invariant-loop-rest l = texts l.words.items ++ words_of l.rest ≡ words_of l.line

abbrev pub decreases-loop-rest : goal.decreases-loop-rest
decreases-loop-rest l = length l.rest
