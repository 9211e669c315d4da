use Rattle.std.proofs.Common.{inl, inr, rules}
use Rattle.gd_cert.proofs.Alike.{words_end}
use Rattle.gd_cert.proofs.word.split_words.Goals as goal
use Rattle.gd_cert.proofs.word.split_words.Goals.{else-loop-rest-test, then-loop-rest-test+in_default}

pub returns : goal.returns
returns c =
    rw c.in_ok-push-2.ensures.items (
    words_end c.loop-rest.words.items c.loop-rest.rest c.args.line.now c.loop-rest.invariant (elim c.loop-rest-test.branch [
      | else-loop-rest-test w ↦ inl (search rules)
      | then-loop-rest-test+in_default w ↦ inr (search rules)
    ])
    )
