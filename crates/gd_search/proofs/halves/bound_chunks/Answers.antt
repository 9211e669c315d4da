use Rattle.std.proofs.Common.{arith, map}
use Rattle.std.proofs.lemmas.Grind.{common_steps}
use Rattle.std.proofs.lemmas.List.{same_lists}
use Rattle.gd_search.specs.Rows.{judged}
use Rattle.gd_search.proofs.halves.bound_chunks.Goals as goal

pub returns : goal.returns
returns g c =
    same_lists c.for_each_chunk_mut.new.s (map (judged (g.T.Task.questions c.args.task.now)) c.args.rows.now) (grind (arith, common_steps))
    (λ k d h. let e = (c.for_each_chunk_mut.ensures.by_index k d (omega arith)).1 in grind (arith, common_steps))
