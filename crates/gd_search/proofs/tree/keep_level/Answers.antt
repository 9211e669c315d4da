use Rattle.std.proofs.Common.{◌++◌, ◌∷◌, [], refl, ap, ◌∙◌}
use Rattle.gd_search.specs.Lines.{left_of}
use Rattle.gd_search.proofs.Writing.{left_more}
use Rattle.gd_search.proofs.tree.keep_level.Goals as goal

pub returns-clause-kept : goal.returns-clause-kept
returns-clause-kept c =
    ap left_of c.in_ok-push.ensures.items
    ∙ left_more c.args.levels.now.items _ refl
    ∙ ap (λ xs. left_of c.args.levels.now.items ++ xs ∷ []) c.in_ok-found.ensures
