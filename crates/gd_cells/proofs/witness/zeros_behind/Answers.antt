use Rattle.std.proofs.Common.{ap, ◌∙◌, drop, pos}
use Rattle.std.proofs.lemmas.List.{drop-replicate}
use Rattle.std.specs.Cmp.Lexicographic.{pointwise}
use Rattle.std.specs.Ordering.{int_eq}
use Rattle.gd_cells.specs.Grid.{MOST_DIMS}
use Rattle.gd_cells.proofs.witness.zeros_behind.Goals as goal

pub returns : goal.returns
returns c =
    c.eq.ensures
    ∙ ap (λ xs. pointwise int_eq xs c.split_at-2.result.1.now) c.split_at.ensures.back
    ∙ ap (pointwise int_eq (drop c.args.numbers c.args.witness.now.at)) (c.split_at-2.ensures.back ∙ drop-replicate c.args.numbers MOST_DIMS (pos 0))
