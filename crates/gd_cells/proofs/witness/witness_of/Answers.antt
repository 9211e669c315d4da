use Rattle.std.proofs.Common.{ap, ◌∙◌, ◌-◌, ◌++◌, length, replicate, pos}
use Rattle.std.proofs.lemmas.List.{drop-replicate}
use Rattle.gd_cells.specs.Grid.{MOST_DIMS}
use Rattle.gd_cells.proofs.witness.witness_of.Goals as goal

pub returns : goal.returns
returns c =
    ap (λ at. record { root = c.args.root; at = c.copy_from_slice.new.self ++ at }) (drop-replicate (length c.args.numbers.now) MOST_DIMS (pos 0))
    ∙ ap (λ at. record { root = c.args.root; at = at ++ replicate (MOST_DIMS - length c.args.numbers.now) (pos 0) }) c.copy_from_slice.ensures.after
