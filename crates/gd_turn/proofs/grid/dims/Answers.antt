use Rattle.std.proofs.Common.{◌∙◌, sym}
use Rattle.gd_turn.proofs.Coordinates.{length_of}
use Rattle.gd_turn.proofs.grid.dims.Goals as goal

pub returns-clause-value : goal.returns-clause-value
returns-clause-value c = c.count.ensures ∙ sym (length_of c.args.r.now)
