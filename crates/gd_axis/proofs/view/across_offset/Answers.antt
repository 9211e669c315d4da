use Rattle.gd_axis.proofs.Moves.{across-moves}
use Rattle.gd_axis.specs.Shorts.{short_vector}
use Rattle.gd_axis.proofs.view.across_offset.Goals as goal

pub returns-clause-ends : goal.returns-clause-ends
returns-clause-ends c =
    across-moves c.args.b.now c.args.own.now c.args.at.now c.from_own.result (short_vector c.args.moves.now) (short_vector c.across_moved.result) c.requires.single
    c.from_own.ensures.x c.from_own.ensures.y c.from_own.ensures.z c.across_moved.ensures.x c.across_moved.ensures.y c.across_moved.ensures.z
