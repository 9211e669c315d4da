use Rattle.std.proofs.Common.{arith, ◌∙◌, sym, ◌≤◌}
use Rattle.gd_turn.proofs.Coordinates.{default_is}
use Rattle.gd_turn.proofs.boxes.coordinate.Goals as goal

pub returns-in_default : goal.returns-in_default
returns-in_default c =
    let some : 6 ≤ c.args.number = omega arith in
    c.length_about-in_default.ensures ∙ sym (default_is c.args.r.now c.args.number some c.requires.number)
