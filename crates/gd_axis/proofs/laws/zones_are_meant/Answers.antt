use Rattle.gd_axis.proofs.Near.{cylinder-is-near}
use Rattle.gd_axis.proofs.Radius.{ring-has-radius}
use Rattle.gd_axis.proofs.laws.zones_are_meant.Goals as goal

pub returns : goal.returns
returns c = record { cylinder = cylinder-is-near; radius = ring-has-radius }
