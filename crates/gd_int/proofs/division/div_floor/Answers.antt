use Rattle.std.proofs.Common.{rules}
use Rattle.gd_int.proofs.Divisions.{floor-below, floor-next}
use Rattle.gd_int.proofs.division.div_floor.Goals as goal

pub returns-clause-value : goal.returns-clause-value
returns-clause-value c = search rules

pub returns-clause-below : goal.returns-clause-below
returns-clause-below c = rw (returns-clause-value c) (floor-below c.args.a c.args.b c.requires)

pub returns-clause-next : goal.returns-clause-next
returns-clause-next c = rw (returns-clause-value c) (floor-next c.args.a c.args.b c.requires)
