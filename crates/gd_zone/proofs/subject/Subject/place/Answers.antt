use Rattle.std.proofs.Common.{subst, sym}
use Rattle.gd_base.specs.Limits.{COORDINATE}
use Rattle.gd_vec.specs.Vector.{IsWithin}
use Rattle.gd_zone.proofs.subject.Subject.place.Goals as goal

pub returns-clause-x : goal.returns-clause-x
returns-clause-x c = (subst (IsWithin COORDINATE) (sym c.read.ensures.value) c.read.ensures.size).x

pub returns-clause-y : goal.returns-clause-y
returns-clause-y c = (subst (IsWithin COORDINATE) (sym c.read.ensures.value) c.read.ensures.size).y

pub returns-clause-z : goal.returns-clause-z
returns-clause-z c = (subst (IsWithin COORDINATE) (sym c.read.ensures.value) c.read.ensures.size).z
