-- What the fields that the reader takes from a record stand for. Its private functions alone cite it.
use Rattle.gd_points.specs.Points.{Five, Point}
use Rattle.gd_points.specs.Named.{name_in}
use Rattle.gd_points.specs.Table.{Table}
use Rattle.gd_points.specs.declared.read.Fields.{Fields}
use Rattle.gd_points.specs.declared.read.PointRead.{PointRead}

abbrev pub seen : Fields → Five
seen f = record { name = f.name.now; group = f.group.now; x = f.x.now; y = f.y.now; z = f.z.now }

abbrev pub shown : Table → PointRead → Point
shown t p = record { name = name_in t.names p.name; group = p.group; at = p.at }
