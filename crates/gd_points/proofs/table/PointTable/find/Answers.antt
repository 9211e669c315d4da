use Rattle.gd_points.proofs.table.PointTable.find.Goals as goal

pub returns-clause-used : goal.returns-clause-used
returns-clause-used c = rw (← c.self.view_is) (c.self.invariant.table.used c.in_ok-place.place c.in_ok-place.ensures.within)
