use Rattle.gd_points.proofs.table.PointTable.features.Goals as goal

pub returns-clause-used : goal.returns-clause-used
returns-clause-used c = rw (← c.self.view_is) c.self.invariant.table.used
