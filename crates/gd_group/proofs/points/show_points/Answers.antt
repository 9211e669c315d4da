use Rattle.std.proofs.Common.{length, subst}
use Rattle.gd_points.specs.Table.{HasRows, Table}
use Rattle.gd_group.proofs.points.show_points.Goals as goal

pub returns-clause-used : goal.returns-clause-used
returns-clause-used c = subst (λ (t : Table). HasRows t.rows (length t.names)) c.table-table.ensures c.features.ensures.used
