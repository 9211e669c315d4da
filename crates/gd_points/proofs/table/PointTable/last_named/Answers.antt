use Rattle.std.proofs.Common.{◌<◌, length, rules}
use Rattle.gd_points.proofs.Used.{name_at}
use Rattle.gd_points.proofs.Beside.{labels_below}
use Rattle.gd_points.proofs.table.PointTable.last_named.Goals as goal

pub name-known-requires : goal.name-known-requires
name-known-requires c =
    let below = labels_below (length c.self.inside.names.keys) c.self.inside.labels.items _ c.self.invariant.kept c.self.invariant.table.features in
    rw (← c.self.view_is) (search rules)

pub returns-then-eq-clause-name : goal.returns-then-eq-clause-name
returns-then-eq-clause-name c =
    let below = labels_below (length c.self.inside.names.keys) c.self.inside.labels.items _ c.self.invariant.kept c.self.invariant.table.features in
    let spelled = c.self.invariant.table.spelled in
    let less : c.in_ok-label.label.now.feature < length c.self.inside.names.keys = search rules in
    name_at c.args.self.now.names c.in_ok-label.label.now.feature c.args.name.now (rw (← c.self.view_is) spelled) (rw (← c.self.view_is) less) (search rules)
