use Rattle.std.proofs.Common.{rules, ◌≡◌, ◌∙◌, ◌-◌, ◌≤◌}
use Rattle.std.specs.Prelude.{slice_get}
use Rattle.gd_bound.proofs.Groups.{row-inside, row-named}
use Rattle.gd_bound.proofs.evidence.named_row.Goals as goal

pub returns-else-number-eq0-clause-row : goal.returns-else-number-eq0-clause-row
returns-else-number-eq0-clause-row c =
    let z : 1 ≤ c.args.number = search rules in
    let e : c.row.result ≡ slice_get c.args.view.now.subject.now.index.now.table.now.rows (c.args.number - 1) = rw c.table.ensures at c.row.ensures.row in
    e ∙ row-named c.args.view.now.subject.now.index.now.table.now.rows c.args.number z

pub returns-else-number-eq0-clause-inside : goal.returns-else-number-eq0-clause-inside
returns-else-number-eq0-clause-inside c =
    let e : c.row.result ≡ slice_get c.args.view.now.subject.now.index.now.table.now.rows (c.args.number - 1) = rw c.table.ensures at c.row.ensures.row in
    row-inside c.row.result c.args.view.now.subject.now.index.now.table.now.rows c.args.number e
