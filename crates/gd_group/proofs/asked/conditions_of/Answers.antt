use Rattle.std.proofs.Common.{◌≤◌, length, subst, sym}
use Rattle.gd_group.proofs.Conditions.{group-ok, group-seen}
use Rattle.gd_group.proofs.Counts.{together-bounded}
use Rattle.gd_group.specs.Conditions.{of_group}
use Rattle.gd_tables.specs.Kinds.{file_of}
use Rattle.gd_group.proofs.asked.conditions_of.Goals as goal

pub returns-clause-conditions : goal.returns-clause-conditions
returns-clause-conditions c =
    group-ok c.args.index.now.table.now (file_of c.args.file.now) c.requires.file c.args.group.now

pub returns-clause-points : goal.returns-clause-points
returns-clause-points c =
    group-seen c.args.index.now.table.now (file_of c.args.file.now) c.requires.file c.show_points.ensures.used c.args.group.now

pub returns-clause-few : goal.returns-clause-few
returns-clause-few c = λ r e.
    subst (λ g. length (of_group (file_of c.args.file.now) c.args.index.now.table.now.rows g) ≤ 4096) (sym e)
    (together-bounded c.args.index.now.table.now (file_of c.args.file.now) c.requires.file r)
