use Rattle.std.proofs.Common.{◌∙◌, ap, subst, sym}
use Rattle.gd_group.proofs.TaskLists.{group-at, tasks-more}
use Rattle.gd_group.specs.Members.{IsGroup}
use Rattle.gd_group.specs.Tasks.{group_asked}
use Rattle.gd_tables.specs.Kinds.{file_of}
use Rattle.gd_group.proofs.maker.tasks_of.Goals as goal

pub task_of-requires-clause-group : goal.task_of-requires-clause-group
task_of-requires-clause-group c =
    let rows = c.args.index.now.table.now.rows in
    let file = file_of c.args.file.now in
    subst (IsGroup file rows) (sym c.deref.ensures.value)
    (group-at (IsGroup file rows) c.args.groups.now c.loop-group.group-index c.group-item.result c.loop-group-test.true c.group-item.is c.requires.groups)

pub loop-group-preserved : goal.loop-group-preserved
loop-group-preserved c =
    let asked = group_asked (file_of c.args.file.now) c.args.index.now.table.now.rows in
    tasks-more asked c.args.groups.now c.loop-group.group-index c.group-item.result c.loop-group.tasks.items c.push.new.self.items c.in_ok-task_of.field-0
    c.loop-group-test.true c.group-item.is c.in_ok-push.ensures.items c.loop-group.invariant (c.in_ok-task_of.ensures ∙ ap asked c.deref.ensures.value)
