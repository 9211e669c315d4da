use Rattle.std.proofs.Common.{◌∙◌, ◌<◌, ◌≤◌, ap, subst, sym}
use Rattle.std.specs.List.{All}
use Rattle.gd_group.proofs.Members.{groups-are, groups-few, groups-some}
use Rattle.gd_group.proofs.TaskLists.{same-count}
use Rattle.gd_group.specs.Groups.{groups}
use Rattle.gd_group.specs.Lists.{lists_of}
use Rattle.gd_group.specs.Members.{IsGroup}
use Rattle.gd_group.specs.Tasks.{group_asked}
use Rattle.gd_tables.specs.Kinds.{file_of}
use Rattle.gd_group.proofs.maker.groups.Goals as goal

pub tasks_of-requires-clause-groups : goal.tasks_of-requires-clause-groups
tasks_of-requires-clause-groups c =
    let points = c.args.index.now.table.now in
    let file = file_of c.args.file.now in
    let e = ap lists_of c.deref-2.ensures.value ∙ c.in_ok-groups.ensures ∙ ap (groups file) (c.deref.ensures.value ∙ c.in_ok-requirements.ensures) in
    subst (All (IsGroup file points.rows)) (sym e) (groups-are points file c.requires.file c.show_points.ensures.used)

pub returns-clause-some : goal.returns-clause-some
returns-clause-some c =
    let points = c.args.index.now.table.now in
    let file = file_of c.args.file.now in
    let e = ap lists_of c.deref-2.ensures.value ∙ c.in_ok-groups.ensures ∙ ap (groups file) (c.deref.ensures.value ∙ c.in_ok-requirements.ensures) in
    let count = same-count (group_asked file points.rows) c.in_ok-tasks.tasks.items _ _ c.in_ok-tasks.ensures e in
    subst (λ n. 0 < n) (sym count) (groups-some points file c.requires.file c.show_points.ensures.used)

pub returns-clause-few : goal.returns-clause-few
returns-clause-few c =
    let points = c.args.index.now.table.now in
    let file = file_of c.args.file.now in
    let e = ap lists_of c.deref-2.ensures.value ∙ c.in_ok-groups.ensures ∙ ap (groups file) (c.deref.ensures.value ∙ c.in_ok-requirements.ensures) in
    let count = same-count (group_asked file points.rows) c.in_ok-tasks.tasks.items _ _ c.in_ok-tasks.ensures e in
    subst (λ n. n ≤ 300000) (sym count) (groups-few points file c.requires.file c.show_points.ensures.groups)
