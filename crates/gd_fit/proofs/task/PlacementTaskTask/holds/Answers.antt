use Rattle.std.proofs.Common.{◌∙◌, ap, List}
use Rattle.std.specs.List.{list_all}
use Rattle.gd_fit.proofs.Listed.{all-hold}
use Rattle.gd_quat.specs.declared.shape.Assignment.{Assignment}
use Rattle.gd_turn.specs.Places.{assignment_at}
use Rattle.gd_zone.specs.Boxes.{grid_placed}
use Rattle.gd_zone.specs.Seen.{subject_holds}
use Rattle.gd_zone.specs.declared.subject.Subject.{Subject}
use Rattle.gd_fit.proofs.task.PlacementTaskTask.holds.Goals as goal

pub returns : goal.returns
returns c =
    let s = c.args.self.now in
    c.holds.ensures.test
    ∙ ap (λ (ss : List Subject). list_all (subject_holds (grid_placed c.placement_at-placement.result) s.base) ss)
    c.deref.ensures.value
    ∙ ap (λ (a : Assignment). list_all (subject_holds (grid_placed a) s.base) s.subjects.items)
    c.placement_at-placement.ensures.value
    ∙ all-hold (grid_placed (assignment_at s.ranges c.args.witness.now)) s.base s.table.now.rows s.subjects.items
    s.of_table
