use Rattle.std.proofs.Common.{◌∙◌, ap}
use Rattle.gd_flat.specs.FlatTests.{first_evidence}
use Rattle.gd_flat.specs.Judged.{chosen_rows}
use Rattle.gd_dir.proofs.Halves.{grid_has_face_cells}
use Rattle.gd_flat.proofs.Leading.{box_leads}
use Rattle.gd_flat.proofs.task.FlatTaskTask.refutes.Goals as goal

pub face_box-requires : goal.face_box-requires
face_box-requires c = record { cell = grid_has_face_cells c.args.cell.now c.requires }

pub first_evidence_in-requires-clause-leads : goal.first_evidence_in-requires-clause-leads
first_evidence_in-requires-clause-leads c = rw c.face_box.ensures.ends (box_leads c.args.cell.now (grid_has_face_cells c.args.cell.now c.requires))

pub returns : goal.returns
returns c =
    let s = c.args.self.now in
    c.first_evidence_in.ensures ∙ ap (λ rows. first_evidence rows s.tolerance c.face_box.result) (ap (chosen_rows s.points.table.now.rows) s.all) ∙ ap (first_evidence s.points.table.now.rows s.tolerance) c.face_box.ensures.ends
