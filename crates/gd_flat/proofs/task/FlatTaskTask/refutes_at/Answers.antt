use Rattle.std.proofs.Common.{◌∙◌, ap}
use Rattle.gd_flat.specs.FlatTests.{is_refuted}
use Rattle.gd_flat.specs.Judged.{chosen_rows}
use Rattle.gd_dir.proofs.Halves.{grid_has_face_cells}
use Rattle.gd_flat.proofs.Leading.{box_leads}
use Rattle.gd_flat.proofs.task.FlatTaskTask.refutes_at.Goals as goal

pub face_box-requires : goal.face_box-requires
face_box-requires c = record { cell = grid_has_face_cells c.args.cell.now c.requires }

pub is_refuted_at-requires-clause-leads : goal.is_refuted_at-requires-clause-leads
is_refuted_at-requires-clause-leads c = rw c.face_box.ensures.ends (box_leads c.args.cell.now (grid_has_face_cells c.args.cell.now c.requires))

pub returns : goal.returns
returns c =
    let s = c.args.self.now in
    let e = c.args.evidence.now in
    c.is_refuted_at.ensures ∙ ap (λ rows. is_refuted rows s.tolerance c.face_box.result e) (ap (chosen_rows s.points.table.now.rows) s.all) ∙ ap (λ b. is_refuted s.points.table.now.rows s.tolerance b e) c.face_box.ensures.ends
