use Rattle.std.proofs.Common.{◌∙◌, ap}
use Rattle.gd_dir.proofs.Halves.{grid_has_face_cells}
use Rattle.gd_flat.proofs.Leading.{box_leads}
use Rattle.gd_flat.specs.FlatTests.{is_refuted}
use Rattle.gd_flat.specs.Judged.{chosen_rows, judged_rows}
use Rattle.gd_dir.specs.Boxes.{box_of}
use Rattle.gd_flat.proofs.feature.FeatureTaskTask.refutes_at.Goals as goal

pub face_box-requires : goal.face_box-requires
face_box-requires c = record { cell = grid_has_face_cells c.args.cell.now c.requires }

pub is_refuted_at-requires-clause-leads : goal.is_refuted_at-requires-clause-leads
is_refuted_at-requires-clause-leads c = rw c.face_box.ensures.ends (box_leads c.args.cell.now (grid_has_face_cells c.args.cell.now c.requires))

pub returns : goal.returns
returns c =
    let s = c.args.self.now in
    let js = judged_rows s.points.table.now.rows s.numbers.now in
    c.is_refuted_at.ensures ∙ ap (λ rows. is_refuted rows s.tolerance c.face_box.result c.by_places-places.result) (ap (chosen_rows s.points.table.now.rows) s.listed)
    ∙ ap (λ b. is_refuted js s.tolerance b c.by_places-places.result) c.face_box.ensures.ends ∙ ap (is_refuted js s.tolerance (box_of c.args.cell.now)) c.by_places-places.ensures
