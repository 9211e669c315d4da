use Rattle.std.proofs.Common.{arith, ◌∙◌, ap}
use Rattle.std.specs.Prelude.{option_map}
use Rattle.gd_dir.proofs.Halves.{grid_has_face_cells}
use Rattle.gd_flat.proofs.Leading.{box_leads}
use Rattle.gd_flat.specs.FlatFeature.{by_numbers}
use Rattle.gd_flat.specs.FlatTests.{first_evidence}
use Rattle.gd_flat.specs.Judged.{chosen_rows, judged_rows}
use Rattle.gd_flat.proofs.feature.FeatureTaskTask.refutes.Goals as goal

pub face_box-requires : goal.face_box-requires
face_box-requires c = record { cell = grid_has_face_cells c.args.cell.now c.requires }

pub first_evidence_in-first-requires-clause-leads : goal.first_evidence_in-first-requires-clause-leads
first_evidence_in-first-requires-clause-leads c = rw c.face_box.ensures.ends (box_leads c.args.cell.now (grid_has_face_cells c.args.cell.now c.requires))

pub numbered-requires : goal.numbered-requires
numbered-requires c = λ k d h. let below = c.args.self.now.below k d h in omega (arith, below, c.args.self.now.few)

pub returns : goal.returns
returns c =
    let s = c.args.self.now in
    let js = judged_rows s.points.table.now.rows s.numbers.now in
    c.numbered.ensures ∙ ap (option_map (by_numbers s.numbers.now)) (c.first_evidence_in-first.ensures ∙ ap (λ rows. first_evidence rows s.tolerance c.face_box.result) (ap (chosen_rows s.points.table.now.rows) s.listed) ∙ ap (first_evidence js s.tolerance) c.face_box.ensures.ends)
