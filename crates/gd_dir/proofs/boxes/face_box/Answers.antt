use Rattle.gd_dir.proofs.Enclosure.{box_encloses, box_fits, box_widths}
use Rattle.gd_dir.proofs.boxes.face_box.Goals as goal

pub returns-clause-fits : goal.returns-clause-fits
returns-clause-fits c = rw c.box_at.ensures (box_fits c.args.c.now c.requires.cell)

pub returns-clause-encloses : goal.returns-clause-encloses
returns-clause-encloses c = rw c.box_at.ensures (box_encloses c.args.c.now c.requires.cell)

pub returns-clause-widths : goal.returns-clause-widths
returns-clause-widths c = rw c.box_at.ensures (box_widths c.args.c.now c.requires.cell)
