use Rattle.std.proofs.Common.{arith, subst, sym}
use Rattle.gd_dir.proofs.FormCells.{are_circles}
use Rattle.gd_dir.specs.Forms.{coordinates_of}
use Rattle.gd_dir.specs.declared.shape.FormShape.TheVariants.{Circle}
use Rattle.gd_grid.proofs.Grids.{all_have_boxes}
use Rattle.gd_grid.specs.Turns.{HasBox}
use Rattle.gd_dir.proofs.forms.circle_box.Goals as goal

pub coordinate_box-first-requires : goal.coordinate_box-first-requires
coordinate_box-first-requires c = subst (λ k. HasBox k 0 2 c.args.c.now) (sym c.about-offset.ensures)
    (all_have_boxes 1 (coordinates_of Circle c.args.shift) c.args.c.now (are_circles c.args.shift c.requires.shift)
    c.requires.cell 0 (omega arith))

pub coordinate_box-second-requires : goal.coordinate_box-second-requires
coordinate_box-second-requires c = subst
    (λ k. HasBox k 1 2 c.args.c.now) (sym c.about-offset.ensures)
    (all_have_boxes 1 (coordinates_of Circle c.args.shift) c.args.c.now (are_circles c.args.shift c.requires.shift)
    c.requires.cell 1 (omega arith))
