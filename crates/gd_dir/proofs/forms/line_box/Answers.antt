use Rattle.std.proofs.Common.{arith, rules, subst, sym, ◌≡◌}
use Rattle.gd_dir.proofs.FormCells.{are_lines, with_offsets}
use Rattle.gd_dir.specs.FormBoxes.{offset_at}
use Rattle.gd_dir.specs.Forms.{cells_of, coordinates_of}
use Rattle.gd_dir.specs.declared.shape.FormShape.TheVariants.{Line}
use Rattle.gd_grid.proofs.Grids.{all_have_boxes}
use Rattle.gd_grid.proofs.Steps.{cell_root}
use Rattle.gd_grid.specs.Cells.{high_in, low_in}
use Rattle.gd_grid.specs.Turns.{HasBox}
use Rattle.gd_dir.proofs.forms.line_box.Goals as goal

pub coordinate_box-third-requires : goal.coordinate_box-third-requires
coordinate_box-third-requires c = subst (λ k. HasBox k 2 4 c.args.c.now) (sym c.about-offset.ensures)
    (all_have_boxes 3 (coordinates_of Line c.args.shift) c.args.c.now (are_lines c.args.shift c.requires.shift)
    c.requires.cell 2 (omega arith))

pub coordinate_box-fourth-requires : goal.coordinate_box-fourth-requires
coordinate_box-fourth-requires c = subst
    (λ k. HasBox k 3 4 c.args.c.now) (sym c.about-offset.ensures)
    (all_have_boxes 3 (coordinates_of Line c.args.shift) c.args.c.now (are_lines c.args.shift c.requires.shift)
    c.requires.cell 3 (omega arith))

pub ratios_box-requires : goal.ratios_box-requires
ratios_box-requires c =
    let root = cell_root (cells_of Line c.args.shift) c.args.c.now c.requires.cell in
    record {
      first_root = root.0;
      last_root = root.1;
      first = all_have_boxes 3 (coordinates_of Line c.args.shift) c.args.c.now (are_lines c.args.shift
          c.requires.shift) c.requires.cell 0 (omega arith);
      second = all_have_boxes 3 (coordinates_of Line c.args.shift) c.args.c.now (are_lines c.args.shift
          c.requires.shift) c.requires.cell 1 (omega arith);
    }

pub returns : goal.returns
returns c =
    let f : c.offset_at.result
    ≡ offset_at c.args.c.now.root (low_in (coordinates_of Line c.args.shift) 2 c.args.c.now)
    (low_in (coordinates_of Line c.args.shift) 3 c.args.c.now) = search rules in
    let g : c.offset_at-2.result
    ≡ offset_at c.args.c.now.root (high_in (coordinates_of Line c.args.shift) 2 c.args.c.now)
    (high_in (coordinates_of Line c.args.shift) 3 c.args.c.now) = search rules in
    with_offsets c.args.shift c.args.c.now c.ratios_box.result c.offset_at.result c.offset_at-2.result
    c.ratios_box.ensures f g
