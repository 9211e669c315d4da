use Rattle.gd_grid.proofs.Centres.{boxes_in_range, centres_in_range}
use Rattle.gd_grid.proofs.InTurn.{boxes_in_turn}
use Rattle.gd_grid.proofs.Halves.{boxes_nest, halves_cover, others_stay, roots_cover}
use Rattle.gd_grid.proofs.Grids.{all_have_boxes, coordinates_make_grid, turns_are_halvings}
use Rattle.gd_grid.proofs.Numbers.{in_range_means}
use Rattle.gd_grid.proofs.laws.cells_cover.Goals as goal

pub returns : goal.returns
returns c = record {
  grids = coordinates_make_grid;
  turns = turns_are_halvings;
  closed = boxes_in_turn;
  found = all_have_boxes;
  roots = roots_cover;
  halves = halves_cover;
  others = others_stay;
  nest = boxes_nest;
  range = boxes_in_range;
  centres = centres_in_range;
  places = in_range_means;
}
