use Rattle.gd_fit.specs.Laws.Task.{held_places_fit, none_fits, numbers_stand, refuted_is_unmet}
use Rattle.gd_fit.proofs.laws.fits_are_meant.Goals as goal

pub returns : goal.returns
returns c = record {
  held = held_places_fit;
  refuted = refuted_is_unmet;
  none = none_fits;
  numbers = numbers_stand;
}
