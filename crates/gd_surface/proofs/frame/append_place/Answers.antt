use Rattle.std.proofs.lemmas.Option.{slice_get_past}
use Rattle.gd_datum.proofs.Listing.{none-listed, with-none}
use Rattle.gd_surface.proofs.frame.append_place.Goals as goal

pub returns-in-None : goal.returns-in-None
returns-in-None c =
    with-none c.args.into.now.items _ (none-listed _ _ (slice_get_past c.args.features.now c.args.place c.in-None.ensures.lookup.3))
