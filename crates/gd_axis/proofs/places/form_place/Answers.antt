use Rattle.gd_axis.proofs.PlaceFacts.{place_fits}
use Rattle.gd_axis.proofs.places.form_place.Goals as goal

pub returns-clause-fits : goal.returns-clause-fits
returns-clause-fits c = rw c.place_of.ensures (place_fits c.args.shape c.args.d.now c.args.shift c.args.witness.now c.requires.axis c.requires.shift c.requires.short c.requires.ranges)
