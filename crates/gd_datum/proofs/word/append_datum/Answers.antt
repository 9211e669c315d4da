use Rattle.std.proofs.Common.{◌∙◌, List, ap, sym}
use Rattle.std.specs.Prelude.{slice_get}
use Rattle.std.proofs.lemmas.Option.{slice_get_past}
use Rattle.gd_datum.proofs.Listing.{none-listed, with-none}
use Rattle.gd_tables.specs.declared.file.FeatureDef.{FeatureDef}
use Rattle.gd_datum.proofs.word.append_datum.Goals as goal

pub returns-in-None : goal.returns-in-None
returns-in-None c =
    let place = c.args.datum.now.feature in
    let past = ap (λ (xs : List FeatureDef). slice_get xs place) (sym c.deref.ensures.value) ∙ slice_get_past c.deref.result.now place c.in-None.ensures.lookup.3 in
    with-none c.args.into.now.items _ (none-listed _ _ past)
