use Rattle.std.proofs.Common.{◌∙◌, List, ap, option_map, sym}
use Rattle.std.specs.Prelude.{slice_get}
use Rattle.std.proofs.lemmas.Option.{slice_get-map, slice_get_past}
use Rattle.gd_datum.proofs.Listing.{none-listed, with-none}
use Rattle.gd_datum.specs.Listed.{of_words}
use Rattle.gd_tables.specs.Kinds.{frame_of}
use Rattle.gd_tables.specs.declared.file.FrameDef.{FrameDef}
use Rattle.gd_group.proofs.asked.append_words_of.Goals as goal

pub returns-in-None : goal.returns-in-None
returns-in-None c =
    let place = c.args.requirement.now.frame in
    let past = ap (λ (xs : List FrameDef). slice_get xs place) (sym c.deref.ensures.value) ∙ slice_get_past c.deref.result.now place c.in-None.ensures.lookup.3 in
    let none = slice_get-map frame_of c.args.file.now.frames.items place ∙ ap (option_map frame_of) past in
    let words = of_words c.args.file.now.features.items c.args.file.now.datums.items c.args.index.now.table.now.rows in
    with-none c.args.into.now.items _ (ap words (none-listed _ _ none))
