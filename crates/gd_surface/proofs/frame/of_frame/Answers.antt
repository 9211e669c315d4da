use Rattle.std.proofs.Common.{◌∙◌, ap, sym, option_map, List}
use Rattle.std.specs.Prelude.{slice_get}
use Rattle.std.proofs.lemmas.Option.{slice_get-map, slice_get_past}
use Rattle.gd_datum.proofs.Listing.{none-listed}
use Rattle.gd_tables.specs.Kinds.{frame_of}
use Rattle.gd_tables.specs.declared.file.FrameDef.{FrameDef}
use Rattle.gd_surface.proofs.frame.of_frame.Goals as goal

pub returns-in-None : goal.returns-in-None
returns-in-None c =
    let place = c.args.frame in
    let past = ap (λ (xs : List FrameDef). slice_get xs place) (sym c.deref.ensures.value) ∙ slice_get_past c.deref.result.now place c.in-None.ensures.lookup.3 in
    let none = slice_get-map frame_of c.args.file.now.frames.items place ∙ ap (option_map frame_of) past in
    c.new.ensures.items ∙ sym (none-listed _ _ none)
