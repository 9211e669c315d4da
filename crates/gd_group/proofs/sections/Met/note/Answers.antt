use Rattle.std.proofs.Common.{◌∙◌, ◌<◌, arith, false, length, sym, refl}
use Rattle.std.proofs.lemmas.List.{get_or_read}
use Rattle.gd_group.proofs.SectionLists.{met-again, met-new}
use Rattle.gd_group.proofs.sections.Met.note.Goals as goal

pub returns-then-index : goal.returns-then-index
returns-then-index c = λ groups h.
    let within : c.args.group < length c.args.self.now.flags.items = omega (arith, c.requires.group, c.requires.room) in
    met-again groups c.args.group _ c.requires.group (sym (get_or_read c.args.self.now.flags.items c.args.group c.index.result.now within c.index.ensures false) ∙ c.if-index.true) h

pub returns : goal.returns
returns c = λ groups h.
    let within : c.args.group < length c.args.self.now.flags.items = omega (arith, c.requires.group, c.requires.room) in
    met-new groups c.args.group _ _ c.requires.group (sym (get_or_read c.args.self.now.flags.items c.args.group c.index.result.now within c.index.ensures false) ∙ c.if-index.false)
    refl c.in_ok-push.ensures.items h
