use Rattle.gd_group.proofs.SectionLists.{none-met}
use Rattle.gd_group.proofs.sections.Met.none.Goals as goal

pub returns : goal.returns
returns c = none-met _ c.in_ok-flags.ensures c.new-sections.ensures.items
