use Rattle.std.proofs.Common.{ap, get_or, ◌∙◌}
use Rattle.gd_frames.proofs.groups.GroupCounts.sections_of.Goals as goal

pub returns : goal.returns
returns c = c.count_at.ensures ∙ ap (λ xs. get_or xs c.args.feature 0) c.as_slice.ensures.value ∙ c.args.self.now.are_sections c.args.feature
