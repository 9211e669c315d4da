use Rattle.std.proofs.Common.{◌≡◌, ◌++◌, map, take}
use Rattle.gd_group.specs.Requirements.{requirement}
use Rattle.gd_group.specs.declared.requirement.Part.TheVariants as part
use Rattle.gd_group.proofs.of_frames.push_sections.Given as goal

abbrev pub invariant-loop-section : goal.invariant-loop-section
invariant-loop-section l = l.into.items ≡ l.fn.into.items ++ map (requirement l.number) (map part.Section (take l.section-index l.sections))
