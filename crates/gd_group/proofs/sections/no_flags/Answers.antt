use Rattle.std.proofs.Common.{◌≡◌, ◌∙◌, ap, false, replicate, rules}
use Rattle.gd_group.proofs.sections.no_flags.Goals as goal

pub returns : goal.returns
returns c =
    let all : c.loop.counter ≡ 1000 = search rules in
    c.loop.invariant ∙ ap (λ n. replicate n false) all
