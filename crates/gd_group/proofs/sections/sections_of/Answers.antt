use Rattle.std.proofs.Common.{◌∙◌, ℕ, List, ap, map}
use Rattle.std.specs.Prelude.{slice_get}
use Rattle.std.proofs.lemmas.List.{take_all}
use Rattle.gd_group.specs.Met.{group_in}
use Rattle.gd_group.specs.Requirements.{first_ones}
use Rattle.gd_group.proofs.SectionLists.{by-number}
use Rattle.gd_group.proofs.sections.sections_of.Goals as goal

pub returns : goal.returns
returns c =
    let rows = c.args.index.now.table.now.rows in
    let numbers = c.rows_of-numbers.result.now in
    let groups : List ℕ → List ℕ = λ ns. map (λ (i : ℕ). group_in (slice_get rows i)) ns in
    c.loop-number.invariant.sections
    ∙ ap (λ ns. first_ones (groups ns)) (take_all c.loop-number.number-index numbers c.loop-number-test.false)
    ∙ ap (λ ns. first_ones (groups ns)) c.rows_of-numbers.ensures.all
    ∙ ap first_ones (by-number c.args.def.now.feature rows)
