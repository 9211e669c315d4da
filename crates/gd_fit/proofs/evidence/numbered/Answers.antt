use Rattle.std.proofs.Common.{◌∙◌, ◌≤◌, ap, arith}
use Rattle.std.proofs.lemmas.Bool.Decides.{nat_tests}
use Rattle.std.specs.Prelude.{Option, option_map}
use Rattle.gd_fit.proofs.Listed.{borrowed, subject-named}
use Rattle.gd_zone.specs.declared.subject.Subject.{Subject}
use Rattle.gd_fit.proofs.evidence.numbered.Goals as goal

pub returns-else-number-eq0-clause-named : goal.returns-else-number-eq0-clause-named
returns-else-number-eq0-clause-named c =
    let some : 1 ≤ c.args.number = grind (arith, nat_tests) in
    borrowed c.subject_at.result
    ∙ ap (λ (o : Option Subject). option_map (λ (s : Subject). s.condition) o) c.subject_at.ensures.there
    ∙ subject-named c.args.task.now.subjects.items c.args.number some
