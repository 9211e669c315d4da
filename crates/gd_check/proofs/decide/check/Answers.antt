use Rattle.std.proofs.Common.{◌∙◌, map}
use Rattle.std.proofs.lemmas.List.Elements.{All-map}
use Rattle.std.specs.List.{All}
use Rattle.gd_cert.specs.Certificates.{certificate_of}
use Rattle.gd_check.proofs.Groups.{Keeps, keeps_of}
use Rattle.gd_check.proofs.Meant.{bodies_true}
use Rattle.gd_check.proofs.Wholes.{valid_exactly}
use Rattle.gd_check.proofs.decide.check.Goals as goal

pub returns-clause-valid : goal.returns-clause-valid
returns-clause-valid g c =
    valid_exactly (map g.T.Task.questions c.args.tasks.now)
    (All-map Keeps g.T.Task.questions c.args.tasks.now (λ k d low. keeps_of (c.show_laws.ensures _)))
    (certificate_of c.args.cert.now) c.told.result (c.told.ensures ∙ c.in_ok-wrong.ensures)

pub returns-clause-means : goal.returns-clause-means
returns-clause-means g c =
    let keeps : All Keeps (map g.T.Task.questions c.args.tasks.now) =
    All-map Keeps g.T.Task.questions c.args.tasks.now (λ k d low. keeps_of (c.show_laws.ensures _)) in
    λ valid. bodies_true g.T.Task.questions g.T.Task.feasible g.T.Task.inside g.T.Task.assignment c.show_laws.ensures c.args.tasks.now c.args.cert.now.share (certificate_of c.args.cert.now).groups
    ((valid_exactly (map g.T.Task.questions c.args.tasks.now) keeps (certificate_of c.args.cert.now) c.told.result (c.told.ensures ∙ c.in_ok-wrong.ensures)).0 valid).groups
