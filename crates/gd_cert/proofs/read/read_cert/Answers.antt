use Rattle.std.proofs.Common.{◌∙◌, ap, sym, subst}
use Rattle.std.specs.Prelude.{Ok}
use Rattle.gd_base.specs.Causes.{IsCause}
use Rattle.gd_cert.specs.Bounds.{IsInBounds}
use Rattle.gd_cert.specs.Certificates.{Certificate}
use Rattle.gd_cert.specs.Drafts.{draft_of}
use Rattle.gd_cert.specs.Reading.{cert_cause, certificate_in, reading}
use Rattle.gd_cert.specs.Text.{first_lines, text}
use Rattle.gd_cert.specs.Words.{and_then_read}
use Rattle.gd_cert.proofs.Again.{reading_again}
use Rattle.gd_cert.proofs.Steps.{fails_on}
use Rattle.gd_cert.proofs.Whole.{drafted_found}
use Rattle.gd_cert.proofs.read.read_cert.Goals as goal

pub returns-in-Ok-clause-found : goal.returns-in-Ok-clause-found
returns-in-Ok-clause-found c =
    let found = drafted_found c.args.bytes.now (draft_of c.in-Ok.draft) c.in-Ok.ensures in
    (subst IsInBounds (sym c.into_cert.ensures.certificate) found.0, found.1 ∙ ap text (sym c.into_cert.ensures.certificate))

pub returns-in-Ok-clause-lines : goal.returns-in-Ok-clause-lines
returns-in-Ok-clause-lines c =
    let found = drafted_found c.args.bytes.now (draft_of c.in-Ok.draft) c.in-Ok.ensures in
    c.into_cert.ensures.lines ∙ found.2 ∙ ap (λ (d : Certificate). first_lines 5 d.groups) (sym c.into_cert.ensures.certificate)

pub returns-in-Ok-clause-exact : goal.returns-in-Ok-clause-exact
unfolding reading
returns-in-Ok-clause-exact c =
    ap (λ r. and_then_read r (λ d. Ok (certificate_in d))) c.in-Ok.ensures ∙ ap (λ d. Ok d) (sym c.into_cert.ensures.certificate)

pub returns-in-Ok-clause-only : goal.returns-in-Ok-clause-only
unfolding reading
returns-in-Ok-clause-only c = λ d bounds is.
    sym (ap reading is ∙ reading_again d bounds)
    ∙ (ap (λ r. and_then_read r (λ d. Ok (certificate_in d))) c.in-Ok.ensures ∙ ap (λ d. Ok d) (sym c.into_cert.ensures.certificate))

pub returns-in-Err-clause-exact : goal.returns-in-Err-clause-exact
unfolding reading
returns-in-Err-clause-exact c = fails_on c.in-Err.fault _ (λ d. Ok (certificate_in d)) c.in-Err.ensures

pub returns-in-Err-clause-only : goal.returns-in-Err-clause-only
unfolding reading
returns-in-Err-clause-only c = λ d bounds is.
    subst (λ r. IsCause (cert_cause c.in-Err.fault) r) (ap reading is ∙ reading_again d bounds) (fails_on c.in-Err.fault _ (λ e. Ok (certificate_in e)) c.in-Err.ensures)
