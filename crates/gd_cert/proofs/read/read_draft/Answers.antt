use Rattle.std.proofs.Common.{◌∙◌, subst, arith}
use Rattle.gd_base.specs.Causes.{IsCause}
use Rattle.gd_cert.specs.Drafts.{draft_of}
use Rattle.gd_cert.specs.Reading.{cert_cause}
use Rattle.gd_cert.proofs.Steps.{failed, took}
use Rattle.gd_cert.proofs.read.read_draft.Goals as goal

pub returns-in-Err : goal.returns-in-Err
returns-in-Err c =
    subst (λ r. IsCause (cert_cause c.in-Err.fault) r) c.loop-text.invariant.left
    (failed c.loop-text.line (draft_of c.loop-text.draft) (draft_of c.take_text.new.draft) c.in-Err.fault c.in-Some.text.now c.in-Some.more.now c.loop-text.rest.now c.in-Some.ensures.0 c.in-Err.ensures)

pub loop-text-preserved : goal.loop-text-preserved
loop-text-preserved c = record {
  left = took c.loop-text.line (draft_of c.loop-text.draft) (draft_of c.take_text.new.draft) c.in-Some.text.now c.in-Some.more.now c.loop-text.rest.now c.in-Some.ensures.0 c.in-Ok.ensures ∙ c.loop-text.invariant.left;
  room = omega (arith, c.loop-text.invariant.room, c.in-Some.ensures.1);
}
