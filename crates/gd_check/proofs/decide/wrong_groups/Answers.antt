use Rattle.std.proofs.Common.{◌≡◌, ℕ, List, Option, sym, ap, ◌∙◌, map}
use Rattle.gd_cells.specs.Meaning.{Questions}
use Rattle.std.proofs.lemmas.Slice.Zip.{Zip-more, either_empty_from_Zip}
use Rattle.std.specs.Slice.Iter.{iter_rest}
use Rattle.gd_cert.specs.Certificates.{certificate_of}
use Rattle.gd_cert.specs.declared.cert.CertGroup.{CertGroup}
use Rattle.gd_cert.specs.declared.fault.CertFault.{CertFault}
use Rattle.gd_check.proofs.Rests.{Rests, all_left, first_fits, first_keeps, none_left}
use Rattle.gd_check.specs.Wrong.{wrong_bodies}
use Rattle.gd_check.proofs.decide.wrong_groups.Goals as goal

-- the same groups and tasks, by other names
same_rests : {T : Type 0} (questions : T → Questions) (budget : ℕ) (wrong : Option CertFault) (ts us : List T) (gs hs : List CertGroup) → ts ≡ us → gs ≡ hs → Rests questions budget wrong us hs → Rests questions budget wrong ts gs
same_rests questions budget wrong ts us gs hs e f r = rw (e, f) r

pub loop-task-init : goal.loop-task-init
loop-task-init g c =
    let wrong : Option CertFault = wrong_bodies (map g.T.Task.questions c.args.tasks.now) c.args.cert.now.share 5 (certificate_of c.args.cert.now).groups in
    let first : iter_rest c.into_iter-task-iterator.result.a ≡ c.args.tasks.now = ap (λ i. iter_rest i.a) c.into_iter-task-iterator.ensures.into_iter_gives ∙ ap iter_rest c.zip-task-items.ensures.first ∙ c.iter.ensures.rest in
    let second : iter_rest c.into_iter-task-iterator.result.b ≡ c.args.cert.now.groups.items =
    ap (λ i. iter_rest i.b) c.into_iter-task-iterator.ensures.into_iter_gives ∙ ap iter_rest c.zip-task-items.ensures.second ∙ c.iter-2.ensures.rest ∙ c.deref.ensures.value in
    same_rests g.T.Task.questions c.args.cert.now.share wrong _ c.args.tasks.now _ c.args.cert.now.groups.items first second
    (all_left g.T.Task.questions c.args.tasks.now c.args.cert.now c.requires.bounds c.requires.lines c.requires.short)

pub wrong_group-requires-clause-fits : goal.wrong_group-requires-clause-fits
wrong_group-requires-clause-fits g c κs within =
    let wrong : Option CertFault = wrong_bodies (map g.T.Task.questions c.args.tasks.now) c.args.cert.now.share 5 (certificate_of c.args.cert.now).groups in
    let steps = Zip-more c.loop-task.task-iterator c.next.new.self c.next.result (c.in-Some.task, c.in-Some.group) c.in-Some.is c.next.ensures.steps in
    first_fits g.T.Task.questions c.args.cert.now.share wrong c.in-Some.task.now (iter_rest c.next.new.self.a) c.in-Some.group.now (iter_rest c.next.new.self.b)
    (same_rests g.T.Task.questions c.args.cert.now.share wrong _ (iter_rest c.loop-task.task-iterator.a) _ (iter_rest c.loop-task.task-iterator.b) (sym steps.0) (sym steps.1) c.loop-task.invariant)

pub loop-task-preserved : goal.loop-task-preserved
loop-task-preserved g c =
    let wrong : Option CertFault = wrong_bodies (map g.T.Task.questions c.args.tasks.now) c.args.cert.now.share 5 (certificate_of c.args.cert.now).groups in
    let steps = Zip-more c.loop-task.task-iterator c.next.new.self c.next.result (c.in-Some.task, c.in-Some.group) c.in-Some.is c.next.ensures.steps in
    first_keeps g.T.Task.questions c.args.cert.now.share wrong c.in-Some.task.now (iter_rest c.next.new.self.a) c.in-Some.group.now (iter_rest c.next.new.self.b)
    (same_rests g.T.Task.questions c.args.cert.now.share wrong _ (iter_rest c.loop-task.task-iterator.a) _ (iter_rest c.loop-task.task-iterator.b) (sym steps.0) (sym steps.1) c.loop-task.invariant)
    (sym c.in-None-2.is ∙ c.in_ok-fault.ensures)

pub returns : goal.returns
returns g c =
    let wrong : Option CertFault = wrong_bodies (map g.T.Task.questions c.args.tasks.now) c.args.cert.now.share 5 (certificate_of c.args.cert.now).groups in
    none_left g.T.Task.questions c.args.cert.now.share wrong (iter_rest c.loop-task.task-iterator.a) (iter_rest c.loop-task.task-iterator.b) c.loop-task.invariant
    (either_empty_from_Zip c.loop-task.task-iterator c.next.new.self c.next.result c.in-None.is c.next.ensures.steps)
