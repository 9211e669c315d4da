use Rattle.std.proofs.Common.{arith, ◌≡◌, ◌∙◌, ◌+◌, ◌++◌, ◌<◌, ℕ, ap, sym, refl, subst, suc, length, List, [], ◌∷◌, get_or, map, take}
use Rattle.std.proofs.Math.Seq.{take-suc}
use Rattle.std.proofs.lemmas.List.{map-append}
use Rattle.gd_base.specs.declared.verdict.Verdict.{Verdict}
use Rattle.gd_cells.specs.Meaning.{Questions}
use Rattle.gd_cert.specs.Certificates.{body_of}
use Rattle.gd_cert.specs.declared.cert.CertGroup.{CertGroup}
use Rattle.gd_judge.proofs.Judging.{judged_more}
use Rattle.gd_judge.proofs.KeptLines.{keeps_more, room}
use Rattle.gd_judge.specs.Judged.{AreJudged, IsJudged}
use Rattle.gd_judge.specs.Outcomes.{bodies_in}
use Rattle.gd_judge.proofs.judge.judge_each.Goals as goal

-- one more of some tasks
next-questions : {T : Type 0} (questions : T → Questions) (tasks : List T) (i : ℕ) (t : T) → i < length tasks → t ≡ get_or tasks i t
    → map questions (take (i + 1) tasks) ≡ map questions (take i tasks) ++ questions t ∷ []
next-questions questions tasks i t less is =
    let one : i + 1 ≡ suc i = omega arith in
    ap (λ n. map questions (take n tasks)) one
    ∙ ap (map questions) (take-suc tasks i t less ∙ ap (λ u. take i tasks ++ u ∷ []) (sym is))
    ∙ map-append questions (take i tasks) (t ∷ [])

-- the lists with one more
more : (qs qs' : List Questions) (share : ℕ) (vs vs' : List Verdict) (gs gs' : List CertGroup) (q : Questions) (v : Verdict) (group : CertGroup)
    → AreJudged qs share vs (bodies_in gs) → IsJudged q share v (body_of group.body) → qs' ≡ qs ++ q ∷ [] → vs' ≡ vs ++ v ∷ [] → gs' ≡ gs ++ group ∷ []
    → AreJudged qs' share vs' (bodies_in gs')
more qs qs' share vs vs' gs gs' q v group all one qs-are vs-are gs-are =
    let whole = judged_more qs share vs (bodies_in gs) q v (body_of group.body) all one in
    let bodies : bodies_in gs' ≡ bodies_in gs ++ body_of group.body ∷ [] = ap bodies_in gs-are ∙ map-append (λ (h : CertGroup). body_of h.body) gs (group ∷ []) in
    subst (λ a. AreJudged a share vs' (bodies_in gs')) (sym qs-are)
    (subst (λ a. AreJudged (qs ++ q ∷ []) share a (bodies_in gs')) (sym vs-are)
    (subst (AreJudged (qs ++ q ∷ []) share (vs ++ v ∷ [])) (sym bodies) whole))

pub loop-task-preserved : goal.loop-task-preserved
loop-task-preserved g c = record {
  judged = more (map g.T.Task.questions (take c.loop-task.task-index c.args.tasks.now)) _ c.args.share c.loop-task.verdicts.items _ c.loop-task.groups.items _
      (g.T.Task.questions c.task-item.result) c.in_ok-judged.judged.verdict
      (record { line = c.loop-task.line; body = c.in_ok-judged.judged.body })
      c.loop-task.invariant.judged c.in_ok-judged.ensures.judged
      (next-questions g.T.Task.questions c.args.tasks.now c.loop-task.task-index c.task-item.result c.loop-task-test.true c.task-item.is)
      c.in_ok-push.ensures.items c.in_ok-push-2.ensures.items;
  kept = rw (c.line_after-next.ensures)
      (keeps_more c.args.share c.loop-task.task-index c.loop-task.line c.loop-task.groups.items _
      (record { line = c.loop-task.line; body = c.in_ok-judged.judged.body }) c.loop-task.invariant.kept refl c.in_ok-push-2.ensures.items c.in_ok-judged.ensures.few);
}

pub line_after-next-requires : goal.line_after-next-requires
line_after-next-requires g c =
    room c.args.share c.loop-task.task-index (length c.args.tasks.now) c.loop-task.line c.loop-task.groups.items (body_of c.in_ok-judged.judged.body) c.loop-task.invariant.kept
    c.loop-task-test.true c.requires.few c.requires.budget c.in_ok-judged.ensures.few
