use Rattle.std.proofs.Common.{◌≡◌, ◌∙◌, ap, arith, subst, sym}
use Rattle.std.proofs.lemmas.List.Elements.{All-push}
use Rattle.gd_fit.proofs.Listed.{one-more}
use Rattle.gd_fit.specs.Subjects.{AreJudged, SpeakOf, conditions_of}
use Rattle.gd_zone.specs.Conditions.{IsCondition}
use Rattle.gd_zone.specs.declared.subject.Subject.{Subject}
use Rattle.gd_fit.proofs.task.subjects_of.Goals as goal

pub loop-at-preserved : goal.loop-at-preserved
loop-at-preserved c =
    let inv = c.loop-at.invariant in
    record {
      conditions = ap conditions_of c.in_ok-push.ensures.items
          ∙ one-more c.args.conditions.now c.loop-at.subjects.items c.loop-at.at _ c.of.result
          (omega (arith, c.loop-at-test.true)) inv.conditions c.of.ensures.condition;
      count = omega (arith, inv.count, c.in_ok-push.ensures.len);
      judged = subst AreJudged (sym c.in_ok-push.ensures.items)
          (All-push (λ (s : Subject). IsCondition s.condition) c.loop-at.subjects.items c.of.result inv.judged
          (subst IsCondition (sym c.of.ensures.condition)
          (c.requires.conditions c.loop-at.at _ (omega (arith, c.loop-at-test.true)))));
      of_table = subst (SpeakOf c.args.index.now.table.now.rows) (sym c.in_ok-push.ensures.items)
          (All-push (λ (s : Subject). s.index.now.table.now.rows ≡ c.args.index.now.table.now.rows)
          c.loop-at.subjects.items c.of.result inv.of_table c.of.ensures.index);
    }
