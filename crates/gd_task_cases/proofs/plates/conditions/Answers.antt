use Rattle.std.proofs.Common.{◌≡◌, ◌≤◌, ◌+◌, List, [], ◌∷◌, ◌++◌, length, arith, subst, sym, ap}
use Rattle.std.proofs.lemmas.List.Elements.{All-push}
use Rattle.std.specs.List.{All}
use Rattle.gd_zone.specs.Conditions.{IsCondition}
use Rattle.gd_zone.specs.declared.condition.Condition.{Condition}
use Rattle.gd_task_cases.proofs.plates.conditions.Goals as goal

pub loop-axis-preserved : goal.loop-axis-preserved
loop-axis-preserved c = record {
  conditions = subst (All IsCondition) (sym c.in_ok-push.ensures.items)
      (All-push IsCondition c.loop-axis.conditions.items c.of_plane.result c.loop-axis.invariant.conditions c.of_plane.ensures);
  few = omega (arith, c.loop-axis.invariant.few, c.in_ok-push.ensures.len);
}

pub loop-x-preserved : goal.loop-x-preserved
loop-x-preserved c = record {
  conditions = subst (All IsCondition) (sym c.in_ok-push-2.ensures.items)
      (All-push IsCondition c.loop-x.conditions.items c.of_hole.result c.loop-x.invariant.conditions c.of_hole.ensures);
  few = omega (arith, c.loop-x.invariant.few, c.in_ok-push-2.ensures.len);
}
