use Rattle.std.proofs.Common.{◌≡◌, ◌≤◌, ◌+◌, ◌*◌, ◌==◌, arith, false, refl, rules, subst}
use Rattle.gd_base.specs.Limits.{GROUP}
use Rattle.gd_points.proofs.NextGroup.{its_group, its_size, kept_order, key_above, key_less, no_group, other_feature}
use Rattle.gd_points.proofs.index.PointIndex.next_group.Goals as goal

pub returns-in_err-next-clause-none : goal.returns-in_err-next-clause-none
returns-in_err-next-clause-none c = λ _ group above.
    let ordered = kept_order c.labels.result.now _ c.as_slice-numbers.result.now _ c.labels.ensures.labels c.as_slice-numbers.ensures.value c.args.self.now.groups.ordered in
    no_group c.args.self.now.table.now.rows c.labels.result.now c.as_slice-numbers.result.now c.args.feature group c.labels.ensures.labels ordered c.labels.ensures.groups
    (λ most. c.in_err-next.ensures.none refl (c.args.feature * 4294967296 + group) (key_above c.args.feature c.args.from group c.key_of-key.result c.key_of-key.ensures above))

pub returns-then-next-feature-clause-within : goal.returns-then-next-feature-clause-within
returns-then-next-feature-clause-within c = its_size c.args.self.now.table.now.rows c.labels.result.now c.in_ok-next.next GROUP c.labels.ensures.labels c.labels.ensures.groups c.in_ok-next.ensures.at

pub returns-then-next-feature-clause-has : goal.returns-then-next-feature-clause-has
returns-then-next-feature-clause-has c =
    let is : c.in_ok-next.next.feature ≡ c.args.feature = search rules in
    its_group c.args.self.now.table.now.rows c.labels.result.now c.in_ok-next.next c.args.feature c.labels.ensures.labels c.in_ok-next.ensures.at is

pub returns-then-next-feature-clause-least : goal.returns-then-next-feature-clause-least
returns-then-next-feature-clause-least c = λ group above less.
    let is : c.in_ok-next.next.feature ≡ c.args.feature = search rules in
    let ordered = kept_order c.labels.result.now _ c.as_slice-numbers.result.now _ c.labels.ensures.labels c.as_slice-numbers.ensures.value c.args.self.now.groups.ordered in
    no_group c.args.self.now.table.now.rows c.labels.result.now c.as_slice-numbers.result.now c.args.feature group c.labels.ensures.labels ordered c.labels.ensures.groups
    (λ most. c.in_ok-next.ensures.first (c.args.feature * 4294967296 + group) (key_above c.args.feature c.args.from group c.key_of-key.result c.key_of-key.ensures above)
    (key_less c.args.feature group c.in_ok-next.next.feature c.in_ok-next.next.group is less))

pub returns-else-next-feature-clause-none : goal.returns-else-next-feature-clause-none
returns-else-next-feature-clause-none c = λ _ group above.
    let other : (c.in_ok-next.next.feature == c.args.feature) ≡ false = search rules in
    let small = its_size c.args.self.now.table.now.rows c.labels.result.now c.in_ok-next.next 999 c.labels.ensures.labels c.labels.ensures.groups c.in_ok-next.ensures.at in
    let ordered = kept_order c.labels.result.now _ c.as_slice-numbers.result.now _ c.labels.ensures.labels c.as_slice-numbers.ensures.value c.args.self.now.groups.ordered in
    let up = subst (λ n. n ≤ c.in_ok-next.next.feature * 4294967296 + c.in_ok-next.next.group) c.key_of-key.ensures c.in_ok-next.ensures.from in
    no_group c.args.self.now.table.now.rows c.labels.result.now c.as_slice-numbers.result.now c.args.feature group c.labels.ensures.labels ordered c.labels.ensures.groups
    (λ most. c.in_ok-next.ensures.first (c.args.feature * 4294967296 + group) (key_above c.args.feature c.args.from group c.key_of-key.result c.key_of-key.ensures above)
    (other_feature c.args.feature c.args.from group c.in_ok-next.next.feature c.in_ok-next.next.group up (omega (arith, small)) most other))
