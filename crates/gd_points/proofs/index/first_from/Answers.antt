use Rattle.std.proofs.Common.{ℕ, ltb, rules}
use Rattle.std.proofs.lemmas.List.Sorted.{IsPartitionPoint-from_clause, IsPartitionedBy-ltb}
use Rattle.gd_points.proofs.NextGroup.{from_first, is_label, none_before, none_from}
use Rattle.gd_points.specs.Index.{key_at}
use Rattle.gd_points.proofs.index.first_from.Goals as goal

pub returns-in_err-number-clause-none : goal.returns-in_err-number-clause-none
returns-in_err-number-clause-none c = λ _ k above.
    let key : ℕ → ℕ = key_at c.args.order c.args.labels.now in
    let point = IsPartitionPoint-from_clause (λ i. ltb (key i) c.args.key) c.args.numbers.now c.partition_point-at.result c.partition_point-at.ensures.partitioned (IsPartitionedBy-ltb key c.args.numbers.now c.args.key c.requires.ordered.up) (λ a r q k. search rules) in
    none_from key c.args.numbers.now c.partition_point-at.result c.args.key k c.in_err-number.ensures.lookup.3 point above

pub returns-clause-at : goal.returns-clause-at
returns-clause-at c = is_label c.args.labels.now c.args.numbers.now c.partition_point-at.result c.in_ok-number.number.now _ c.in_ok-number.ensures.lookup.3.0 c.in_ok-number.ensures.lookup.1 c.requires.below

pub returns-clause-from : goal.returns-clause-from
returns-clause-from c =
    let key : ℕ → ℕ = key_at c.args.order c.args.labels.now in
    let point = IsPartitionPoint-from_clause (λ i. ltb (key i) c.args.key) c.args.numbers.now c.partition_point-at.result c.partition_point-at.ensures.partitioned (IsPartitionedBy-ltb key c.args.numbers.now c.args.key c.requires.ordered.up) (λ a r q k. search rules) in
    from_first c.args.order c.args.labels.now c.args.numbers.now c.partition_point-at.result c.in_ok-number.number.now c.args.key _ c.in_ok-number.ensures.lookup.3.0 c.in_ok-number.ensures.lookup.1 c.requires.below point

pub returns-clause-first : goal.returns-clause-first
returns-clause-first c = λ k above less.
    let key : ℕ → ℕ = key_at c.args.order c.args.labels.now in
    let point = IsPartitionPoint-from_clause (λ i. ltb (key i) c.args.key) c.args.numbers.now c.partition_point-at.result c.partition_point-at.ensures.partitioned (IsPartitionedBy-ltb key c.args.numbers.now c.args.key c.requires.ordered.up) (λ a r q k. search rules) in
    none_before c.args.order c.args.labels.now c.args.numbers.now c.partition_point-at.result c.in_ok-number.number.now c.args.key _ c.in_ok-number.ensures.lookup.3.0 c.in_ok-number.ensures.lookup.1 c.requires.below c.requires.ordered.up point k above less
