use Rattle.std.proofs.Common.{◌≡◌, ◌∙◌, ltb, rules}
use Rattle.std.proofs.lemmas.List.Sorted.{IsPartitionPoint-from_clause, IsPartitionedBy-ltb}
use Rattle.gd_flat.proofs.Among.{stands-first, stands-nowhere}
use Rattle.gd_flat.proofs.feature.first_of.Goals as goal

pub returns-then-stands_at-clause-first : goal.returns-then-stands_at-clause-first
returns-then-stands_at-clause-first c =
    let xs = c.args.numbers.now in
    let n = c.args.number in
    let at = c.partition_point-at.result in
    let point = IsPartitionPoint-from_clause (λ i. ltb i n) xs at c.partition_point-at.ensures.partitioned (IsPartitionedBy-ltb (λ i. i) xs n c.requires) (λ a r q k. search rules) in
    stands-first xs n at c.stands_at.result point c.stands_at.ensures.inside c.stands_at.ensures.past c.if-stands_at.true

pub returns-else-stands_at-clause-first : goal.returns-else-stands_at-clause-first
returns-else-stands_at-clause-first c =
    let xs = c.args.numbers.now in
    let n = c.args.number in
    let at = c.partition_point-at.result in
    let point = IsPartitionPoint-from_clause (λ i. ltb i n) xs at c.partition_point-at.ensures.partitioned (IsPartitionedBy-ltb (λ i. i) xs n c.requires) (λ a r q k. search rules) in
    stands-nowhere xs n at c.stands_at.result c.requires point c.stands_at.ensures.inside c.stands_at.ensures.past c.if-stands_at.false
