use Rattle.std.proofs.Common.{◌≡◌, ◌∙◌, ltb, rules}
use Rattle.std.proofs.lemmas.List.Sorted.{IsPartitionPoint-from_clause, IsPartitionedBy-ltb}
use Rattle.gd_axis.proofs.Among.{among}
use Rattle.gd_axis.proofs.judged.is_among.Goals as goal

pub returns : goal.returns
returns c =
    let xs = c.args.numbers.now in
    let n = c.args.number in
    let at = c.partition_point-at.result in
    let point = IsPartitionPoint-from_clause (λ i. ltb i n) xs at c.partition_point-at.ensures.partitioned (IsPartitionedBy-ltb (λ i. i) xs n c.requires) (λ a r q k. search rules) in
    among xs n at c.stands_at.result c.requires point c.stands_at.ensures.inside c.stands_at.ensures.past
