use Rattle.std.proofs.Common.{◌≡◌, ◌∙◌, ℕ, ◌+◌, ◌-◌, List, ap, arith, length, drop, leb, ltb, rules, subst, sym, take}
use Rattle.std.specs.List.Sorted.{IsNonDecreasingBy}
use Rattle.std.proofs.lemmas.List.{take_rest}
use Rattle.std.proofs.lemmas.List.Sorted.{IsNonDecreasingBy-drop, IsPartitionPoint-from_clause, IsPartitionedBy-leb, IsPartitionedBy-ltb}
use Rattle.gd_points.proofs.Ordered.{between}
use Rattle.gd_points.specs.Index.{key_at}
use Rattle.gd_points.proofs.index.places_of.Goals as goal

pub returns-clause-all : goal.returns-clause-all
returns-clause-all c =
    let key : ℕ → ℕ = key_at c.args.order c.args.labels.now in
    let numbers : List ℕ = c.args.numbers.now in
    let from : ℕ = c.partition_point-from.result in
    let count : ℕ = c.partition_point-count.result in
    let rest : List ℕ = take (length numbers - from) (drop from numbers) in
    let is : rest ≡ drop from numbers = take_rest numbers from in
    let many : (from + count) - from ≡ count = omega arith in
    let up = subst (IsNonDecreasingBy key) (sym is) (IsNonDecreasingBy-drop key from numbers c.requires.up) in
    let low = IsPartitionPoint-from_clause (λ i. ltb (key i) c.args.key) numbers from c.partition_point-from.ensures.partitioned (IsPartitionedBy-ltb key numbers c.args.key c.requires.up) (λ a r q k. search rules) in
    let high = IsPartitionPoint-from_clause (λ i. leb (key i) c.args.key) rest count c.partition_point-count.ensures.partitioned (IsPartitionedBy-leb key rest c.args.key up) (λ a r q k. search rules) in
    ap (λ n. take n (drop from numbers)) many ∙ ap (take count) (sym is)
    ∙ between key c.args.key numbers rest from count is c.partition_point-from.ensures.bound c.partition_point-count.ensures.bound low high ∙ c.requires.same c.args.key
