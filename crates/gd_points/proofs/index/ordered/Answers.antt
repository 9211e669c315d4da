use Rattle.std.proofs.Common.{◌≡◌, ◌∙◌, ◌<◌, ap, sym, subst, ℕ, List, length, filter, ◌==◌, rules}
use Rattle.std.specs.List.{All, range_with_len}
use Rattle.std.proofs.lemmas.Fn.{always_returns_same}
use Rattle.std.proofs.lemmas.List.Sorted.{All-permutation, IsNonDecreasingBy-from_sort}
use Rattle.gd_points.proofs.Ordered.{on_range, same_keys}
use Rattle.gd_points.specs.Index.{key_at}
use Rattle.gd_points.proofs.index.ordered.Goals as goal

pub returns-clause-ordered : goal.returns-clause-ordered
returns-clause-ordered c =
    let key : ℕ → ℕ = key_at c.args.order c.args.labels.now in
    let keys = always_returns_same _ (λ a r. r ≡ key a.0.now) _ (λ a r q k. search rules) in
    let all : c.in_ok-numbers.numbers.items ≡ range_with_len 0 (length c.args.labels.now) = search rules in
    record {
      up = IsNonDecreasingBy-from_sort key _ (c.in_ok-sort_by_key.ensures.sorted key keys);
      same = λ k. same_keys key _ _ (c.sort_by_key.ensures.stable key keys) k ∙ ap (λ (xs : List ℕ). filter (λ i. key i == k) xs) all;
    }

pub returns-clause-below : goal.returns-clause-below
returns-clause-below c =
    let n = length c.args.labels.now in
    let all : c.in_ok-numbers.numbers.items ≡ range_with_len 0 n = search rules in
    All-permutation (λ i. i < n) _ _ c.sort_by_key.ensures.permutation (subst (All (λ i. i < n)) (sym all) (on_range n (λ i. i < n) (λ i less. less)))
