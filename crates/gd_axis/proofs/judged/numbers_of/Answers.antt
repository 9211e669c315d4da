use Rattle.std.proofs.Common.{◌≡◌, ℕ, length, slice_get, subst, sym}
use Rattle.std.specs.List.Sorted.{IsNonDecreasingBy}
use Rattle.gd_flat.proofs.Among.{ascending}
use Rattle.gd_points.specs.Index.{is_of, is_of_group, passes}
use Rattle.gd_axis.proofs.judged.numbers_of.Goals as goal

pub returns-in-None-clause-ascending : goal.returns-in-None-clause-ascending
returns-in-None-clause-ascending c =
    let rows = c.args.index.now.table.now.rows in
    subst (IsNonDecreasingBy (λ (n : ℕ). n)) (sym c.rows_of.ensures.all) (ascending (λ i. passes (is_of c.args.feature) (slice_get rows i)) (length rows))

pub returns-in-Some-clause-ascending : goal.returns-in-Some-clause-ascending
returns-in-Some-clause-ascending c =
    let rows = c.args.index.now.table.now.rows in
    subst (IsNonDecreasingBy (λ (n : ℕ). n)) (sym c.rows_of_group.ensures.all) (ascending (λ i. passes (is_of_group c.args.feature c.in-Some.group) (slice_get rows i)) (length rows))
